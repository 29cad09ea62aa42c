-- What the contracts say.
pub mod Meaning
