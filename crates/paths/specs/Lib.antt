-- What the contracts say.
pub mod Flip
