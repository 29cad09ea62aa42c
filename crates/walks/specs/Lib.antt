-- What the contracts say.
pub mod Walk
