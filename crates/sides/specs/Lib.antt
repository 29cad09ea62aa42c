-- What the contracts say.
pub mod Side
pub mod Ready
pub mod Found
