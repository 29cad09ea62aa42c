-- What the contracts say.
pub mod Search
