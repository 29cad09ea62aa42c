-- What the contracts say.
pub mod Order
