-- What the contracts say.
pub mod Reach
pub mod Look
