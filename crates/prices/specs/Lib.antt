-- What the contracts say.
pub mod State
pub mod Step
pub mod Marks
