-- The bytes of a claim file, written from what it holds.
pub mod Written
pub mod Put
pub mod Week
pub mod Widened
