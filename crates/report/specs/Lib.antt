-- The text that `settle` writes.
pub mod Text
pub mod Examples
