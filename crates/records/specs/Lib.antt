-- The record of a group in the canonical file.
pub mod Records
