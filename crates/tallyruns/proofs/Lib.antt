-- Theorems on runs of calls on a tally.
pub mod RunLaws
pub mod Demand
pub mod Examples
