-- Runs of calls on a tally, and a worked run.
pub mod Runs
pub mod Examples
