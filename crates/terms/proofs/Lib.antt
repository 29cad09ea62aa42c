-- The laws of the two terms.
pub mod Demand
pub mod Either
pub mod Days
