-- The laws that belong to no one function.
pub mod TurnLaws
pub mod FlipLaws
