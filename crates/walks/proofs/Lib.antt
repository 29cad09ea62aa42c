-- The laws that belong to no one function.
pub mod WayLaws
pub mod StackLaws
pub mod WalkLaws
pub mod RoundLaws
