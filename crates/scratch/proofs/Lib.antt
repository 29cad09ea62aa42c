-- The laws that belong to no one function.
pub mod PartLaws
pub mod MapLaws
