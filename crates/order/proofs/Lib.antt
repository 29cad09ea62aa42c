-- The laws that belong to no one function.
pub mod ClassLaws
pub mod OrderLaws
pub mod SwapLaws
