-- The laws that belong to no one function.
pub mod ParentLaws
pub mod SideLaws
pub mod CountLaws
pub mod FoundLaws
