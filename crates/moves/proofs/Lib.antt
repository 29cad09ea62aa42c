-- The laws that belong to no one function.
pub mod PlaceLaws
pub mod LabelLaws
pub mod NameLaws
pub mod MoveLaws
pub mod JoinLaws
