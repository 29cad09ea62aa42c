-- The laws that belong to no one function.
pub mod NodeLaws
pub mod RowLaws
