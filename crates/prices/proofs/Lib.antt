-- The laws that belong to no one function.
pub mod StateLaws
pub mod ReadyLaws
pub mod ShapeLaws
pub mod StepLaws
pub mod MarkLaws
