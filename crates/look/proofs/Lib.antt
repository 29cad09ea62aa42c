-- The laws that belong to no one function.
pub mod LabelLaws
pub mod ReachLaws
pub mod LookLaws
pub mod StepLaws
