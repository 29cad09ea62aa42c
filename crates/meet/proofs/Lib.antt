-- The laws that belong to no one function.
pub mod EndsLaws
pub mod StepLaws
pub mod ScanLaws
pub mod SearchLaws
pub mod SpliceLaws
