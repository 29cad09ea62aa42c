-- Laws of several files in one buffer.
pub mod GatherLaws
pub mod FoundLaws
pub mod Examples
