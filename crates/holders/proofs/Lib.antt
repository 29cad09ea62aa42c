-- The laws of the paths, of the two searches and of the codes.
pub mod LabelLaws
pub mod FindLaws
pub mod FoundLaws
