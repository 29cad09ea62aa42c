-- The laws of what is read off the labels.
pub mod ReadLaws
