-- What a file is read as.
pub mod Reading
pub mod Sections
pub mod Terms
