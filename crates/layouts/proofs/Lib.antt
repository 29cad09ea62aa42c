-- An old-layout file acts as its week file.
pub mod Layouts
