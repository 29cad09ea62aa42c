-- The laws of writing the tables of a joined day.
pub mod UpLaws
pub mod FilledLaws
pub mod FilesLaws
