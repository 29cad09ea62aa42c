-- The laws of the joined file and of its day, and of that of two small files.
pub mod FileLaws
pub mod DayLaws
pub mod Examples
