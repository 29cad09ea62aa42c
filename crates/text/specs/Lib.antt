-- Words and numbers as bytes, and what is promised of a lent buffer.
pub mod Text
pub mod Buffer
pub mod Examples
