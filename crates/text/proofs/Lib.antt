-- Laws of decimal digits and of appending.
pub mod TextLaws
pub mod BufferLaws
