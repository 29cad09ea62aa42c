-- Laws of the text.
pub mod TextLaws
