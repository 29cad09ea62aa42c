-- Laws of selections and of their counts.
pub mod SelectionLaws
pub mod CountLaws
