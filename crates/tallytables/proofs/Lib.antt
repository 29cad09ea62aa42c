-- Laws of the cells of an accepted file and of a tally's beginning.
pub mod FillLaws
pub mod BeginLaws
