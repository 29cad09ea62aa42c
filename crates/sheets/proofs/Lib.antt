-- Laws of the tables of prices and limits, of the cover and of the sums of marks.
pub mod TableLaws
pub mod CoverLaws
