-- Laws of the walk, of the places on a side, and of the answers.
pub mod ChainLaws
pub mod SpareLaws
pub mod StoredLaws
pub mod WeekLaws
