-- Laws of the cells of a tally, of what it holds and of its calls.
pub mod WalkLaws
pub mod CellLaws
pub mod HoldLaws
pub mod CallLaws
