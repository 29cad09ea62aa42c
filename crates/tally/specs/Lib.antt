-- What a tally holds, and what its calls answer and leave.
pub mod Cells
pub mod Walks
pub mod Tally
