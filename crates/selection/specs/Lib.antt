-- Selections of the rows of a file: which are bits, and what they count.
pub mod Selection
