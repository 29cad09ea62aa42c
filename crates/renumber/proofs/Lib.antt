-- The laws of the new numbers: CellLaws, WalkLaws and NumberLaws are of the functions, the files before them of what they find.
pub mod ChainLaws
pub mod KeyLaws
pub mod OrderLaws
pub mod MapLaws
pub mod SideLaws
pub mod DayLaws
pub mod CellLaws
pub mod WalkLaws
pub mod NumberLaws
