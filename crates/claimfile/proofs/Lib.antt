-- The laws of the claim file.
pub mod WidthLaws
pub mod DayLaws
pub mod CountingLaws
pub mod SameLaws
