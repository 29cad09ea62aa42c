-- The laws of writing a claim file, and of a file in one layout beside the same in the other.
pub mod PutLaws
pub mod WrittenLaws
pub mod BegunLaws
pub mod ClaimsLaws
pub mod CountsLaws
pub mod WeekLaws
pub mod AlikeLaws
pub mod WidenedLaws
