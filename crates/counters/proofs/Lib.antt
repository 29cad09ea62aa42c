-- The laws of parts that stand one behind the other, of the joined day, and of each counter alone.
pub mod PartLaws
pub mod JoinLaws
pub mod AloneLaws
