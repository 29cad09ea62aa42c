-- What spare places answers, and what its functions promise.
pub mod Chain
pub mod Spare
