-- What beginning a tally promises.
pub mod Begin
