-- What the way from tables to codes asks and promises. The codes themselves are defined in the crate `exchange`.
pub mod Find
