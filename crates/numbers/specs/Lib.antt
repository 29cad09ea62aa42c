-- What the calls answer in the numbers that C takes.
pub mod Numbers
