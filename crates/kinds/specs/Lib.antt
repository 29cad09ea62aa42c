-- What settling under the second terms answers and leaves.
pub mod Settle
