-- The slip for the counter, and what the call that writes it answers and leaves.
pub mod Slip
pub mod Write
pub mod Lines
pub mod Examples
