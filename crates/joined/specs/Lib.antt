-- What settling several counters together answers and leaves (Call), and what its parts ask and promise (Close).
pub mod Call
pub mod Close
