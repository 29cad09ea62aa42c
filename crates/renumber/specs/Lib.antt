-- The canonical form of a claim file, and the new numbers of its groups.
pub mod Side
pub mod Canonical
pub mod Numbers
