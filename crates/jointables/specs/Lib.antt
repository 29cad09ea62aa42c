-- What writing the tables of a joined day asks and leaves (Filled).
pub mod Filled
