-- The labels of nodes, and the codes that are read off them.
pub mod Label
