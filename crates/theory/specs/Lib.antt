-- The definitions of the theory; the laws stand in proofs/. What a reader must believe, for each demand:
--   demand 2   Sum, Forest, Incidence, Network, Matroid
--   demand 3   these, and Priority, Best, Sheet
-- and for spare places those of demand 2, and Spare; for stored files Lowered.
-- The others are what proofs and inner contracts speak of.
pub mod Sum
pub mod Forest
pub mod Incidence
pub mod Network
pub mod Matroid
pub mod Priority
pub mod Best
pub mod Sheet
pub mod Bounds
pub mod Spare
pub mod Lowered
pub mod Capped
pub mod Search
pub mod Chain
pub mod Formed
pub mod Rise
pub mod Level
pub mod Residual
pub mod Step
pub mod Turn
pub mod Walk
pub mod Class
