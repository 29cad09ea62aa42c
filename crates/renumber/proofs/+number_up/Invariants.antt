-- `number_up` meets its contract: with g as the measure, each call gives group g the last number, and the call from its parent,
-- which is smaller, gives those above it the numbers before.
use Rattle.renumber.proofs.+number_up.Given as goal

abbrev pub decreases-number_up : goal.decreases-number_up
decreases-number_up l = l.g
