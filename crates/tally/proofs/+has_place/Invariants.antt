-- `has_place` meets its contract: with u as the measure, a full node ends the walk, so does a node with no smaller one above it, and else
-- the answer is that of the call for the node above.
use Rattle.tally.proofs.+has_place.Given as goal

abbrev pub decreases-has_place : goal.decreases-has_place
decreases-has_place l = l.u
