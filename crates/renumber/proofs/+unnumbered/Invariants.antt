-- `unnumbered` meets its contract: with g as the measure, each call counts group g where it has no number, and the call from its
-- parent, which is smaller, counts those above it.
use Rattle.renumber.proofs.+unnumbered.Given as goal

abbrev pub decreases-unnumbered : goal.decreases-unnumbered
decreases-unnumbered l = l.g
