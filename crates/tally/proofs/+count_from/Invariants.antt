-- `count_from` meets its contract: with u as the measure, the count of u changes by one step, and those above it are counted by the call.
use Rattle.tally.proofs.+count_from.Given as goal

abbrev pub decreases-count_from : goal.decreases-count_from
decreases-count_from l = l.u
