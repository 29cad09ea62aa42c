-- The loop's invariant: `best` is the least slack of both arcs of the groups below v, at most the toll.
use Rattle.prices.specs.Step.{GroupsOf}
use Rattle.prices.proofs.step.least_groups.Given as goal

abbrev pub invariant-loop-v : goal.invariant-loop-v
invariant-loop-v g l = GroupsOf l.sh l.choice (g.W.Width.memory l.sheet) (g.W.Width.memory l.scratch) 0 l.v l.sh.toll l.best
