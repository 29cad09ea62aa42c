-- The loop's invariant: every group from u up and below v has its place back, and `end` lies above v. So v is a group while it is not `end`
-- (`upward-off`), there is room for its place (`gives_fits`), and its depth falls.
use Rattle.theory.specs.Chain.{depth}
use Rattle.scratch.specs.Map.{parent_of}
use Rattle.moves.specs.Fill.{Above, Shifts}
use Rattle.moves.proofs.fill.give_back.Given as goal

abbrev pub invariant-loop-v : goal.invariant-loop-v
invariant-loop-v g l = Shifts l.sh (g.W.Width.memory l.initial.scratch) (g.W.Width.memory l.scratch) l.v l.u × Above l.sh (g.W.Width.memory l.initial.scratch) l.v l.end

abbrev pub decreases-loop-v : goal.decreases-loop-v
decreases-loop-v g l = depth l.sh.groups (parent_of l.sh (g.W.Width.memory l.initial.scratch)) l.v
