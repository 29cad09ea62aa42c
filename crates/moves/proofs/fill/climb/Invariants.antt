-- The walk has come to v, and every group from u up and below v has one place less (`Climbed`).
use Rattle.theory.specs.Chain.{depth}
use Rattle.scratch.specs.Map.{parent_of}
use Rattle.moves.specs.Fill.{Climbed}
use Rattle.moves.proofs.fill.climb.Given as goal

abbrev pub invariant-loop-v : goal.invariant-loop-v
invariant-loop-v g l = Climbed l.sh (g.W.Width.memory l.initial.scratch) (g.W.Width.memory l.scratch) l.u l.v

abbrev pub decreases-loop-v : goal.decreases-loop-v
decreases-loop-v g l = depth l.sh.groups (parent_of l.sh (g.W.Width.memory l.initial.scratch)) l.v
