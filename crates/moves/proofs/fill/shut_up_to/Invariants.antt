-- The loop's invariant: only marks changed, so the parents are those at entry. The depth of v falls with each turn, also where `end` is never
-- met.
use Rattle.theory.specs.Chain.{depth}
use Rattle.scratch.specs.Map.{parent_of}
use Rattle.moves.specs.Fill.{OnlyMarks}
use Rattle.moves.proofs.fill.shut_up_to.Given as goal

abbrev pub invariant-loop-v : goal.invariant-loop-v
invariant-loop-v g l = OnlyMarks l.sh (g.W.Width.memory l.initial.scratch) (g.W.Width.memory l.scratch)

abbrev pub decreases-loop-v : goal.decreases-loop-v
decreases-loop-v g l = depth l.sh.groups (parent_of l.sh (g.W.Width.memory l.initial.scratch)) l.v
