-- The loop's invariant: the groups from v on have their marks, and the others still their prices. A parent has a smaller number than its
-- child, so the two prices that the next mark needs are still there (`marking-group`).
use Rattle.prices.specs.Marks.{Marking}
use Rattle.prices.proofs.marks.mark_groups.Given as goal

abbrev pub invariant-loop-v : goal.invariant-loop-v
invariant-loop-v g l = Marking l.sh (g.W.Width.memory l.initial.sheet) (g.W.Width.memory l.scratch) (g.W.Width.memory l.sheet) l.v 0
