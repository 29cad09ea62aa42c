-- The invariant: the items before the one at hand have been looked along (`Along`), and none of them leads to the other end. The items
-- stand in the order of their numbers, so that the number at hand rises with each turn.
use Prim.Native.Nat.{◌-◌}
use Rattle.meet.proofs.ScanLaws.{Along}
use Rattle.meet.proofs.step.look_items.Given as goal

abbrev pub invariant-loop-j : goal.invariant-loop-j
invariant-loop-j g l = Along l.sh l.back l.choice (g.W.Width.memory l.sheet) (g.W.Width.memory l.initial.scratch) l.u l.n l.m (g.W.Width.memory l.scratch) l.j l.k

abbrev pub decreases-loop-j : goal.decreases-loop-j
decreases-loop-j g l = l.end - l.j
