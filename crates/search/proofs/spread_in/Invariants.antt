-- Of n reached nodes the first h are done: no step from them leads to a fresh node (`Going`). The target's label changes when it is
-- reached, and never else.
use mathlib.Core.Bool.{true}
use Prim.Native.Nat.{◌+◌, ◌-◌}
use Rattle.search.proofs.QueueLaws.{Going}
use Rattle.search.proofs.spread_in.Given as goal

abbrev pub invariant-loop-h : goal.invariant-loop-h
invariant-loop-h g l = Going l.sh true l.choice (g.W.Width.memory l.sheet) (g.W.Width.memory l.initial.scratch) (g.W.Width.memory l.scratch) l.n l.h

abbrev pub decreases-loop-h : goal.decreases-loop-h
decreases-loop-h g l = l.sh.groups + 3 - l.h
