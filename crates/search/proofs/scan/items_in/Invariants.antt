-- The invariant: the items before the one at hand have been looked against (`Along`). The items stand in the order of their numbers, so that
-- the number at hand rises with each turn.
use mathlib.Core.Bool.{true}
use Prim.Native.Nat.{◌-◌}
use Rattle.search.proofs.ScanLaws.{Along}
use Rattle.search.proofs.scan.items_in.Given as goal

abbrev pub invariant-loop-j : goal.invariant-loop-j
invariant-loop-j g l = Along l.sh true l.choice (g.W.Width.memory l.sheet) (g.W.Width.memory l.initial.scratch) l.u l.h l.n (g.W.Width.memory l.scratch) l.j l.k

abbrev pub decreases-loop-j : goal.decreases-loop-j
decreases-loop-j g l = l.end - l.j
