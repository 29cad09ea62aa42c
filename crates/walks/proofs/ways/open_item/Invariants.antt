-- The invariant, `Opening`: along no item from j on and before the one at hand is there a way. The items stand in the order of their
-- numbers, so that the number at hand rises with each turn.
use Prim.Native.Nat.{◌-◌}
use Rattle.walks.proofs.WayLaws.{Opening}
use Rattle.walks.proofs.ways.open_item.Given as goal

abbrev pub invariant-loop-i : goal.invariant-loop-i
invariant-loop-i g l = Opening l.sh l.choice (g.W.Width.memory l.sheet) (g.W.Width.memory l.scratch) l.u l.j l.i

abbrev pub decreases-loop-i : goal.decreases-loop-i
decreases-loop-i g l = l.end - l.i
