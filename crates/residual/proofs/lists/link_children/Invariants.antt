-- The loop's invariant: the lists are those of the items from child v on. The children are linked from the last one down, each before all
-- that is linked already.
use Prim.Native.Nat.{◌+◌}
use Rattle.residual.specs.Items.{LinkOf}
use Rattle.residual.proofs.lists.link_children.Given as goal

abbrev pub invariant-loop-v : goal.invariant-loop-v
invariant-loop-v g l = LinkOf l.sh (g.W.Width.memory l.sheet) (g.W.Width.memory l.initial.scratch) (g.W.Width.memory l.scratch) (l.sh.rows + l.v)
