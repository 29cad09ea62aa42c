-- The loop's invariant: the lists are those of the items from row c on. The rows are linked from the last one down, each before all that is
-- linked already.
use Rattle.residual.specs.Items.{LinkOf}
use Rattle.residual.proofs.lists.link_rows.Given as goal

abbrev pub invariant-loop-c : goal.invariant-loop-c
invariant-loop-c g l = LinkOf l.sh (g.W.Width.memory l.sheet) (g.W.Width.memory l.initial.scratch) (g.W.Width.memory l.scratch) l.c
