-- The loop's invariant: the nodes in the first i places of the queue have the label x, the others their old one. Only labels change, so the
-- queue that is read is still the one at entry (`labels-read`).
use Rattle.search.specs.Search.{Relabelled}
use Rattle.search.proofs.relabel.Given as goal

abbrev pub invariant-loop-i : goal.invariant-loop-i
invariant-loop-i g l = Relabelled l.sh (g.W.Width.memory l.initial.scratch) (g.W.Width.memory l.scratch) l.i l.x
