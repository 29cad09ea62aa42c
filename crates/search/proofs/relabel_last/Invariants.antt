-- The loop's invariant: the nodes in the last i places of the queue have the label x, the others their old one. Only labels change, so the
-- queue that is read is still the one at entry (`labels-read`).
use Rattle.search.specs.Search.{RelabelledIn, from_last}
use Rattle.search.proofs.relabel_last.Given as goal

abbrev pub invariant-loop-i : goal.invariant-loop-i
invariant-loop-i g l = RelabelledIn l.sh (from_last l.sh (g.W.Width.memory l.initial.scratch)) (g.W.Width.memory l.initial.scratch) (g.W.Width.memory l.scratch) l.i l.x
