-- The loop's invariant: the nodes below v are fresh, and only labels changed.
use Rattle.search.specs.Search.{Refreshed}
use Rattle.search.proofs.refresh.Given as goal

abbrev pub invariant-loop-v : goal.invariant-loop-v
invariant-loop-v g l = Refreshed l.sh (g.W.Width.memory l.initial.scratch) (g.W.Width.memory l.scratch) l.v
