-- The loop's invariant: the first c rows have their marks, and the groups still their prices, which lie in other cells (`marking-row`).
use Rattle.prices.specs.Marks.{Marking}
use Rattle.prices.proofs.marks.mark_rows.Given as goal

abbrev pub invariant-loop-c : goal.invariant-loop-c
invariant-loop-c g l = Marking l.sh (g.W.Width.memory l.initial.sheet) (g.W.Width.memory l.scratch) (g.W.Width.memory l.sheet) l.sh.groups l.c
