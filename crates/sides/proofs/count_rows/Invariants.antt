-- `count_rows` meets its contract. The loop keeps that each group counts the selected ones of the first c rows that hang at it
-- (`Counting`); so no count is over c.
use Rattle.sides.proofs.CountLaws.{Counting}
use Rattle.sides.proofs.count_rows.Given as goal

abbrev pub invariant-loop-c : goal.invariant-loop-c
invariant-loop-c l = Counting l.file l.selection l.layout l.side l.counts l.c
