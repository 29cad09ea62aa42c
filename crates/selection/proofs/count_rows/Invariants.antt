-- The loop keeps that the rows passed are counted.
use Rattle.selection.specs.Selection.{Counted}
use Rattle.selection.proofs.count_rows.Given as goal

abbrev pub invariant-loop-c : goal.invariant-loop-c
invariant-loop-c l = Counted l.file l.layout l.kind l.c l.selection l.counts
