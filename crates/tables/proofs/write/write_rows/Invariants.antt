-- The loop keeps that the rows passed are written, and that no limit has changed.
use Rattle.tables.specs.Tables.{PutRows}
use Rattle.tables.proofs.write.write_rows.Given as goal

abbrev pub invariant-loop-c : goal.invariant-loop-c
invariant-loop-c g l = PutRows l.file l.layout l.sh l.spot (g.W.Width.memory l.initial.scratch) (g.W.Width.memory l.scratch) l.c
