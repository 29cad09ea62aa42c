-- The loop's invariant: the rows that were tried so far are added where they could be, and the result is a state (`Added`). One row more is
-- one filling after another (`added_then`).
use Rattle.moves.specs.Fill.{Added}
use Rattle.moves.proofs.fill.fill_rows.Given as goal

abbrev pub invariant-loop-c : goal.invariant-loop-c
invariant-loop-c g l = Added l.sh l.initial.choice (g.W.Width.memory l.sheet) (g.W.Width.memory l.initial.scratch) l.choice (g.W.Width.memory l.scratch)
