-- The loop's invariant: only marks changed. One store into the queue more leaves it so (`put_keeps`).
use Rattle.moves.specs.Fill.{OnlyMarks}
use Rattle.moves.proofs.fill.open_all.Given as goal

abbrev pub invariant-loop-v : goal.invariant-loop-v
invariant-loop-v g l = OnlyMarks l.sh (g.W.Width.memory l.initial.scratch) (g.W.Width.memory l.scratch)
