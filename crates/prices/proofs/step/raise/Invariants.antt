-- The loop's invariant: the prices have risen by d at the groups below v that move, and nowhere else (`raised-one`). Each stays in the range
-- that is asked of the old prices and d (`raised-low`).
use Rattle.prices.specs.Step.{Raised}
use Rattle.prices.proofs.step.raise.Given as goal

abbrev pub invariant-loop-v : goal.invariant-loop-v
invariant-loop-v g l = Raised l.sh (g.W.Width.memory l.initial.sheet) (g.W.Width.memory l.scratch) (g.W.Width.memory l.sheet) l.d l.v
