-- The loop's invariant: `best` is the least slack of the rows below c, at most `most`.
use Prim.Native.Nat.{◌+◌}
use Rattle.prices.specs.Step.{BoundOf}
use Rattle.prices.proofs.step.least_rows.Given as goal

abbrev pub invariant-loop-c : goal.invariant-loop-c
invariant-loop-c g l = BoundOf l.sh l.choice (g.W.Width.memory l.sheet) (g.W.Width.memory l.scratch) l.sh.groups (l.sh.groups + l.c) l.most l.best
