-- A label at or above b, and less than `span` above it, is of the class with label b: it says the difference, which is 0 for b itself and
-- for a label below it (`arc-in-near`). A label that lies higher is of another class (`arc-in-far`).
use native.Mathlib.Omega.{arith}
use Rattle.scratch.proofs.MapLaws.{arc-in-near, arc-in-far}
use Rattle.entries.proofs.arc_in.Goals as goal

pub returns-then-x-b : goal.returns-then-x-b
returns-then-x-b c = omega (arith, arc-in-near c.args.b c.args.x (omega (arith, c.if-x-b.true)), c.if-x-b.true)

pub returns-then-by-lt-SPAN : goal.returns-then-by-lt-SPAN
returns-then-by-lt-SPAN c = omega (arith, arc-in-near c.args.b c.args.x (omega (arith, c.if-by-lt-SPAN.true)))

pub returns : goal.returns
returns c = omega (arith, arc-in-far c.args.b c.args.x (omega (arith, c.if-by-lt-SPAN.false)))
