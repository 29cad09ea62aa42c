-- The root passes, and any other node where it lies between the bounds.
use mathlib.Core.Logic.{inr}
use native.Mathlib.Omega.{arith}
use Rattle.solver_probe.proofs.TestLaws.{tells-yes, hangs-low, hangs-below}
use Rattle.solver_probe.proofs.hangs.Goals as goal

pub returns-then-u-root : goal.returns-then-u-root
returns-then-u-root c = tells-yes (inr (omega (arith, c.if-u-root.true)))

pub returns-then-u-first : goal.returns-then-u-first
returns-then-u-first c = hangs-low _ _ _ _ (λ e. omega (arith, c.if-u-root.false)) (omega (arith, c.if-u-first.true))

pub returns : goal.returns
returns c = hangs-below _ _ _ _ (λ e. omega (arith, c.if-u-root.false)) (omega (arith, c.if-u-first.false))
