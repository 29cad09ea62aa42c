-- A weight over the toll is a fault, and so is a card node of no group; else the shop node decides.
use native.Mathlib.Omega.{arith}
use Rattle.solver_probe.proofs.TestLaws.{row-heavy, row-off, row_on}
use Rattle.solver_probe.proofs.row_formed.Goals as goal

pub returns-then-sh-number : goal.returns-then-sh-number
returns-then-sh-number c = row-heavy _ _ _ c.number.ensures.0 (omega (arith, c.if-sh-number.true))

pub returns-then-not-hangs : goal.returns-then-not-hangs
returns-then-not-hangs c = row-off _ _ _ c.number-2.ensures.0 c.hangs.ensures (c.if-not-hangs.true)

pub returns : goal.returns
returns c =
    row_on _ _ _ c.number-2.ensures.0 c.hangs.ensures (c.if-not-hangs.false)
    c.number.ensures.0 (omega (arith, c.if-sh-number.false)) c.number-3.ensures.0
    c.hangs-2.ensures
