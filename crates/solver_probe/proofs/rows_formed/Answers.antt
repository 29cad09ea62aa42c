use Prim.Native.Nat.{◌-◌}
use native.Mathlib.Omega.{arith}
use Rattle.solver_probe.specs.Probe.{RowFormed}
use Rattle.solver_probe.proofs.TestLaws.{tells-yes, every_more, one-fails}
use Rattle.solver_probe.proofs.rows_formed.Goals as goal

pub loop-c-init : goal.loop-c-init
loop-c-init c = λ i l. absurd (omega arith)

pub row_formed-requires : goal.row_formed-requires
row_formed-requires c = (c.requires.0, c.requires.1, c.loop-c-test.true)

pub returns-then-not-row_formed : goal.returns-then-not-row_formed
returns-then-not-row_formed c =
    let a = c.args in
    one-fails (RowFormed a.sh a.rows.now) _ c.loop-c-test.true
    c.row_formed.ensures (c.if-not-row_formed.true)

pub loop-c-preserved : goal.loop-c-preserved
loop-c-preserved c =
    let a = c.args in
    every_more (RowFormed a.sh a.rows.now) c.loop-c.c c.loop-c.invariant
    (c.row_formed.ensures.holds (c.if-not-row_formed.false))

pub returns : goal.returns
returns c = tells-yes (λ i l. c.loop-c.invariant i (omega arith))
