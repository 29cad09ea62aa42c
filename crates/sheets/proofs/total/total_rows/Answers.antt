use Prim.Native.Nat.{◌+◌}
use native.Mathlib.Omega.{arith}
use lib.ListN.{get_or}
use Rattle.theory.proofs.SumLaws.{sum-next}
use Rattle.sheets.proofs.CoverLaws.{row-total-none}
use Rattle.sheets.proofs.total.total_rows.Goals as goal

pub loop-c-init : goal.loop-c-init
loop-c-init c = (row-total-none c.args.sheet.now c.args.groups, omega arith)

pub loop-c-preserved : goal.loop-c-preserved
loop-c-preserved c =
    let a = c.args in (
      omega (
        arith,
        c.loop-c.invariant.0,
        c.from-total.ensures,
        sum-next c.loop-c.c (λ i. get_or a.sheet.now (a.groups + i) 0),
      ),
      omega (arith, c.loop-c.invariant.1),
    )
