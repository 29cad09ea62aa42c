use mathlib.Core.Path.{◌≡◌}
use native.Mathlib.Omega.{arith}
use Rattle.theory.proofs.StepLaws.{bound-none}
use Rattle.prices.proofs.StepLaws.{rows_more}
use Rattle.prices.proofs.step.least_rows.Goals as goal

pub loop-c-init : goal.loop-c-init
loop-c-init g c = bound-none _ _ _ _ _ _ _ (omega arith)

pub loop-c-preserved : goal.loop-c-preserved
loop-c-preserved g c =
    let at = c.loop-c in
    rows_more at.c at.invariant c.lower_row-best.ensures

pub returns : goal.returns
returns g c =
    let all : c.loop-c.c ≡ c.args.sh.rows = omega arith in
    rw all at c.loop-c.invariant
