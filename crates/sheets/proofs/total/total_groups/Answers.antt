use mathlib.Core.Path.{refl, ap₂}
use Prim.Native.Nat.{◌*◌}
use native.Mathlib.Omega.{arith}
use borrow.Author.Rules.{rules}
use Rattle.theory.proofs.SumLaws.{sum-next}
use Rattle.claimfile.specs.Day.{limit_of}
use Rattle.closing.specs.Settle.{mark_of}
use Rattle.sheets.proofs.TableLaws.{lowers-none}
use Rattle.sheets.proofs.CoverLaws.{group-total-none}
use Rattle.sheets.proofs.total.total_groups.Goals as goal

pub loop-v-init : goal.loop-v-init
loop-v-init c =
    let a = c.args in (
      refl,
      lowers-none a.file.now a.layout c.requires.0.sound a.limits.now c.requires.1,
      group-total-none a.file.now a.layout a.sheet.now,
      omega arith,
    )

pub loop-v-preserved : goal.loop-v-preserved
loop-v-preserved c =
    let a = c.args in
    let limit = c.lower_group-limit.ensures in (
      search rules,
      limit.0,
      omega (
        arith,
        c.loop-v.invariant.2,
        c.times-total.ensures.0,
        ap₂ ◌*◌ limit.1 c.from.ensures,
        sum-next c.loop-v.v (λ v. limit_of a.file.now a.layout v * mark_of a.sheet.now v),
      ),
      omega (arith, c.loop-v.invariant.3, c.times-total.ensures.1),
    )
