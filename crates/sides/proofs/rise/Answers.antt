-- The next group can pass on what came to it (`rising-passes`), and then the groups from it on have (`rising_step`).
use mathlib.Core.Path.{refl, ◌∙◌, ap}
use Prim.Native.Nat.{ℕ}
use native.Mathlib.Omega.{arith}
use Rattle.theory.specs.Matroid.{row}
use Rattle.sides.proofs.CountLaws.{rising-start, rising-passes, rising_step, rising-end}
use Rattle.sides.proofs.rise.Goals as goal

pub loop-g-init : goal.loop-g-init
loop-g-init c =
    let a = c.args in
    rising-start a.file.now a.layout a.side a.counts.now c.requires.held.sound c.groups_on-top.result
    c.groups_on-top.ensures

pub pass_on-fits-requires : goal.pass_on-fits-requires
pass_on-fits-requires c =
    let a = c.args in
    rising-passes a.file.now a.layout a.side a.counts.now c.loop-g.counts c.loop-g.g c.loop-g.fits
    c.loop-g.invariant _ (omega arith) (omega arith) c.requires c.loop-g.auto.counts

pub loop-g-preserved : goal.loop-g-preserved
loop-g-preserved c =
    let a = c.args in
    rising_step a.file.now a.layout a.side a.counts.now c.loop-g.counts c.loop-g.g c.loop-g.fits
    c.loop-g.invariant _ (omega arith) (omega arith) _ c.pass_on-fits.result _ c.pass_on-fits.ensures refl

pub returns : goal.returns
returns c =
    let a = c.args in
    rising-end a.file.now a.layout a.side a.counts.now c.loop-g.counts c.loop-g.g c.loop-g.fits
    c.from.result (omega arith) (c.from.ensures ∙ ap (λ (n : ℕ). row c.loop-g.counts n) c.groups_on-top.ensures)
    c.loop-g.invariant
