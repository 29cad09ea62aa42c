-- The limit of the next day is that of the new record, since the file is sound on each day.
use mathlib.Core.Path.{◌≡◌, refl, ap}
use native.Mathlib.Omega.{arith}
use Rattle.claimfile.specs.declared.Group.{Group}
use Rattle.claimfile.specs.Day.{group_of, on_day}
use Rattle.records.specs.Records.{limit_for}
use Rattle.renumber.proofs.DayLaws.{day-asked, day-limit}
use Rattle.records.proofs.RecordLaws.{limits-start, limits-next}
use Rattle.records.proofs.limits_for.Goals as goal

pub loop-day-init : goal.loop-day-init
loop-day-init c = limits-start refl

pub group_of-group-requires : goal.group_of-group-requires
group_of-group-requires c = day-asked c.on_day.ensures c.requires.0.sound c.args.side _ (omega (arith, c.requires.1))

pub loop-day-preserved : goal.loop-day-preserved
loop-day-preserved c =
    let a = c.args in
    let read = ap (λ (x : Group). x.limit) c.group_of-group.ensures.0 in
    let on = day-limit a.file.now a.side a.g c.on_day.ensures in
    let own : c.group_of-group.result.limit ≡ (group_of a.file.now (on_day a.layout c.loop-day.day) a.side a.g).limit =
    omega (arith, read, on) in
    let lowered = ap (limit_for a.out.now a.new c.loop-day.day a.side a.parent) own in
    limits-next (omega arith) c.loop-day.invariant (omega (arith, c.limit_for.ensures.0, lowered))
