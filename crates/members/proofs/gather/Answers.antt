use mathlib.Core.Path.{sym, ap, ◌∙◌}
use native.Mathlib.Omega.{arith}
use lib.ListN.{length}
use Rattle.theory.proofs.SumLaws.{sum-next}
use Rattle.claimfile.specs.File.{new_week}
use Rattle.reader.proofs.AcceptedLaws.{accepted-sound}
use Rattle.members.specs.Members.{length_of, reading_of, AllOf, judged_by}
use Rattle.counters.proofs.PartLaws.{sum-none}
use Rattle.members.proofs.GatherLaws.{member-within, member-read, fit-lengths}
use Rattle.members.proofs.GatherLaws.{gathered_none, gathered-more, gathered-fault, gathered-small}
use Rattle.members.proofs.gather.Goals as goal

pub loop-k-init : goal.loop-k-init
loop-k-init c =
    let a = c.args in
    (gathered_none (reading_of a.day a.files.now a.lengths.now), sum-none (length_of a.lengths.now))

pub length_at-len-requires : goal.length_at-len-requires
length_at-len-requires c = (omega arith, (fit-lengths (length c.args.files.now) c.args.lengths.now c.requires).few)

pub read_part-requires : goal.read_part-requires
read_part-requires c =
    member-within c.args.files.now c.args.lengths.now c.loop-k.k _ _ c.loop-k.invariant.1
    c.length_at-len.ensures.0 c.requires (omega arith)

pub returns-in-Err : goal.returns-in-Err
returns-in-Err c =
    let a = c.args in
    let here =
    member-read a.files.now a.lengths.now c.loop-k.k _ _ c.loop-k.invariant.1 c.length_at-len.ensures.0
    a.day _ _ c.read_part.ensures c.in-Err.is in
    ap judged_by
    (sym
    (gathered-fault (reading_of a.day a.files.now a.lengths.now) (length a.lengths.now) c.loop-k.k
    c.loop-k.sizes _ (omega arith) c.loop-k.invariant.0 here))

pub add-sizes-requires : goal.add-sizes-requires
add-sizes-requires c =
    let a = c.args in
    let here =
    member-read a.files.now a.lengths.now c.loop-k.k _ _ c.loop-k.invariant.1 c.length_at-len.ensures.0
    a.day _ _ c.read_part.ensures c.in-Ok.is in
    let sound = accepted-sound (new_week a.day) _ _ here in
    let small = gathered-small a.day a.files.now a.lengths.now c.loop-k.k c.loop-k.sizes c.loop-k.invariant.0 in
    let few = (fit-lengths (length a.files.now) a.lengths.now c.requires).few in (
      omega (arith, sound.cards_most, small.cards, few),
      omega (arith, sound.shops_most, small.shops, few),
      omega (arith, sound.rows_most, small.rows, few),
    )

pub overflow_add-at : goal.overflow_add-at
overflow_add-at c =
    omega (
      arith,
      member-within c.args.files.now c.args.lengths.now c.loop-k.k _ _ c.loop-k.invariant.1
          c.length_at-len.ensures.0 c.requires (omega arith),
    )

pub loop-k-preserved : goal.loop-k-preserved
loop-k-preserved c =
    let a = c.args in
    let here =
    member-read a.files.now a.lengths.now c.loop-k.k _ _ c.loop-k.invariant.1 c.length_at-len.ensures.0
    a.day _ _ c.read_part.ensures c.in-Ok.is in (
      gathered-more (reading_of a.day a.files.now a.lengths.now) c.loop-k.k c.loop-k.sizes _
          c.loop-k.invariant.0 here
          ∙ ap AllOf (sym c.add-sizes.ensures),
      omega (
        arith,
        c.loop-k.invariant.1,
        c.length_at-len.ensures.0,
        sum-next c.loop-k.k (length_of a.lengths.now),
      ),
    )

pub judge_sizes-requires : goal.judge_sizes-requires
judge_sizes-requires c =
    let a = c.args in
    let small = gathered-small a.day a.files.now a.lengths.now c.loop-k.k c.loop-k.sizes c.loop-k.invariant.0 in
    omega (arith, small.shops, (fit-lengths (length a.files.now) a.lengths.now c.requires).few)
