use mathlib.Core.Path.{◌≡◌}
use Prim.Native.Nat.{◌+◌, ◌≤◌}
use native.Mathlib.Omega.{arith}
use borrow.Author.Rules.{rules}
use lib.ListN.{length}
use Rattle.theory.proofs.SumLaws.{sum-next}
use Rattle.counters.proofs.PartLaws.{sum-none}
use Rattle.members.specs.Members.{length_of}
use Rattle.members.proofs.GatherLaws.{fit-lengths, member-within, member-slice}
use Rattle.joined.proofs.CountLaws.{tally-none, tally-ready, tally-next, tally-all}
use Rattle.joined.proofs.count_files.Goals as goal
use Rattle.joined.proofs.count_files.Goals.{After-length_at}

pub loop-k-init : goal.loop-k-init
loop-k-init c =
    let a = c.args in (
      sum-none (length_of a.lengths.now),
      tally-none a.day a.files.now a.lengths.now a.choice.now,
    )

pub length_at-requires : goal.length_at-requires
length_at-requires c = (omega arith, (fit-lengths (length c.args.files.now) c.args.lengths.now c.requires.read.fit).few)

-- file k lies within the buffer
within : (c : After-length_at) → c.loop-k.at + c.length_at.result ≤ length c.args.files.now
within c =
    member-within c.args.files.now c.args.lengths.now c.loop-k.k _ _ c.loop-k.invariant.0
    c.length_at.ensures.0 c.requires.read.fit (omega arith)

pub overflow_add-end : goal.overflow_add-end
overflow_add-end c = omega (arith, within (goal.at.overflow_add-end c).After-length_at)

pub slice_bounds-count_member-count : goal.slice_bounds-count_member-count
slice_bounds-count_member-count c = omega arith

pub slice_bounds-count_member-end : goal.slice_bounds-count_member-end
slice_bounds-count_member-end c =
    let inside = within (goal.at.slice_bounds-count_member-end c).After-length_at in
    search rules

pub count_member-tally-requires : goal.count_member-tally-requires
count_member-tally-requires c =
    let a = c.args in
    tally-ready a.day a.files.now a.lengths.now a.choice.now c.requires c.loop-k.k (omega arith) c.loop-k.tally c.loop-k.invariant.1 _
    (member-slice a.files.now a.lengths.now c.loop-k.k c.loop-k.at _ c.loop-k.invariant.0 c.length_at.ensures.0)

pub loop-k-preserved : goal.loop-k-preserved
loop-k-preserved c =
    let a = c.args in (
      omega (arith, c.loop-k.invariant.0, c.length_at.ensures.0, sum-next c.loop-k.k (length_of a.lengths.now)),
      tally-next a.day a.files.now a.lengths.now a.choice.now c.requires c.loop-k.k (omega arith) c.loop-k.tally
          c.loop-k.invariant.1 _
          (member-slice a.files.now a.lengths.now c.loop-k.k c.loop-k.at _ c.loop-k.invariant.0 c.length_at.ensures.0) _
          c.count_member-tally.ensures,
    )

pub returns : goal.returns
returns c =
    let a = c.args in
    let all : c.loop-k.k ≡ length a.lengths.now = omega arith in
    tally-all a.day a.files.now a.lengths.now a.choice.now c.loop-k.tally (rw all at c.loop-k.invariant.1)
