use mathlib.Core.Path.{◌≡◌, refl, ◌∙◌}
use Prim.Native.Nat.{◌+◌, ◌≤◌}
use native.Mathlib.Omega.{arith}
use borrow.Author.Rules.{rules}
use lib.ListN.{length}
use Rattle.theory.proofs.SumLaws.{sum-next}
use Rattle.scratch.proofs.MapLaws.{room-keeps}
use Rattle.counters.proofs.PartLaws.{sum-none}
use Rattle.members.specs.Members.{length_of}
use Rattle.members.proofs.GatherLaws.{fit-lengths, member-within, member-slice}
use Rattle.jointables.proofs.FilesLaws.{spot-none, next-stands, next-spot, filled_next}
use Rattle.jointables.proofs.write_files.Goals as goal
use Rattle.jointables.proofs.write_files.Goals.{After-length_at}

pub overflow_add-spot : goal.overflow_add-spot
overflow_add-spot c =
    let G = c.requires in
    omega (arith, G.shape.cards, G.read.all.cards_most)

pub loop-k-init : goal.loop-k-init
loop-k-init c =
    let a = c.args in (
      sum-none (length_of a.lengths.now),
      spot-none a.day a.files.now a.lengths.now a.sh a.scratch.now c.requires,
      refl,
      λ oven begun. begun,
    )

pub length_at-requires : goal.length_at-requires
length_at-requires c = (omega arith, (fit-lengths (length c.args.files.now) c.args.lengths.now c.requires.read.fit).few)

-- file k lies within the buffer
within : (c : After-length_at) → c.loop-k.at + c.length_at.result ≤ length c.args.files.now
within c =
    member-within c.args.files.now c.args.lengths.now c.loop-k.k _ _ c.loop-k.invariant.0
    c.length_at.ensures.0 c.requires.read.fit (omega arith)

pub overflow_add-end : goal.overflow_add-end
overflow_add-end c = omega (arith, within (goal.at.overflow_add-end c).After-length_at)

pub slice_bounds-write_member-count : goal.slice_bounds-write_member-count
slice_bounds-write_member-count c = omega arith

pub slice_bounds-write_member-end : goal.slice_bounds-write_member-end
slice_bounds-write_member-end c =
    let inside = within (goal.at.slice_bounds-write_member-end c).After-length_at in
    search rules

pub write_member-spot-requires : goal.write_member-spot-requires
write_member-spot-requires c =
    let a = c.args in
    next-stands a.day a.files.now a.lengths.now a.sh a.scratch.now c.requires c.loop-k.k (omega arith) _
    (room-keeps c.loop-k.invariant.2 c.requires.room) _ c.loop-k.spot
    (member-slice a.files.now a.lengths.now c.loop-k.k c.loop-k.at _ c.loop-k.invariant.0 c.length_at.ensures.0) c.loop-k.invariant.1

pub loop-k-preserved : goal.loop-k-preserved
loop-k-preserved c =
    let a = c.args in
    let room = room-keeps c.loop-k.invariant.2 c.requires.room in
    let member = member-slice a.files.now a.lengths.now c.loop-k.k c.loop-k.at _ c.loop-k.invariant.0 c.length_at.ensures.0 in (
      omega (arith, c.loop-k.invariant.0, c.length_at.ensures.0, sum-next c.loop-k.k (length_of a.lengths.now)),
      next-spot a.day a.files.now a.lengths.now a.sh a.scratch.now c.requires c.loop-k.k (omega arith) _ room _ c.loop-k.spot
          member c.loop-k.invariant.1 _ _ c.write_member-spot.ensures,
      c.write_member-spot.ensures.long ∙ c.loop-k.invariant.2,
      λ oven begun.
          filled_next a.day a.files.now a.lengths.now a.sh a.scratch.now c.requires c.loop-k.k (omega arith) _ room _
          c.loop-k.spot member c.loop-k.invariant.1 _ _ c.write_member-spot.ensures oven (c.loop-k.invariant.3 oven begun),
    )

pub returns : goal.returns
returns c =
    let all : c.loop-k.k ≡ length c.args.lengths.now = omega arith in
    record { long = c.loop-k.invariant.2; filled = rw all at c.loop-k.invariant.3 }
