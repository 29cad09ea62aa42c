-- The file's rows are counted by themselves, with their part of the choice, and added to the tally.
use mathlib.Core.Path.{refl}
use Prim.Native.Nat.{◌≤◌}
use native.Mathlib.Omega.{arith}
use Rattle.theory.specs.Bounds.{max_rows}
use Rattle.claimfile.proofs.WidthLaws.{tail-is}
use Rattle.joined.proofs.CountLaws.{member-few, member-ready, member-counted}
use Rattle.joined.proofs.count_member.Goals as goal
use Rattle.joined.proofs.count_member.Goals.{After-count_rows-counts}

pub layout_in-layout-requires : goal.layout_in-layout-requires
layout_in-layout-requires c = c.requires.accepted

pub slice_bounds-count_rows-count : goal.slice_bounds-count_rows-count
slice_bounds-count_rows-count c = omega (arith, c.requires.long)

pub count_rows-counts-requires : goal.count_rows-counts-requires
count_rows-counts-requires c =
    member-ready c.args.day c.args.file.now c.args.tally c.args.choice.now c.requires _ c.layout_in-layout.ensures _
    (tail-is c.args.tally.row c.args.choice.now)

pub overflow_sub-earned : goal.overflow_sub-earned
overflow_sub-earned c = omega (arith, c.count_rows-counts.ensures.part)

-- the file has at most 512 rows, and so do those before it
few : (c : After-count_rows-counts) → (c.layout_in-layout.result.rows ≤ max_rows) × (c.args.tally.row ≤ max_rows)
few c =
    member-few c.args.day c.args.file.now c.args.tally c.args.choice.now c.requires _ c.layout_in-layout.ensures _
    (tail-is c.args.tally.row c.args.choice.now)

pub overflow_add-result : goal.overflow_add-result
overflow_add-result c = omega (arith, few (goal.at.overflow_add-result c).After-count_rows-counts)

pub overflow_add-result-2 : goal.overflow_add-result-2
overflow_add-result-2 c =
    omega (arith, few (goal.at.overflow_add-result-2 c).After-count_rows-counts, c.count_rows-counts.ensures.few, c.requires.part, c.requires.few)

pub overflow_add-result-3 : goal.overflow_add-result-3
overflow_add-result-3 c =
    omega (arith, few (goal.at.overflow_add-result-3 c).After-count_rows-counts, c.count_rows-counts.ensures.few, c.requires.few)

pub returns : goal.returns
returns c =
    member-counted c.args.day c.args.file.now c.args.tally c.args.choice.now c.requires _
    c.layout_in-layout.ensures _ (tail-is c.args.tally.row c.args.choice.now) c.count_rows-counts.result
    c.count_rows-counts.ensures _ refl refl refl
