-- `put_record` meets its contract: a group whose cell is 256 or more is dropped, and nothing is put; the record of any other is
-- put at the place of its number, with its parent in the new numbers and each limit lowered to the one that was put for that parent.
use native.Mathlib.Omega.{arith}
use Rattle.records.proofs.PutLaws.{group-most, put-dropped, number-placed, put-used}
use Rattle.records.proofs.put_record.Goals as goal

pub offset_bounds-cells-g : goal.offset_bounds-cells-g
offset_bounds-cells-g c = omega (arith, group-most c.requires.ready.0 c.requires.ready.1 c.requires.numbered)

pub bounds-cells-g : goal.bounds-cells-g
bounds-cells-g c = omega (arith, group-most c.requires.ready.0 c.requires.ready.1 c.requires.numbered)

pub returns-then-number-ge-MAX_GROUPS : goal.returns-then-number-ge-MAX_GROUPS
returns-then-number-ge-MAX_GROUPS c = put-dropped c.requires.ready.0 c.requires.ready.1 c.requires.numbered (omega arith)

pub parent_for-parent-requires : goal.parent_for-parent-requires
parent_for-parent-requires c = group-most c.requires.ready.0 c.requires.ready.1 c.requires.numbered

pub put_group-requires : goal.put_group-requires
put_group-requires c = (
  c.requires.ready.0.given.room,
  number-placed c.requires.ready.0 c.requires.ready.1 c.requires.numbered c.from-number.ensures (omega arith),
  c.parent_for-parent.ensures.1,
  c.limits_for-limits.ensures.size,
)

pub returns : goal.returns
returns c =
    put-used c.requires.ready.0 c.requires.ready.1 c.requires.numbered c.from-number.ensures (omega arith)
    c.group_of-group.ensures.0 c.parent_for-parent.ensures.0 c.limits_for-limits.ensures c.put_group.ensures
