-- `put_row` meets its contract: three numbers, the kind and a line feed, each in its field, which are five appends and so one.
use native.Mathlib.Omega.{arith}
use mathlib.Core.Path.{◌≡◌}
use Prim.Native.Nat.{◌+◌}
use lib.Dec.{eqb}
use lib.ListN.{length}
use Rattle.text.specs.Text.{decimal, at_right}
use Rattle.text.proofs.BufferLaws.{then}
use Rattle.slip.specs.Slip.{row_line}
use Rattle.slip.proofs.SlipLaws.{kind_field, row_is, row-length}
use Rattle.slip.proofs.put_row.Goals as goal
use Rattle.slip.proofs.put_row.Goals.{Start}

-- the line's length, by its fields
size : (c : Start) →
    length (row_line c.args.c c.args.card c.args.shop (eqb c.args.kind 1))
    ≡ length (at_right 8 (decimal c.args.c)) + length (at_right 8 (decimal c.args.card))
    + length (at_right 8 (decimal c.args.shop))
    + length (kind_field (eqb c.args.kind 1))
    + 1
size c =
    let a = c.args in
    row-length a.c a.card a.shop (eqb a.kind 1)

pub put_right-after_row-requires : goal.put_right-after_row-requires
put_right-after_row-requires c = omega (arith, c.requires, size (goal.at.put_right-after_row-requires c).Start)

pub put_right-after_card-requires : goal.put_right-after_card-requires
put_right-after_card-requires c = omega (arith, c.requires, size (goal.at.put_right-after_card-requires c).Start)

pub put_right-after_shop-requires : goal.put_right-after_shop-requires
put_right-after_shop-requires c = omega (arith, c.requires, size (goal.at.put_right-after_shop-requires c).Start)

pub put_either-after_kind-requires : goal.put_either-after_kind-requires
put_either-after_kind-requires c = omega (arith, c.requires, size (goal.at.put_either-after_kind-requires c).Start)

pub put-requires : goal.put-requires
put-requires c = omega (arith, c.requires, size (goal.at.put-requires c).Start)

pub returns : goal.returns
returns c =
    let a = c.args in
    let three = then (then c.put_right-after_row.ensures c.put_right-after_card.ensures) c.put_right-after_shop.ensures in
    rw (row_is a.c a.card a.shop (eqb a.kind 1))
    (then (then {b = kind_field (eqb a.kind 1)} three c.put_either-after_kind.ensures) c.put.ensures)
