-- `canonical_on` meets its contract: the layout has the counts of the two tables, so it is that of the canonical file, and the
-- buffer has room; once all parts are put the buffer starts with the file.
use native.Mathlib.Omega.{arith}
use Rattle.canonical.proofs.WriteLaws.{count_most, tables-for, given-for, on-written}
use Rattle.canonical.proofs.canonical_on.Goals as goal

pub layout_for-new-requires : goal.layout_for-new-requires
layout_for-new-requires c =
    let sound = c.requires.0 in
    (count_most sound 0 c.number_side-card_groups.ensures, count_most sound 1 c.number_side-shop_groups.ensures, sound.rows_most)

pub put_file-requires : goal.put_file-requires
put_file-requires c =
    let sound = c.requires.0 in
    let of_cards = c.number_side-card_groups.ensures in
    let of_shops = c.number_side-shop_groups.ensures in
    let is = c.layout_for-new.ensures.0 in
    (given-for sound of_cards of_shops is c.requires.1 c.layout_for-new.ensures.1, tables-for sound of_cards of_shops is)

pub returns : goal.returns
returns c =
    on-written c.requires.0 c.number_side-card_groups.ensures c.number_side-shop_groups.ensures c.layout_for-new.ensures.0
    c.requires.1 c.put_file.ensures (omega (arith, c.length_of.ensures))
