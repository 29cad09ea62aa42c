-- The row leaves its lists, which changes nothing else (`drop-placing`). It stays as it is where `stays` says so (`placed-still`). Else it is
-- left out and its nodes are of one class, so a swap may be tried under the shape of that class (`swapping-class`), and what the swap
-- promises holds under the old shape too (`placed-class`).
use native.Mathlib.Omega.{arith}
use Rattle.prices.proofs.ReadyLaws.{state-linkable}
use Rattle.order.proofs.OrderLaws.{card-node, drop-placing, drop-filled, placed-still, placed-then, swapping-class, placed-class}
use Rattle.order.proofs.place_row.Goals as goal

pub drop_row-requires-clause-linkable : goal.drop_row-requires-clause-linkable
drop_row-requires-clause-linkable g c =
    state-linkable c.requires.placing.at.state

pub stays-requires : goal.stays-requires
stays-requires g c = drop-placing c.requires.placing c.drop_row.ensures.only

pub returns-then-stays : goal.returns-then-stays
returns-then-stays g c =
    let only = c.drop_row.ensures.only in
    let P = drop-placing c.requires.placing only in
    placed-then (drop-filled c.requires.placing only)
    (placed-still P.at P.classes c.drop_row.ensures.lists (c.stays.ensures.yes c.if-stays.true))

-- a swap is tried
pub card-a-requires : goal.card-a-requires
card-a-requires g c =
    let A = (drop-placing c.requires.placing c.drop_row.ensures.only).at in
    record {
      room = A.state.room;
      c_lt_rows = A.row;
    }

pub shop-b-requires : goal.shop-b-requires
shop-b-requires g c =
    let A = (drop-placing c.requires.placing c.drop_row.ensures.only).at in
    record {
      room = A.state.room;
      c_lt_rows = A.row;
    }

pub label-requires-clause-v_bound : goal.label-requires-clause-v_bound
label-requires-clause-v_bound g c =
    let A = (drop-placing c.requires.placing c.drop_row.ensures.only).at in
    omega (arith, c.card-a.ensures, card-node A)

pub swap_in-requires : goal.swap_in-requires
swap_in-requires g c =
    let P = drop-placing c.requires.placing c.drop_row.ensures.only in
    let left = c.stays.ensures.no c.if-stays.false in
    rw c.with_class-mine.ensures
    (swapping-class P.at P.classes _ _ c.card-a.ensures c.shop-b.ensures (omega arith) c.label.ensures.0
    c.drop_row.ensures.lists left)

pub returns : goal.returns
returns g c =
    placed-then (drop-filled c.requires.placing c.drop_row.ensures.only)
    (placed-class c.args.sh _ _ c.requires.placing.at.state.room.few.fresh
    (rw c.with_class-mine.ensures at c.swap_in.ensures))
