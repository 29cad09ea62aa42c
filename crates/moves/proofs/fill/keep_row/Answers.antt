-- Places are taken for the shop node and then for the card node. Where the first has none nothing was taken; where the second has none the
-- first ones are given back, so that all places are as they were (`added-same`). Where both are taken the row goes in (`added-row`).
use Rattle.moves.proofs.PlaceLaws.{above-places, ready-state, ready-climbed, shifts-same, shifts-then, added-same, added-row}
use Rattle.moves.proofs.fill.keep_row.Goals as goal

pub take_places-top-requires : goal.take_places-top-requires
take_places-top-requires g c = let whole = ready-state c.requires.state in record { rooted = whole.0; low = whole.1 }

pub returns-then-top-g : goal.returns-then-top-g
returns-then-top-g g c = added-same c.requires.state (c.take_places-top.ensures.none c.if-top-g.true).shifts

pub take_places-requires : goal.take_places-requires
take_places-requires g c =
    let whole = ready-climbed (ready-state c.requires.state) (c.take_places-top.ensures.all c.if-top-g.false) in
    record { rooted = whole.0; low = whole.1 }

-- the card node's groups have none
pub give_back-requires : goal.give_back-requires
give_back-requires g c =
    let A = c.take_places-top.ensures.all c.if-top-g.false in
    let E = c.take_places.ensures.none c.if-take_places-g.true in
    let ready = ready-climbed (ready-climbed (ready-state c.requires.state) A) E in
    record {
      rooted = ready.0;
      low = ready.1;
      above = above-places E.shifts.only (above-places A.shifts.only A.above);
    }

pub returns-then-take_places-g : goal.returns-then-take_places-g
returns-then-take_places-g g c =
    let A = c.take_places-top.ensures.all c.if-top-g.false in
    let E = c.take_places.ensures.none c.if-take_places-g.true in
    added-same c.requires.state (shifts-then A.shifts (shifts-then (shifts-same E.shifts) c.give_back.ensures))

pub returns : goal.returns
returns g c =
    let root = c.if-top-g.false in
    let root2 = c.if-take_places-g.false in
    added-row c.requires.state c.requires.c_lt_rows c.requires.tight
    (rw c.shop-b.ensures at (c.take_places-top.ensures.all root).shifts) root
    (rw c.card-a.ensures at (c.take_places.ensures.all root2).shifts) root2
    c.set_kept.ensures
