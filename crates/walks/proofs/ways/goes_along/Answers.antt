-- Along a child there is a way where there is one down; along a row where its byte is that of a row which leads from u, and the other node
-- is fresh.
use mathlib.Core.Path.{refl}
use borrow.Author.Tests.{eq-eqb, ne_eqb}
use Rattle.theory.proofs.ResidualLaws.{card-below, shop-below}
use Rattle.look.proofs.StepLaws.{item-down}
use Rattle.walks.proofs.WayLaws.{goes-open, goes-shut, goes-child, card-leads, shop-leads}
use Rattle.walks.proofs.ways.goes_along.Goals as goal

pub goes_down-requires-clause-child_item : goal.goes_down-requires-clause-child_item
goes_down-requires-clause-child_item g c =
    item-down c.requires.at_item c.if-rows-j.true

pub returns-then-rows-j : goal.returns-then-rows-j
returns-then-rows-j g c = goes-child c.requires.ready c.requires.at_item c.if-rows-j.true c.goes_down.ensures

pub is_fresh-requires-clause-v_bound : goal.is_fresh-requires-clause-v_bound
is_fresh-requires-clause-v_bound g c =
    let R = c.requires.ready in
    rw c.shop.ensures (shop-below _ R.formed _ c.if-rows-j.false)

pub returns-then-kept-eq0 : goal.returns-then-kept-eq0
returns-then-kept-eq0 g c =
    goes-open
    (card-leads c.requires.ready c.requires.at_item c.if-rows-j.false c.card-a.ensures c.kept.ensures
    c.if-a-u.true c.shop.ensures)
    (eq-eqb _ _ c.if-kept-eq0.true) c.is_fresh.ensures

pub returns-then-a-u : goal.returns-then-a-u
returns-then-a-u g c =
    goes-shut
    (card-leads c.requires.ready c.requires.at_item c.if-rows-j.false c.card-a.ensures c.kept.ensures
    c.if-a-u.true refl)
    (ne_eqb _ _ c.if-kept-eq0.false)

pub is_fresh-requires-then-kept-eq1-clause-v_bound : goal.is_fresh-requires-then-kept-eq1-clause-v_bound
is_fresh-requires-then-kept-eq1-clause-v_bound g c =
    let R = c.requires.ready in
    rw c.card-a.ensures (card-below _ R.formed _ c.if-rows-j.false)

pub returns-then-kept-eq1 : goal.returns-then-kept-eq1
returns-then-kept-eq1 g c =
    goes-open
    (shop-leads c.requires.ready c.requires.at_item c.if-rows-j.false c.card-a.ensures c.kept-2.ensures c.if-a-u.false)
    (eq-eqb _ _ c.if-kept-eq1.true) c.is_fresh-then-kept-eq1.ensures

pub returns : goal.returns
returns g c =
    goes-shut
    (shop-leads c.requires.ready c.requires.at_item c.if-rows-j.false c.card-a.ensures c.kept-2.ensures c.if-a-u.false)
    (ne_eqb _ _ c.if-kept-eq1.false)
