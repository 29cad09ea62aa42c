-- The arc of an item leads from u to one node alone, so the fresh node to which it leads is the one that is read.
use mathlib.Core.Path.{refl}
use Rattle.walks.proofs.WayLaws.{child-arc, row-arc, card-leads, shop-leads, child-leads, onto-of}
use Rattle.walks.proofs.ways.way_along.Goals as goal

pub returns-then-rows-j : goal.returns-then-rows-j
returns-then-rows-j g c =
    let l = c.if-rows-j.true in
    onto-of (child-leads c.requires.standing.ready c.requires.at_item l) (child-arc c.requires.standing.ready c.requires.at_item l) c.requires.standing.stale c.requires.fresh_of

pub returns-then-a-u : goal.returns-then-a-u
returns-then-a-u g c =
    let l = c.if-rows-j.false in
    onto-of (card-leads c.requires.standing.ready c.requires.at_item l c.card-a.ensures refl c.if-a-u.true c.shop.ensures)
    (row-arc c.requires.standing.ready c.requires.at_item l)
    c.requires.standing.stale c.requires.fresh_of

pub returns : goal.returns
returns g c =
    let l = c.if-rows-j.false in
    onto-of (shop-leads c.requires.standing.ready c.requires.at_item l c.card-a.ensures refl c.if-a-u.false)
    (row-arc c.requires.standing.ready c.requires.at_item l) c.requires.standing.stale c.requires.fresh_of
