-- A child is looked at by the arc down or up; a row by its own arc, from the node where it hangs to the other one. Along the arcs a row
-- that is left out leads from its card node, and one that is kept from its shop node; against them it is the other way.
use mathlib.Core.Path.{refl, sym, ap}
use mathlib.Core.Logic.{inl, inr}
use mathlib.Core.Bool.{not}
use Rattle.theory.specs.Network.{Network}
use Rattle.scratch.specs.View.{net_of}
use Rattle.look.proofs.ReachLaws.{arc-row, arc-child}
use Rattle.look.proofs.StepLaws.{looked-as, pick_yes, pick_no, item-down, item-row, ends-card, ends-shop, at_shop}
use Rattle.look.proofs.look_item.Goals as goal
use Rattle.look.proofs.look_item.Given as given
use Rattle.look.proofs.look_item.Goals.{Start}

-- the network at entry
abbrev net : (g : given.Over) → goal.Start g → Network
net g S = net_of S.args.sh (g.W.Width.memory S.args.scratch.now)

-- a child

pub look_down-requires-clause-child_item : goal.look_down-requires-clause-child_item
look_down-requires-clause-child_item g c =
    item-down c.requires.at_item c.if-rows-j.true

pub returns-then-rows-j : goal.returns-then-rows-j
returns-then-rows-j g c =
    looked-as refl (arc-child (net g (goal.at.returns-then-rows-j g c).Start) c.args.back c.if-rows-j.true) c.look_down.ensures

pub look_row-requires-clause-ends : goal.look_row-requires-clause-ends
look_row-requires-clause-ends g c =
    let row = c.if-rows-j.false in
    let card = c.card-a.ensures in
    let shop = c.shop-b.ensures in
    ends-card c.requires.at_item row card shop (pick_yes 1 0 c.if-back.true)

pub look_row-requires-clause-free_le_c : goal.look_row-requires-clause-free_le_c
look_row-requires-clause-free_le_c g c =
    let row = c.if-rows-j.false in
    let card = c.card-a.ensures in
    item-row c.requires.at_item row (inl (sym card))

pub returns-then-a-u : goal.returns-then-a-u
returns-then-a-u g c =
    let row = c.if-rows-j.false in
    looked-as c.if-a-u.true (arc-row (net g (goal.at.returns-then-a-u g c).Start) c.args.back row) c.look_row.ensures

pub look_row-requires-then-back-clause-ends : goal.look_row-requires-then-back-clause-ends
look_row-requires-then-back-clause-ends g c =
    let row = c.if-rows-j.false in
    let card = c.card-a.ensures in
    let shop = c.shop-b.ensures in
    ends-shop c.requires.at_item row card shop (pick_no 1 0 (ap not c.if-back.true))

pub look_row-requires-then-back-clause-free_le_c : goal.look_row-requires-then-back-clause-free_le_c
look_row-requires-then-back-clause-free_le_c g c =
    let row = c.if-rows-j.false in
    let shop = c.shop-b.ensures in
    item-row c.requires.at_item row (inr (sym shop))

pub returns-then-back : goal.returns-then-back
returns-then-back g c =
    let row = c.if-rows-j.false in
    looked-as (at_shop c.requires.at_item row c.card-a.ensures c.shop-b.ensures c.if-a-u.false) (arc-row (net g (goal.at.returns-then-back g c).Start) c.args.back row)
    c.look_row-then-back.ensures

pub look_row-requires-then-a-u-2-clause-ends : goal.look_row-requires-then-a-u-2-clause-ends
look_row-requires-then-a-u-2-clause-ends g c =
    let row = c.if-rows-j.false in
    let card = c.card-a.ensures in
    let shop = c.shop-b.ensures in
    ends-card c.requires.at_item row card shop (pick_no 1 0 c.if-back.false)

pub look_row-requires-then-a-u-2-clause-free_le_c : goal.look_row-requires-then-a-u-2-clause-free_le_c
look_row-requires-then-a-u-2-clause-free_le_c g c =
    let row = c.if-rows-j.false in
    let card = c.card-a.ensures in
    item-row c.requires.at_item row (inl (sym card))

pub returns-then-a-u-2 : goal.returns-then-a-u-2
returns-then-a-u-2 g c =
    let row = c.if-rows-j.false in
    looked-as c.if-a-u-2.true (arc-row (net g (goal.at.returns-then-a-u-2 g c).Start) c.args.back row) c.look_row-then-a-u-2.ensures

pub look_row-requires-2-clause-ends : goal.look_row-requires-2-clause-ends
look_row-requires-2-clause-ends g c =
    let row = c.if-rows-j.false in
    let card = c.card-a.ensures in
    let shop = c.shop-b.ensures in
    ends-shop c.requires.at_item row card shop (pick_yes 1 0 (ap not c.if-back.false))

pub look_row-requires-2-clause-free_le_c : goal.look_row-requires-2-clause-free_le_c
look_row-requires-2-clause-free_le_c g c =
    let row = c.if-rows-j.false in
    let shop = c.shop-b.ensures in
    item-row c.requires.at_item row (inr (sym shop))

pub returns : goal.returns
returns g c =
    let row = c.if-rows-j.false in
    looked-as (at_shop c.requires.at_item row c.card-a.ensures c.shop-b.ensures c.if-a-u-2.false) (arc-row (net g (goal.at.returns g c).Start) c.args.back row)
    c.look_row-2.ensures
