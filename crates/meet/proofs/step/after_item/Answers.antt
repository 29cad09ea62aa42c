-- The lists say, for each listed item, which item comes next at its node. A row that hangs at a node of the shop side hangs there as at its
-- shop node, and one at a node of the card side as at its card node.
use Rattle.scratch.specs.View.{residual_of}
use Rattle.residual.proofs.LinkLaws.{after-child, after-card, after-shop}
use Rattle.meet.proofs.StepLaws.{side-shop, side-card}
use Rattle.meet.proofs.step.after_item.Goals as goal
use Rattle.meet.proofs.step.after_item.Goals.{Start}

pub returns-then-rows-j : goal.returns-then-rows-j
returns-then-rows-j g c =
    let A = c.requires.at_item in
    rw c.after_child.ensures
    (after-child (residual_of c.args.sh (g.W.Width.memory c.args.sheet.now) (g.W.Width.memory c.args.scratch.now)) c.args.u c.args.j A.item A.lists A.live
    c.if-rows-j.true)

pub returns-then-shops : goal.returns-then-shops
returns-then-shops g c =
    let A = c.requires.at_item in
    let l = c.if-rows-j.false in
    rw c.after_shop.ensures
    (after-shop (residual_of c.args.sh (g.W.Width.memory c.args.sheet.now) (g.W.Width.memory c.args.scratch.now)) c.args.u c.args.j A.item A.lists A.live l
    (side-shop A c.requires.raw.formed c.requires.side_of l c.if-shops.true))

pub returns : goal.returns
returns g c =
    let A = c.requires.at_item in
    let l = c.if-rows-j.false in
    rw c.after_card.ensures
    (after-card (residual_of c.args.sh (g.W.Width.memory c.args.sheet.now) (g.W.Width.memory c.args.scratch.now)) c.args.u c.args.j A.item A.lists A.live l
    (side-card A c.requires.raw.formed c.requires.side_of l c.if-shops.false))
