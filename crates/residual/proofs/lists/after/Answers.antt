-- The lists say, for each listed item, which item comes next at its node, in one table for the children of a node and two for the rows at
-- their card and shop nodes. A row that does not hang at u as its card node hangs there as its shop node.
use Rattle.scratch.specs.View.{residual_of}
use Rattle.residual.proofs.LinkLaws.{after-child}
use Rattle.residual.proofs.lists.after.Goals as goal
use Rattle.residual.proofs.lists.after.Goals.{Start}

pub returns-then-rows-j : goal.returns-then-rows-j
returns-then-rows-j g c =
    rw c.after_child.ensures
    (after-child (residual_of c.args.sh (g.W.Width.memory c.args.sheet.now) (g.W.Width.memory c.args.scratch.now)) c.args.u c.args.j c.requires.item c.requires.lists c.requires.live
    c.if-rows-j.true)
