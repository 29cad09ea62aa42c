-- The group is hung at its parent where it is listed, and else the lists are as they were: `child-linked`.
use Rattle.residual.proofs.LinkLaws.{child-linked}
use Rattle.residual.proofs.lists.link_child.Goals as goal

pub returns : goal.returns
returns g c =
    child-linked c.requires.linkable c.requires.v_lt_groups c.requires.links (rw c.parent-u.ensures at c.is_listed-listed.ensures)
    (rw c.parent-u.ensures at c.hang.ensures)
