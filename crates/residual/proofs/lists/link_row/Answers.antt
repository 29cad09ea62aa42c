-- The row is hung at both its nodes where it costs its weight, and else the lists are as they were: `row-linked`.
use native.Mathlib.Omega.{arith}
use Rattle.residual.proofs.LinkLaws.{row-linked}
use Rattle.residual.proofs.lists.link_row.Goals as goal
use Rattle.residual.proofs.lists.link_row.Goals.{Start}

pub returns : goal.returns
returns g c =
    row-linked c.requires.linkable c.requires.c_lt_rows c.requires.links (omega (arith, c.row_price.ensures))
    c.weight.ensures.0
    (rw c.card-a.ensures at c.hang.ensures)
    (rw c.shop-b.ensures at c.hang-2.ensures)
