-- Each of the three tests is a reason for the row to stay, and where none holds it is left out, costs its weight, and has two nodes of one
-- class (`stays-any`).
use Rattle.order.proofs.OrderLaws.{stays-any}
use Rattle.order.proofs.stays.Goals as goal

pub returns : goal.returns
returns g c =
    let P = c.requires in
    stays-any P.at P.classes c.kept-keeps.ensures c.row_price.ensures
    c.weight.ensures.0 c.parted.ensures
