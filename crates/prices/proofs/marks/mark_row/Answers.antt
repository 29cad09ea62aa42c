-- The mark of row c is what is left of its weight when its two nodes are paid (`row-left`). It is at most the weight, and so fits a cell.
use Rattle.scratch.specs.Map.{weight_of, price_of}
use Rattle.scratch.specs.View.{net_of}
use Rattle.prices.proofs.MarkLaws.{row-left}
use Rattle.prices.proofs.marks.mark_row.Goals as goal
use Rattle.prices.proofs.marks.mark_row.Goals.{Start}

pub returns : goal.returns
returns g c =
    rw
    (row-left (net_of c.args.sh (g.W.Width.memory c.args.scratch.now)) (price_of c.args.sh (g.W.Width.memory c.args.sheet.now)) c.saturating_sub-left.result
    c.weight.result c.row_price-paid.result c.saturating_sub-left.ensures
    (weight_of c.args.sh (g.W.Width.memory c.args.scratch.now)) c.args.c c.weight.ensures.0
    c.row_price-paid.ensures)
    at c.set_mark.ensures
