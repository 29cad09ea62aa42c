-- The mark of group v is how far its price lies above its parent's (`group-left`), and the parent's price is read from the same sheet. It is
-- at most the price, and so fits a cell.
use Rattle.scratch.specs.Map.{price_of}
use Rattle.scratch.specs.View.{net_of}
use Rattle.prices.proofs.MarkLaws.{group-left}
use Rattle.prices.proofs.marks.mark_group.Goals as goal
use Rattle.prices.proofs.marks.mark_group.Goals.{Start}

pub returns : goal.returns
returns g c =
    rw
    (group-left (net_of c.args.sh (g.W.Width.memory c.args.scratch.now)) (price_of c.args.sh (g.W.Width.memory c.args.sheet.now)) c.saturating_sub-left.result
    c.price.result c.price-base.result c.saturating_sub-left.ensures c.args.v
    c.parent-up.result c.price.ensures.0 c.price-base.ensures.0
    c.parent-up.ensures)
    at c.set_mark.ensures
