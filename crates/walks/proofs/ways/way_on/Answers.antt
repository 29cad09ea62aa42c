-- The items from the cell of u on are looked along, and the cell is set to the one where the way leads (`went_on`).
use Rattle.walks.proofs.WayLaws.{standing-point, chosen-half, put-standing, put-chosen, went_on}
use Rattle.walks.proofs.ways.way_on.Goals as goal

pub open_item-j-requires-clause-pointed : goal.open_item-j-requires-clause-pointed
open_item-j-requires-clause-pointed g c =
    standing-point c.requires c.queue-at.ensures

pub set_queue-requires-clause-x_lt_half : goal.set_queue-requires-clause-x_lt_half
set_queue-requires-clause-x_lt_half g c =
    chosen-half c.requires c.open_item-j.ensures.chosen

pub way_from-requires : goal.way_from-requires
way_from-requires g c =
    let C = c.open_item-j.ensures.chosen in
    record {
      standing = put-standing c.set_queue.ensures c.requires C;
      chosen = put-chosen c.set_queue.ensures C;
    }

pub returns : goal.returns
returns g c = went_on c.set_queue.ensures c.queue-at.ensures c.open_item-j.ensures c.way_from.ensures
