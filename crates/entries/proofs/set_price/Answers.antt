-- The price of group v is cell v of the sheet, and one cell is put; so no other price changes (`put-price`).
use Rattle.scratch.proofs.MapLaws.{put-price}
use Rattle.entries.proofs.set_price.Goals as goal
use Rattle.entries.proofs.set_price.Goals.{Start}

pub returns : goal.returns
returns g c =
    rw c.put.ensures
    (put-price c.args.sh (g.W.Width.memory c.args.sheet.now) c.args.v c.args.x c.requires.v_lt_groups c.requires.groups_in_bounds)
