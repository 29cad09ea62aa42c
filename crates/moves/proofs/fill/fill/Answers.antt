-- Opening all nodes changes marks alone, so the state stays (`added-same`); what `fill_rows` then adds is what is added in all
-- (`added_then`).
use Rattle.moves.proofs.PlaceLaws.{shifts-marks, added-same, added_then}
use Rattle.moves.proofs.fill.fill.Goals as goal

pub fill_rows-requires : goal.fill_rows-requires
fill_rows-requires g c = (added-same c.requires (shifts-marks {u = 0} c.open_all.ensures)).filled.state

pub returns : goal.returns
returns g c = added_then (added-same c.requires (shifts-marks {u = 0} c.open_all.ensures)) c.fill_rows.ensures
