-- A row that may be kept is left out and costs its weight, which is what `keep_row` asks; where it may not, nothing changes
-- (`added_none`).
use Rattle.moves.proofs.PlaceLaws.{added_none}
use Rattle.moves.proofs.fill.fill_row.Goals as goal

pub returns-else-may_keep : goal.returns-else-may_keep
returns-else-may_keep g c = added_none c.requires.state
