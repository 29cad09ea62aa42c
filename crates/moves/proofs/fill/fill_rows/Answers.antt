use Rattle.moves.proofs.PlaceLaws.{added_none, added_then}
use Rattle.moves.proofs.fill.fill_rows.Goals as goal

pub loop-c-init : goal.loop-c-init
loop-c-init g c = added_none c.requires

pub loop-c-preserved : goal.loop-c-preserved
loop-c-preserved g c = added_then c.loop-c.invariant c.fill_row.ensures
