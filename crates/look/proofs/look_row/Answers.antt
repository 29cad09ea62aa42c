-- A listed row costs its weight, so its arc is open; it leads from the node where its byte in the choice says so.
use native.Mathlib.Omega.{arith}
use Rattle.look.proofs.LookLaws.{row-leads}
use Rattle.look.proofs.StepLaws.{looking-most, looked-tried, ends-below}
use Rattle.look.proofs.look_row.Goals as goal

pub look-requires-clause-v_bound : goal.look-requires-clause-v_bound
look-requires-clause-v_bound g c = (
  ends-below c.requires.looking.ready c.requires.ends,
  (looking-most c.requires.looking, omega (arith, c.requires.ends.row, c.requires.looking.ready.buffers.room.few)),
)

pub returns : goal.returns
returns g c =
    let ends = c.requires.ends in
    looked-tried (ends-below c.requires.looking.ready ends) (omega (arith, ends.row, c.requires.looking.ready.buffers.room.few))
    (row-leads _ _ _ _ c.args.back c.requires.looking.ready.formed ends c.requires.free_le_c.0 c.requires.free_le_c.1
    c.kept.ensures)
    c.look.ensures
