-- `write_refused` meets its contract: the line that was put into the cell of no use tells the length, and the same line is then put
-- into the buffer where it fits.
use Prim.Native.Nat.{◌^◌, ◌<◌}
use native.Mathlib.Omega.{arith}
use lib.ListN.{length}
use Rattle.text.proofs.BufferLaws.{whole, short}
use Rattle.report.specs.Text.{refused_text}
use Rattle.report.proofs.TextLaws.{refused-length}
use Rattle.report.proofs.write_refused.Goals as goal
use Rattle.report.proofs.write_refused.Goals.{Start}

room : (c : Start) → length (refused_text c.args.number) < 2 ^ 64
room c = omega (arith, refused-length 9 c.args.number (omega arith))

pub put_line-need-requires : goal.put_line-need-requires
unfolding refused_text
put_line-need-requires c = omega (arith, room (goal.at.put_line-need-requires c).Start)

pub returns-then-out-need : goal.returns-then-out-need
unfolding refused_text
returns-then-out-need c = short c.put_line-need.ensures (omega arith)

pub put_line-requires : goal.put_line-requires
unfolding refused_text
put_line-requires c = omega (arith, room (goal.at.put_line-requires c).Start)

pub returns : goal.returns
unfolding refused_text
returns c = whole c.put_line-need.ensures (omega arith) c.put_line.ensures
