-- `write_closed` meets its contract: the text that was put into the cell of no use tells the length, and the same text is then put
-- into the buffer where it fits.
use mathlib.Core.List.{List}
use Prim.Native.Nat.{ℕ}
use native.Mathlib.Omega.{arith}
use Rattle.theory.specs.Matroid.{row}
use Rattle.text.proofs.BufferLaws.{whole, short}
use Rattle.claimfile.specs.Day.{kind_of}
use Rattle.report.specs.Text.{closed_text}
use Rattle.report.proofs.write_closed.Goals as goal
use Rattle.report.proofs.write_closed.Goals.{Start}

-- the text
abbrev text : Start → List ℕ
text c =
    let a = c.args in
    closed_text a.layout.rows (kind_of a.file.now a.layout) (row a.choice.now) a.earned a.kept a.total

pub returns-then-out-need : goal.returns-then-out-need
returns-then-out-need c = short {a = text (goal.at.returns-then-out-need c).Start} c.put_closed-need.ensures (omega arith)

pub returns : goal.returns
returns c = whole {a = text (goal.at.returns c).Start} c.put_closed-need.ensures (omega arith) c.put_closed.ensures
