-- `put_closed` meets its contract: the first line, the rows' lines and the last line, which are three appends and so one. An accepted
-- file has few rows, so the place after each of them is a 64-bit number.
use mathlib.Core.List.{List}
use Prim.Native.Nat.{ℕ, ◌+◌, ◌^◌, ◌<◌}
use native.Mathlib.Omega.{arith}
use lib.ListN.{length}
use Rattle.theory.specs.Matroid.{row}
use Rattle.text.proofs.BufferLaws.{then}
use Rattle.claimfile.specs.Day.{kind_of}
use Rattle.report.specs.Text.{first_line, row_lines, last_line, closed_text}
use Rattle.report.proofs.TextLaws.{closed-room}
use Rattle.report.proofs.put_closed.Goals as goal
use Rattle.report.proofs.put_closed.Goals.{Start}

abbrev lines : Start → List ℕ
lines c =
    let a = c.args in
    row_lines a.layout.rows (kind_of a.file.now a.layout) (row a.choice.now)

-- the three parts together have room
room : (c : Start) →
    length (first_line c.args.layout.rows c.args.earned c.args.kept) + length ((let a = c.args in
    row_lines a.layout.rows (kind_of a.file.now a.layout) (row a.choice.now)))
    + length (last_line c.args.total) < 2 ^ 64
room c =
    let a = c.args in
    closed-room a.layout.rows a.earned a.kept a.total (kind_of a.file.now a.layout) (row a.choice.now)
    (omega (arith, c.requires.0.rows_most)) (omega arith) (omega arith) (omega arith)

pub put_first-after_first-requires : goal.put_first-after_first-requires
put_first-after_first-requires c = omega (arith, room (goal.at.put_first-after_first-requires c).Start)

pub put_rows-after_rows-requires : goal.put_rows-after_rows-requires
put_rows-after_rows-requires c =
    record {
      sound = c.requires;
      room = omega (arith, room (goal.at.put_rows-after_rows-requires c).Start);
    }

pub put_line-requires : goal.put_line-requires
unfolding last_line
put_line-requires c = omega (arith, room (goal.at.put_line-requires c).Start)

pub returns : goal.returns
unfolding closed_text last_line
returns c =
    then (then {b = lines (goal.at.returns c).Start} c.put_first-after_first.ensures c.put_rows-after_rows.ensures) c.put_line.ensures
