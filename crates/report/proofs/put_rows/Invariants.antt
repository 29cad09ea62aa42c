-- `put_rows` meets its contract. The loop's invariant: the lines of the first `c` rows are appended. A turn appends one line more.
use Rattle.theory.specs.Matroid.{row}
use Rattle.text.specs.Buffer.{Appended}
use Rattle.claimfile.specs.Day.{kind_of}
use Rattle.report.specs.Text.{row_lines}
use Rattle.report.proofs.put_rows.Given as goal

abbrev pub invariant-loop-c : goal.invariant-loop-c
invariant-loop-c l = Appended l.initial.out l.out l.at l.next (row_lines l.c (kind_of l.file l.layout) (row l.choice))
