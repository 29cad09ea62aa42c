-- `put_rows` meets its contract. The loop's invariant: the lines of the kept ones of the first `c` rows are appended.
use Rattle.text.specs.Buffer.{Appended}
use Rattle.slip.specs.Slip.{kept_lines}
use Rattle.slip.proofs.put_rows.Given as goal

abbrev pub invariant-loop-c : goal.invariant-loop-c
invariant-loop-c l = Appended l.initial.out l.out l.at l.next (kept_lines l.file l.layout l.c l.selection)
