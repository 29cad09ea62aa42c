-- `put_blanks` meets its contract. The loop's invariant: as many blanks are appended as it has gone round.
use Rattle.text.specs.Text.{blanks}
use Rattle.text.specs.Buffer.{Appended}
use Rattle.text.proofs.put_blanks.Given as goal

abbrev pub invariant-loop : goal.invariant-loop
invariant-loop l = Appended l.initial.out l.out l.at l.next (blanks l.counter)
