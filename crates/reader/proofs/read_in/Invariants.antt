-- `read_in` meets its contract. The loop keeps that the group sections of the sides before `side` were read, and that the next section
-- stands at `at` (`ReadTo`); the first fault met is told of the file.
use Rattle.reader.proofs.ReadLaws.{ReadTo}
use Rattle.reader.proofs.read_in.Given as goal

abbrev pub invariant-loop-side : goal.invariant-loop-side
invariant-loop-side l = ReadTo l.form l.file l.side l.sections l.at
