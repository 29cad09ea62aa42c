-- The loop keeps that the rows of the files before file k are counted, and where file k starts in the buffer.
use mathlib.Core.Path.{◌≡◌}
use Rattle.theory.specs.Sum.{sum}
use Rattle.members.specs.Members.{length_of}
use Rattle.joined.proofs.CountLaws.{Reached}
use Rattle.joined.proofs.count_files.Given as goal

abbrev pub invariant-loop-k : goal.invariant-loop-k
invariant-loop-k l = (l.at ≡ sum l.k (length_of l.lengths)) × Reached l.day l.files l.lengths l.choice l.k l.tally
