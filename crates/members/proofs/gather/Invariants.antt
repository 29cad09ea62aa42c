-- `gather` meets its contract: the loop keeps that the files before file k are accepted, with their sizes, and where file k starts.
use mathlib.Core.Path.{◌≡◌}
use Rattle.theory.specs.Sum.{sum}
use Rattle.members.specs.Members.{length_of, reading_of, AllOf, gathered}
use Rattle.members.proofs.gather.Given as goal

abbrev pub invariant-loop-k : goal.invariant-loop-k
invariant-loop-k l = (gathered (reading_of l.day l.files l.lengths) l.k ≡ AllOf l.sizes) × (l.at ≡ sum l.k (length_of l.lengths))
