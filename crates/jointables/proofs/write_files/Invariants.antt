-- The loop keeps that the files before file k are written under the oven, whichever limit that has, where file k starts in the buffer and
-- where it stands in the tables.
use mathlib.Core.Path.{◌≡◌}
use Prim.Native.Nat.{ℕ}
use lib.ListN.{length}
use Rattle.theory.specs.Sum.{sum}
use Rattle.members.specs.Members.{length_of}
use Rattle.jointables.specs.Filled.{spot_of, Filled, days_of}
use Rattle.jointables.proofs.write_files.Given as goal

abbrev pub invariant-loop-k : goal.invariant-loop-k
invariant-loop-k l = (l.at ≡ sum l.k (length_of l.lengths)) × (l.spot ≡ spot_of (length l.lengths) (days_of l.day l.files l.lengths) l.k)
    × (length l.scratch ≡ length l.initial.scratch)
    × ((oven : ℕ) → Filled (length l.lengths) (days_of l.day l.files l.lengths) oven l.sh l.initial.scratch 0 →
    Filled (length l.lengths) (days_of l.day l.files l.lengths) oven l.sh l.scratch l.k)
