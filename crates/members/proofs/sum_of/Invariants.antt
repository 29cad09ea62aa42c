-- `sum_of` meets its contract: the loop keeps the sum so far, and that it is small enough for the next length.
use mathlib.Core.Path.{◌≡◌}
use Prim.Native.Nat.{◌*◌, ◌≤◌}
use Rattle.theory.specs.Sum.{sum}
use Rattle.members.specs.Members.{length_of}
use Rattle.members.proofs.sum_of.Given as goal

abbrev pub invariant-loop-k : goal.invariant-loop-k
invariant-loop-k l = (l.total ≡ sum l.k (length_of l.lengths)) × (l.total ≤ 4294967296 * l.k)
