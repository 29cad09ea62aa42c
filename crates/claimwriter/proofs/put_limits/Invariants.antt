-- `put_limits` meets its contract. The loop keeps that the limits of the days before k are put, one behind the other.
use mathlib.Core.List.{List}
use Prim.Native.Nat.{ℕ}
use Rattle.theory.specs.Matroid.{row}
use Rattle.claimwriter.specs.Written.{bytes_of, records}
use Rattle.claimwriter.specs.Put.{Put}
use Rattle.claimwriter.proofs.put_limits.Given as goal

abbrev pub limits_of : List ℕ → ℕ → List ℕ
limits_of limits k = bytes_of (row limits k)

abbrev pub invariant-loop-k : goal.invariant-loop-k
invariant-loop-k l = Put l.initial.out l.out l.at (records l.k (limits_of l.limits))
