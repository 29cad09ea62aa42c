-- `none_above` meets its contract. The loop keeps that none of the limits before column k is above the parent's.
use Prim.Native.Nat.{ℕ, ◌≤◌, ◌<◌}
use Rattle.claimfile.specs.File.{limit_at}
use Rattle.reader.proofs.check.none_above.Given as goal

abbrev pub invariant-loop-k : goal.invariant-loop-k
invariant-loop-k l = (i : ℕ) → i < l.k → limit_at l.file l.own i ≤ limit_at l.file l.parent i
