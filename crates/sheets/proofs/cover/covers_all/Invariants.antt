-- The loop keeps that the rows before c are covered. A row that is not ends it, and at its end all are.
use mathlib.Core.Path.{◌≡◌}
use mathlib.Core.Bool.{true}
use Prim.Native.Nat.{ℕ, ◌<◌}
use Rattle.claimfile.specs.Day.{instance_of}
use Rattle.sheets.specs.Sheet.{covers}
use Rattle.sheets.proofs.cover.covers_all.Given as goal

abbrev pub invariant-loop-c : goal.invariant-loop-c
invariant-loop-c l = (i : ℕ) → i < l.c → covers (instance_of l.file l.layout) l.sheet i ≡ true
