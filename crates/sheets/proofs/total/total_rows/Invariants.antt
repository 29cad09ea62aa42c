-- The loop keeps the sum of the marks so far, in which no mark is over 2 ^ 32.
use mathlib.Core.Path.{◌≡◌}
use Prim.Native.Nat.{◌*◌, ◌≤◌}
use Rattle.theory.specs.Bounds.{cell_bound}
use Rattle.sheets.specs.Judge.{row_total}
use Rattle.sheets.proofs.total.total_rows.Given as goal

abbrev pub invariant-loop-c : goal.invariant-loop-c
invariant-loop-c l = (l.total ≡ row_total l.sheet l.groups l.c) × (l.total ≤ cell_bound * l.c)
