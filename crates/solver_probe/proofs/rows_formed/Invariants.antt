-- The invariant: every row before the one at hand is formed.
use Prim.Native.Nat.{◌-◌}
use Rattle.solver_probe.specs.Probe.{RowsFormed}
use Rattle.solver_probe.proofs.rows_formed.Given as goal

abbrev pub invariant-loop-c : goal.invariant-loop-c
invariant-loop-c l = RowsFormed l.sh l.rows l.c
