-- The invariant: the cells before the one at hand are copied, and no other table is changed.
use Prim.Native.Nat.{◌-◌, ◌≤◌}
use Rattle.solver_probe.specs.Probe.{Copied}
use Rattle.scratch.specs.Tables.{number_of}
use Rattle.solver_probe.proofs.write_table.Given as goal

abbrev pub invariant-loop-i : goal.invariant-loop-i
invariant-loop-i l = Copied l.sh (number_of l.k) l.given l.from l.initial.scratch l.scratch l.i
