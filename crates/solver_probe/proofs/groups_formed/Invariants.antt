-- The invariant: every group before the one at hand is formed.
use Prim.Native.Nat.{◌-◌}
use Rattle.solver_probe.specs.Probe.{GroupsFormed}
use Rattle.solver_probe.proofs.groups_formed.Given as goal

abbrev pub invariant-loop-v : goal.invariant-loop-v
invariant-loop-v l = GroupsFormed l.sh l.groups l.v
