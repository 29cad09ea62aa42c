-- The loop's invariant, `Named`: the nodes below v that have a pred have the label, and no other label changed.
use Prim.Native.Nat.{◌+◌, ◌-◌, ◌≤◌}
use Rattle.holders.specs.Find.{Named}
use Rattle.holders.proofs.label_source.Given as goal

abbrev pub invariant-loop-v : goal.invariant-loop-v
invariant-loop-v g l = Named l.sh (g.W.Width.memory l.initial.scratch) (g.W.Width.memory l.scratch) l.v × (l.v ≤ l.sh.groups + 2)

abbrev pub decreases-loop-v : goal.decreases-loop-v
decreases-loop-v g l = l.sh.groups + 2 - l.v
