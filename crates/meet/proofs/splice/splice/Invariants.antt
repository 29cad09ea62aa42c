-- The invariant, `Splicing`: the way from the start stands, and arc e leads on from it to a node that was reached from the target, or the
-- target is on it. Each turn makes one node of that end a node of the way.
use Prim.Native.Nat.{◌+◌}
use Rattle.look.specs.Reach.{reached}
use Rattle.meet.specs.Meet.{seen_by}
use Rattle.meet.proofs.SpliceLaws.{Splicing}
use mathlib.Core.Bool.{true}
use Rattle.meet.proofs.splice.splice.Given as goal

abbrev pub invariant-loop-e : goal.invariant-loop-e
invariant-loop-e g l = Splicing l.sh l.choice (g.W.Width.memory l.sheet) (g.W.Width.memory l.initial.scratch) (g.W.Width.memory l.scratch) l.start l.target l.hit l.e

abbrev pub decreases-loop-e : goal.decreases-loop-e
decreases-loop-e g l = reached (seen_by l.sh true (g.W.Width.memory l.scratch)) (l.sh.groups + 2)
