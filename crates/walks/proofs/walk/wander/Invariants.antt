-- The loop's invariant, `Roams`: the walk has come to u by so many steps, or it is ended. It makes fewer steps than twice the nodes
-- (`roam-low`).
use Prim.Native.Nat.{◌+◌, ◌*◌, ◌-◌}
use Rattle.walks.proofs.WalkLaws.{Roams}
use Rattle.walks.proofs.walk.wander.Given as goal

abbrev pub invariant-loop-u : goal.invariant-loop-u
invariant-loop-u g l = Roams l.sh l.choice (g.W.Width.memory l.sheet) (g.W.Width.memory l.initial.scratch) (g.W.Width.memory l.scratch) l.u l.steps

abbrev pub decreases-loop-u : goal.decreases-loop-u
decreases-loop-u g l = 2 * (l.sh.groups + 2) - l.steps
