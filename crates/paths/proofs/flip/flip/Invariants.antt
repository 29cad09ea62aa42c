-- The loop's invariant, `At`: the walk has come back from the target to u by so many arcs, and the part from u to the target is turned.
-- Each turn goes to a node that was reached earlier (`at_next`), so that there are no more turns than nodes (`at_more`); at the start the
-- whole path is turned (`at-end`).
use Prim.Native.Nat.{◌+◌, ◌-◌}
use Rattle.paths.proofs.FlipLaws.{At}
use Rattle.paths.proofs.flip.flip.Given as goal

abbrev pub invariant-loop-u : goal.invariant-loop-u
invariant-loop-u g l = At l.sh l.initial.choice (g.W.Width.memory l.sheet) (g.W.Width.memory l.initial.scratch) l.start l.target l.choice (g.W.Width.memory l.scratch) l.u l.arcs

abbrev pub decreases-loop-u : goal.decreases-loop-u
decreases-loop-u g l = l.sh.groups + 2 - l.arcs
