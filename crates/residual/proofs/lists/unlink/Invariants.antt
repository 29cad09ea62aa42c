-- The loop's invariant: at the nodes below u no item hangs, and only the lists changed.
use Rattle.residual.specs.Items.{Emptied}
use Rattle.residual.proofs.lists.unlink.Given as goal

abbrev pub invariant-loop-u : goal.invariant-loop-u
invariant-loop-u g l = Emptied l.sh (g.W.Width.memory l.initial.scratch) (g.W.Width.memory l.scratch) l.u
