-- The invariant: the toll at hand is reached by turns, each of which lowers it or keeps one row more. The loop ends at toll 0.
use Rattle.solver.specs.Toll.{left, Lowered}
use Rattle.solver.proofs.lower_toll.Given as goal

abbrev pub invariant-loop-toll : goal.invariant-loop-toll
invariant-loop-toll g l = Lowered l.sh l.initial.choice (g.W.Width.memory l.initial.sheet) (g.W.Width.memory l.initial.scratch) l.toll l.choice (g.W.Width.memory l.sheet)
    (g.W.Width.memory l.scratch)

abbrev pub decreases-loop-toll : goal.decreases-loop-toll
decreases-loop-toll g l = left l.sh.rows l.toll l.choice
