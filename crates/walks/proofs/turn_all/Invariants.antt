-- The invariant, `Going`: paths were turned, and while `more` holds the next walk may begin. Each path keeps one row more.
use Rattle.walks.proofs.RoundLaws.{Going, to_go}
use Rattle.walks.proofs.turn_all.Given as goal

abbrev pub invariant-loop-more : goal.invariant-loop-more
invariant-loop-more g l = Going l.sh l.initial.choice (g.W.Width.memory l.sheet) (g.W.Width.memory l.initial.scratch) l.choice (g.W.Width.memory l.scratch) l.more

abbrev pub decreases-loop-more : goal.decreases-loop-more
decreases-loop-more g l = to_go l.sh l.choice l.more
