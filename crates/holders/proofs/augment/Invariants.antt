-- While `more` holds the next round may begin, and once it does not there is no path (`Going`). Each round but the last keeps more rows.
use Rattle.walks.proofs.RoundLaws.{to_go}
use Rattle.holders.proofs.FindLaws.{Going}
use Rattle.holders.proofs.augment.Given as goal

abbrev pub invariant-loop-more : goal.invariant-loop-more
invariant-loop-more g l = Going l.sh l.initial.choice (g.W.Width.memory l.sheet) (g.W.Width.memory l.initial.scratch) l.choice (g.W.Width.memory l.scratch) l.more

abbrev pub decreases-loop-more : goal.decreases-loop-more
decreases-loop-more g l = to_go l.sh l.choice l.more
