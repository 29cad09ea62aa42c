use Rattle.walks.proofs.RoundLaws.{going-first, going_next, going_less, going_end}
use Rattle.walks.proofs.turn_all.Goals as goal

pub loop-more-init : goal.loop-more-init
loop-more-init g c = going-first c.requires.begun c.requires.ahead

pub loop-more-smaller : goal.loop-more-smaller
loop-more-smaller g c = going_less c.loop-more.invariant c.turn_next-more.ensures c.loop-more-test.true

pub loop-more-preserved : goal.loop-more-preserved
loop-more-preserved g c = going_next c.loop-more.invariant c.turn_next-more.ensures

pub returns : goal.returns
returns g c = going_end c.loop-more.invariant
