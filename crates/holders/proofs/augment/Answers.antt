use borrow.Author.Rules.{rules}
use Rattle.solver.proofs.TollLaws.{running-begun}
use Rattle.holders.proofs.FindLaws.{going_start, going_next, going_less}
use Rattle.holders.proofs.augment.Goals as goal

pub loop-more-init : goal.loop-more-init
loop-more-init g c = going_start (search rules) c.requires

pub turn_more-more-requires : goal.turn_more-more-requires
turn_more-more-requires g c = running-begun (c.loop-more.invariant.more c.loop-more-test.true).running

pub loop-more-smaller : goal.loop-more-smaller
loop-more-smaller g c = going_less c.loop-more.invariant c.loop-more-test.true c.turn_more-more.ensures

pub loop-more-preserved : goal.loop-more-preserved
loop-more-preserved g c =
    going_next c.loop-more.invariant c.loop-more-test.true c.turn_more-more.ensures c.turn_more-more.auto.choice

pub returns : goal.returns
returns g c = c.loop-more.invariant.end c.loop-more-test.false
