use native.Mathlib.Omega.{arith}
use Rattle.walks.proofs.WayLaws.{standing-item, goes-is, opening-first, opening-next, opening-found, opening-end}
use Rattle.walks.proofs.ways.open_item.Goals as goal

pub loop-i-init : goal.loop-i-init
loop-i-init g c = opening-first c.requires.pointed

pub goes_along-requires-clause-at_item : goal.goes_along-requires-clause-at_item
goes_along-requires-clause-at_item g c =
    standing-item c.requires.standing c.loop-i.invariant.point (omega (arith, c.loop-i-test.true))

pub returns-then-goes_along : goal.returns-then-goes_along
returns-then-goes_along g c = opening-found c.loop-i.invariant c.if-goes_along.true c.goes_along.ensures

pub after-i-requires : goal.after-i-requires
after-i-requires g c = standing-item c.requires.standing c.loop-i.invariant.point (omega (arith, c.loop-i-test.true))

pub loop-i-preserved : goal.loop-i-preserved
loop-i-preserved g c =
    opening-next c.loop-i.invariant c.requires.standing (goes-is c.if-goes_along.false c.goes_along.ensures)
    c.after-i.ensures

pub returns : goal.returns
returns g c = opening-end c.loop-i.invariant (omega (arith, c.loop-i-test.false))
