-- A toll of 1 falls to 0, since each arc that leaves the reached nodes has some slack (`fall-one`); else the fall is the least slack, which
-- `least` gives.
use Rattle.prices.proofs.ReadyLaws.{state-ready}
use Rattle.prices.proofs.StepLaws.{fall-one}
use Rattle.prices.proofs.step.fall.Goals as goal

pub returns-then-toll-eq1 : goal.returns-then-toll-eq1
returns-then-toll-eq1 g c = fall-one c.requires c.if-toll-eq1.true

pub least-requires : goal.least-requires
least-requires g c = state-ready c.requires.state
