-- The toll falls by the least slack of the arcs that leave the reached nodes, and the prices rise by as much: that is the step of the theory
-- (`stepped`), after which the choice and the prices are level again.
use Rattle.prices.proofs.StepLaws.{stepped}
use Rattle.prices.proofs.step.reprice.Goals as goal

pub returns : goal.returns
returns g c = stepped c.requires c.fall-d.ensures c.raise.ensures
