-- The step gives a state at the lower toll (`stepped-state`), the filling keeps it, and the lists are those of its prices.
use Rattle.prices.proofs.ReadyLaws.{state-linkable}
use Rattle.solver.proofs.TollLaws.{stepped-state, moved-step}
use Rattle.solver.proofs.next_toll.Goals as goal

pub fill_under_toll-requires : goal.fill_under_toll-requires
fill_under_toll-requires g c = rw c.with_toll-next.ensures (stepped-state c.reprice.ensures c.refresh.ensures)

pub link-requires : goal.link-requires
link-requires g c = state-linkable c.fill_under_toll.ensures.filled.state

pub returns : goal.returns
returns g c =
    moved-step c.reprice.ensures c.refresh.ensures c.requires
    (rw c.with_toll-next.ensures at c.fill_under_toll.ensures) (rw c.with_toll-next.ensures at c.link.ensures)
