-- The first filling begins at no row, no price and the whole toll, which are a state (`state-start`), and its lists are built then.
use Rattle.scratch.specs.Clear.{Cleared}
use Rattle.prices.proofs.ReadyLaws.{state-linkable}
use Rattle.solver.proofs.StartLaws.{state-start, started}
use Rattle.solver.proofs.start.Goals as goal
use Rattle.solver.proofs.start.Goals.{After-clear}
use Rattle.solver.proofs.start.Given as given

-- no price is left behind the first call
priceless :
    (g : given.Over) (c : After-clear g)
    → Cleared (g.W.Width.memory c.args.sheet.now) (g.W.Width.memory c.clear.new.cells)
priceless g c = g.met.W.Width.memory_cleared c.args.sheet.now c.clear.new.cells c.clear.ensures

pub fill-requires : goal.fill-requires
fill-requires g c =
    state-start c.requires (priceless g (goal.at.fill-requires g c).After-clear) c.clear_bytes.ensures c.refresh.ensures

pub link-requires : goal.link-requires
link-requires g c = state-linkable c.fill.ensures.filled.state

pub returns : goal.returns
returns g c =
    started c.requires (priceless g (goal.at.returns g c).After-clear) c.clear_bytes.ensures c.refresh.ensures c.fill.ensures
    c.link.ensures
