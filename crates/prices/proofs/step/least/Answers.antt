-- The arcs of the groups and the rows are all arcs, and the least slack of the rows is taken at most that of the groups (`groups-rows`).
use Rattle.prices.proofs.StepLaws.{groups-rows}
use Rattle.prices.proofs.step.least.Goals as goal

pub returns : goal.returns
returns g c = groups-rows c.least_groups-most.ensures c.least_rows.ensures
