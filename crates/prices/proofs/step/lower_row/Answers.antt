-- A row that is in runs from its shop node to its card node, one that is out the other way: the two picks give the ends in that order
-- (`along-row`), and `lower` does the rest.
use Rattle.prices.proofs.StepLaws.{along-row}
use Rattle.theory.proofs.TestLaws.{picked}
use Rattle.prices.proofs.step.lower_row.Goals as goal

pub lower-requires-clause-along_of : goal.lower-requires-clause-along_of
lower-requires-clause-along_of g c =
    along-row _ _ c.requires.ready.formed c.requires.c_lt_rows c.card-a.ensures c.shop-b.ensures c.kept-takes.ensures
    (picked _ c.pick-from.ensures) (picked _ c.pick-to.ensures)
