-- The shape is that of the layout, and the memory of 32-bit cells is the slices themselves, so the solver's contract speaks of them.
use Rattle.closing.proofs.SettleLaws.{solvable-by, solved-by}
use Rattle.closing.proofs.solve_on.Goals as goal

pub shape_of-requires : goal.shape_of-requires
shape_of-requires c =
    let asked = c.requires in
    (asked.cards_most, asked.shops_most, asked.rows_most)

pub solve-requires : goal.solve-requires
solve-requires c = solvable-by _ _ c.shape_of.ensures _ _ _ c.requires.solvable

pub returns : goal.returns
returns c = solved-by _ _ c.shape_of.ensures _ _ _ c.solve.ensures
