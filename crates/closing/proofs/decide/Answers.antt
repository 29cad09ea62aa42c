-- With no row there is nothing to decide; else the tables hold the day, and what the solver leaves of them is its settlement. The memory of
-- 32-bit cells is the slices themselves, so the contract of the tables speaks of them.
use mathlib.Core.Path.{sym}
use native.Mathlib.Omega.{arith}
use Rattle.claimfile.specs.File.{first_terms}
use Rattle.closing.proofs.SettleLaws.{in-first, tables-given, tables-solves, solved-by, solved-settlement, empty-settlement}
use Rattle.closing.proofs.decide.Goals as goal

pub returns-then-layout-eq0 : goal.returns-then-layout-eq0
returns-then-layout-eq0 c = empty-settlement first_terms _ _ _ _ _ (omega (arith, c.if-layout-eq0.true)) c.clear.ensures.zero

pub shape_of-requires : goal.shape_of-requires
shape_of-requires c =
    let sound = c.requires.sound in
    (sound.cards_most, sound.shops_most, sound.rows_most)

pub write_tables-requires : goal.write_tables-requires
write_tables-requires c =
    tables-given first_terms _ _ _ (in-first _ _ c.requires.kinds) c.requires.sound (omega (arith, c.if-layout-eq0.false)) _
    c.requires.cells _ c.shape_of.ensures

pub solve_on-requires : goal.solve_on-requires
solve_on-requires c =
    tables-solves _ _ _ _ _ c.requires (omega (arith, c.if-layout-eq0.false)) _ c.shape_of.ensures _
    c.write_tables.ensures

pub returns : goal.returns
returns c =
    solved-settlement first_terms _ _ _ (in-first _ _ c.requires.kinds) c.requires.sound _ c.shape_of.ensures _ _ _
    c.write_tables.ensures.tabled (solved-by _ _ (sym c.shape_of.ensures) _ _ _ c.solve_on.ensures)
