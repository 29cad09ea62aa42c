-- `decide` with four kinds: with no row there is nothing to decide; else the tables hold the day, and what the solver leaves of them is
-- its settlement. The solver's memory is the low halves of the cells, and in the end they are the whole cells of the sheet.
use native.Mathlib.Omega.{arith}
use Rattle.claimfile.specs.File.{second_terms}
use Rattle.scratch.specs.Memory.{lows}
use Rattle.closing.specs.Close.{Lent}
use Rattle.closing.proofs.SettleLaws.{in-second, tables-given, tables-solvable, solved-settlement, empty-settlement}
use Rattle.kinds.proofs.LowLaws.{lent-lows}
use Rattle.kinds.proofs.decide_kinds.Goals as goal
use Rattle.kinds.proofs.decide_kinds.Goals.{Start}

-- the low halves of the lent cells are as many
lent :
    (S : Start)
    → let a = S.args in
    Lent second_terms a.file.now a.layout a.choice.now (lows a.sheet.now) (lows a.scratch.now)
lent S = lent-lows second_terms S.args.sheet.now S.args.scratch.now S.requires

pub returns-then-layout-eq0 : goal.returns-then-layout-eq0
returns-then-layout-eq0 c = empty-settlement second_terms _ _ _ _ _ (omega (arith, c.if-layout-eq0.true)) c.clear.ensures.zero

pub shape_of_kinds-sh-requires : goal.shape_of_kinds-sh-requires
shape_of_kinds-sh-requires c =
    let sound = c.requires.sound in
    (sound.cards_most, sound.shops_most, sound.rows_most)

pub write_tables-requires : goal.write_tables-requires
write_tables-requires c =
    tables-given second_terms _ _ _ (in-second _ _ c.requires.kinds) c.requires.sound (omega (arith, c.if-layout-eq0.false)) _
    (lent (goal.at.write_tables-requires c).Start).cells _ c.shape_of_kinds-sh.ensures

pub solve-requires : goal.solve-requires
solve-requires c =
    tables-solvable second_terms _ _ _ (in-second _ _ c.requires.kinds) _ _ _ (lent (goal.at.solve-requires c).Start) (omega (arith, c.if-layout-eq0.false)) _
    c.shape_of_kinds-sh.ensures _ c.write_tables.ensures

pub returns : goal.returns
returns c =
    rw c.keep_low.ensures
    (solved-settlement second_terms _ _ _ (in-second _ _ c.requires.kinds) c.requires.sound _ c.shape_of_kinds-sh.ensures _ _ _
    c.write_tables.ensures.tabled c.solve.ensures)
