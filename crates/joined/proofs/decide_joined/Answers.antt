-- With no row there is nothing to decide; else the tables hold the joined file's day, and what the solver leaves of them is its settlement.
use mathlib.Core.Path.{sym}
use native.Mathlib.Omega.{arith}
use Rattle.claimfile.specs.File.{first_terms}
use Rattle.closing.proofs.SettleLaws.{in-first, tables-solves, solved-by, solved-settlement, empty-settlement}
use Rattle.joined.specs.Call.{together}
use Rattle.joined.proofs.CloseLaws.{join-given, join-wrote}
use Rattle.joined.proofs.decide_joined.Goals as goal

pub returns-then-layout-eq0 : goal.returns-then-layout-eq0
returns-then-layout-eq0 c =
    let a = c.args in
    empty-settlement first_terms _ (together a.day a.files.now a.lengths.now a.oven) a.layout _ _
    (omega (arith, c.if-layout-eq0.true)) c.clear.ensures.zero

pub shape_of-requires : goal.shape_of-requires
shape_of-requires c =
    let sound = c.requires.lent.sound in
    (sound.cards_most, sound.shops_most, sound.rows_most)

pub write_joined-requires : goal.write_joined-requires
write_joined-requires c =
    let a = c.args in
    join-given a.day a.files.now a.lengths.now a.oven a.layout c.requires.joins (omega (arith, c.if-layout-eq0.false)) _
    c.requires.lent.cells _ c.shape_of.ensures

pub solve_on-requires : goal.solve_on-requires
solve_on-requires c =
    let a = c.args in
    tables-solves _ _ _ _ _ c.requires.lent (omega (arith, c.if-layout-eq0.false)) _ c.shape_of.ensures _
    (join-wrote a.day a.files.now a.lengths.now a.oven a.layout c.requires.joins c.requires.known _ _ _
    c.write_joined.ensures)

pub returns : goal.returns
returns c =
    let a = c.args in
    solved-settlement first_terms _ _ _ (in-first _ _ c.requires.lent.kinds) c.requires.lent.sound _ c.shape_of.ensures _ _ _
    (join-wrote a.day a.files.now a.lengths.now a.oven a.layout c.requires.joins c.requires.known _ _ _
    c.write_joined.ensures).tabled
    (solved-by _ _ (sym c.shape_of.ensures) _ _ _ c.solve_on.ensures)
