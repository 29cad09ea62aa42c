-- With no row there is nothing to tell; else the tables hold the day, and what is read off them are its codes. The memory of 32-bit cells is
-- the slices themselves.
use native.Mathlib.Omega.{arith}
use Rattle.claimfile.specs.File.{first_terms}
use Rattle.closing.proofs.SettleLaws.{in-first, tables-given, tables-ready}
use Rattle.codes.proofs.WriteLaws.{found-day, empty-known}
use Rattle.codes.proofs.decide.Goals as goal

pub returns-then-layout-eq0 : goal.returns-then-layout-eq0
returns-then-layout-eq0 c = empty-known _ _ (omega (arith, c.if-layout-eq0.true))

pub write_tables-requires : goal.write_tables-requires
write_tables-requires c =
    let lent = c.requires.0 in
    tables-given first_terms _ _ _ (in-first _ _ lent.kinds) lent.sound (omega (arith, c.if-layout-eq0.false)) _ lent.cells _
    c.shape_of-sh.ensures

pub find_codes-requires : goal.find_codes-requires
find_codes-requires c =
    let lent = c.requires.0 in
    let sound = lent.sound in
    tables-ready first_terms _ _ _ (in-first _ _ lent.kinds) sound (omega (arith, c.if-layout-eq0.false)) _ lent.cells _
    c.shape_of-sh.ensures _ _ lent.bytes (omega (arith, c.requires.1, sound.cards_most, sound.shops_most)) _ c.write_tables.ensures

pub returns : goal.returns
returns c =
    let lent = c.requires.0 in
    found-day _ _ lent.sound lent.kinds _ c.shape_of-sh.ensures _ _ _ c.write_tables.ensures.tabled
    c.find_codes.ensures
