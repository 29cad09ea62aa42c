-- The tables are filled, and no row is in.
use mathlib.Core.Path.{refl}
use Rattle.tallytables.proofs.BeginLaws.{filled_none}
use Rattle.tallytables.proofs.enter.Goals as goal

pub returns : goal.returns
returns c =
    let a = c.args in
    (refl, filled_none a.file.now a.layout c.requires.0 _ _ c.fill.ensures c.none_in.ensures)
