-- Every cell is cleared.
use mathlib.Core.Path.{refl}
use Rattle.tallytables.proofs.BeginLaws.{empty-none}
use Rattle.tallytables.proofs.refuse.Goals as goal

pub returns : goal.returns
returns c = (refl, empty-none _ _ c.clear.ensures c.none_in.ensures)
