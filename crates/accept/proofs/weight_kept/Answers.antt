-- The total of what the choice comes to is the weight of the kept rows.
use native.Mathlib.Omega.{arith}
use Rattle.accept.proofs.weight_kept.Goals as goal

pub returns : goal.returns
returns c = omega (arith, c.totals_of-totals.ensures.total)
