-- The answer is yes only where all three tests hold (`and-true`). The first says that the row is left out and the second that it costs its
-- weight; the third only saves walks.
use mathlib.Core.Path.{sym, ◌∙◌}
use mathlib.Core.Bool.{◌&&◌}
use Prim.Native.Nat.{◌+◌}
use lib.Dec.{eqb}
use native.Mathlib.Omega.{arith}
use borrow.Author.Tests.{eqb-true}
use Rattle.theory.proofs.TestLaws.{and-true}
use Rattle.moves.proofs.fill.may_keep.Goals as goal
use Rattle.moves.proofs.fill.may_keep.Goals.{Start}

pub returns : goal.returns
returns g c =
    let cost = c.row_price.result + c.args.sh.toll in
    let out = eqb c.kept-out.result 0 in
    let even = eqb cost c.weight.result in
    λ e.
    let both = and-true out even (and-true (out && even) c.is_open.result e).0 in
    record {
      out = sym c.kept-out.ensures ∙ eqb-true c.kept-out.result 0 both.0;
      even =
          omega (arith, eqb-true cost c.weight.result both.1, c.weight.ensures.0, c.row_price.ensures);
    }
