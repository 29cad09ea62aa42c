use mathlib.Core.Path.{◌≡◌}
use native.Mathlib.Omega.{arith}
use Rattle.residual.proofs.lists.link_rows.Goals as goal

pub returns : goal.returns
returns g c =
    let all : c.loop-c.c ≡ 0 = omega arith in
    rw all at c.loop-c.invariant
