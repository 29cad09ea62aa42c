-- The arcs are numbered group by group down, row by row, group by group up: the function for each kind of arc decodes arc e, where e is that
-- kind's first number and the number of the group or row.
use mathlib.Core.Path.{◌≡◌}
use Prim.Native.Nat.{◌+◌, ◌-◌}
use native.Mathlib.Omega.{arith}
use Rattle.residual.proofs.arcs.arc.Goals as goal

pub returns-then-e-g-2 : goal.returns-then-e-g-2
returns-then-e-g-2 g c =
    let A = c.args in
    let i : A.sh.groups + (A.e - A.sh.groups) ≡ A.e = omega arith in
    rw i at c.row_arc.ensures

pub returns : goal.returns
returns g c =
    let A = c.args in
    let i : A.sh.groups + A.sh.rows + (A.e - A.sh.groups - A.sh.rows) ≡ A.e = omega arith in
    rw i at c.up_arc.ensures
