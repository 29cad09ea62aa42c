-- `drop_at` meets its contract: one store into the first item of the node, of x where the row is that item and of the item itself where it
-- is not. A first item takes half a cell, so it fits there again.
use lib.Dec.{eqb}
use native.Mathlib.Omega.{arith}
use Rattle.theory.proofs.TestLaws.{pick-most}
use Rattle.scratch.specs.Map.{firsts}
use Rattle.scratch.proofs.MapLaws.{half-small}
use Rattle.residual.proofs.lists.drop_at.Goals as goal

pub set_first-requires-clause-x_lt_half : goal.set_first-requires-clause-x_lt_half
set_first-requires-clause-x_lt_half g c =
    let a = c.args in
    let was = c.first-was in
    pick-most (eqb was.result a.c) a.x was.result c.pick.ensures c.requires.u_bound.1
    (rw was.ensures (half-small a.sh (g.W.Width.memory a.scratch.now) firsts _ (omega arith)))
