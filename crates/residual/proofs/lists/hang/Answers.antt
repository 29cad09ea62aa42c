-- Two stores: the first item at the node goes into the cell of the new one, and the picked item becomes the first.
use native.Mathlib.Omega.{arith}
use Rattle.theory.proofs.TestLaws.{pick-most}
use Rattle.scratch.specs.Map.{firsts, part}
use Rattle.scratch.specs.Tables.{number_of}
use Rattle.scratch.proofs.PartLaws.{half-fits}
use Rattle.scratch.proofs.MapLaws.{half-small}
use Rattle.residual.proofs.lists.hang.Goals as goal
use Rattle.residual.proofs.lists.hang.Goals.{Start}

pub set_cell-requires-clause-x_bound : goal.set_cell-requires-clause-x_bound
set_cell-requires-clause-x_bound g c =
    half-fits (part (number_of c.args.k)) c.first-was.result
    (rw c.first-was.ensures (half-small c.args.sh (g.W.Width.memory c.args.scratch.now) firsts _ (omega arith)))

pub set_first-requires-clause-x_lt_half : goal.set_first-requires-clause-x_lt_half
set_first-requires-clause-x_lt_half g c =
    pick-most c.args.tight c.args.j c.first-was.result c.pick.ensures c.requires.u_bound.1
    (rw c.first-was.ensures (half-small c.args.sh (g.W.Width.memory c.args.scratch.now) firsts _ (omega arith)))
