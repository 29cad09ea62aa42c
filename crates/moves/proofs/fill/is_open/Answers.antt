-- The contract asks nothing of the answer: the two nodes of a row are nodes (`card-below`, `shop-below`), so both marks can be read.
use native.Mathlib.Omega.{arith}
use Rattle.theory.proofs.ResidualLaws.{card-below, shop-below}
use Rattle.scratch.specs.View.{net_of}
use Rattle.moves.proofs.fill.is_open.Goals as goal
use Rattle.moves.proofs.fill.is_open.Goals.{Start}

pub is_shut-requires-clause-v_bound : goal.is_shut-requires-clause-v_bound
is_shut-requires-clause-v_bound g c =
    omega (arith, c.card-a.ensures, card-below (net_of c.args.sh (g.W.Width.memory c.args.scratch.now)) c.requires.formed c.args.c c.requires.c_lt_rows)

pub is_shut-requires-2-clause-v_bound : goal.is_shut-requires-2-clause-v_bound
is_shut-requires-2-clause-v_bound g c =
    omega (arith, c.shop-b.ensures, shop-below (net_of c.args.sh (g.W.Width.memory c.args.scratch.now)) c.requires.formed c.args.c c.requires.c_lt_rows)
