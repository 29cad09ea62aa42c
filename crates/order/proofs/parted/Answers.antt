-- The labels of the row's two nodes are read and compared; a node of a formed network has a label (`card-below`, `shop-below`).
use native.Mathlib.Omega.{arith}
use Rattle.scratch.specs.View.{net_of}
use Rattle.theory.proofs.ResidualLaws.{card-below, shop-below}
use Rattle.order.proofs.OrderLaws.{parted-told}
use Rattle.order.proofs.parted.Goals as goal
use Rattle.order.proofs.parted.Goals.{Start}

pub label-requires : goal.label-requires
label-requires g c =
    let below = card-below (net_of c.args.sh (g.W.Width.memory c.args.scratch.now)) c.requires.raw.formed c.args.i c.requires.i_lt_rows in
    record {
      room = c.requires.raw.room;
      v_bound = omega (arith, c.card-a.ensures, below);
    }

pub label-requires-2 : goal.label-requires-2
label-requires-2 g c =
    let below = shop-below (net_of c.args.sh (g.W.Width.memory c.args.scratch.now)) c.requires.raw.formed c.args.i c.requires.i_lt_rows in
    record {
      room = c.requires.raw.room;
      v_bound = omega (arith, c.shop-b.ensures, below);
    }

pub returns : goal.returns
returns g c =
    parted-told c.card-a.ensures c.shop-b.ensures c.label.ensures.0
    c.label-2.ensures.0
