-- Only labels change between the two calls, so the last places of the queue hold the nodes that they held.
use native.Mathlib.Omega.{arith}
use Rattle.theory.proofs.TestLaws.{pick-most}
use Rattle.order.proofs.SwapLaws.{last-still, ends_named}
use Rattle.order.proofs.name_ends.Goals as goal

pub relabel-requires-clause-x_lt_cell_bound : goal.relabel-requires-clause-x_lt_cell_bound
relabel-requires-clause-x_lt_cell_bound g c =
    pick-most c.args.out c.args.x c.args.sh.fresh c.pick.ensures
    c.requires.x_lt_cell_bound (omega (arith, c.requires.queues.0.room.few.fresh))

pub relabel_last-requires : goal.relabel_last-requires
relabel_last-requires g c =
    record {
      queued = last-still c.relabel.ensures c.requires.queues.1;
      x_lt_cell_bound = pick-most c.args.out c.args.sh.fresh
          c.args.x c.pick-2.ensures (omega (arith, c.requires.queues.0.room.few.fresh)) c.requires.x_lt_cell_bound;
    }

pub returns : goal.returns
returns g c =
    ends_named c.relabel.ensures c.args.out c.args.x c.pick.ensures
    c.pick-2.ensures c.relabel_last.ensures
