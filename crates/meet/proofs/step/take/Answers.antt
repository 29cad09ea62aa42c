-- A fresh node gets the label of this direction and its place in the queue; where the label is of the other direction, both ends have met.
use native.Mathlib.Omega.{arith}
use Rattle.meet.proofs.StepLaws.{base-most, spot-low, tried-reached, tried-joins, tried-past}
use Rattle.meet.proofs.step.take.Goals as goal

pub set_label-requires-clause-x_lt_cell_bound : goal.set_label-requires-clause-x_lt_cell_bound
set_label-requires-clause-x_lt_cell_bound g c =
    omega (
      arith,
      c.requires.v_bound,
      c.requires.room.few,
      base-most c.args.back c.args.sh.fresh
          c.pick.ensures,
    )

pub set_queue-requires-clause-i_bound : goal.set_queue-requires-clause-i_bound
set_queue-requires-clause-i_bound g c =
    spot-low c.args.sh.groups c.args.back c.args.n c.pick-then-was-fresh.ensures
    c.requires.v_bound.1.0

pub returns-then-was-fresh : goal.returns-then-was-fresh
returns-then-was-fresh g c =
    tried-reached _ c.args.back _ _ c.args.e c.args.n c.label-was.ensures.0 c.if-was-fresh.true
    c.pick.ensures c.set_label.ensures c.pick-then-was-fresh.ensures c.set_queue.ensures

pub returns-then-arc_in-gt0 : goal.returns-then-arc_in-gt0
returns-then-arc_in-gt0 g c =
    tried-joins _ c.args.back _ _ c.args.e c.args.n c.label-was.ensures.0
    c.pick-2.ensures c.arc_in.ensures (omega (arith, c.if-arc_in-gt0.true))

pub returns : goal.returns
returns g c =
    tried-past _ c.args.back _ _ c.args.e c.args.n c.label-was.ensures.0
    c.pick-2.ensures c.arc_in.ensures c.if-was-fresh.false c.if-arc_in-gt0.false
