-- The label rises by the arc, and the count by one, where the test holds; else both stay, and the store in the queue lies past its end.
use mathlib.Core.Bool.{◌&&◌}
use native.Mathlib.Omega.{arith}
use lib.Dec.{eqb}
use Rattle.theory.proofs.TestLaws.{pick-most}
use Rattle.look.proofs.StepLaws.{label-fits, tried_of}
use Rattle.look.proofs.look.Goals as goal
use Rattle.look.proofs.look.Goals.{Start}

pub overflow_add-was : goal.overflow_add-was
overflow_add-was g c =
    omega (
      arith,
      label-fits c.args.sh (g.W.Width.memory c.args.scratch.now) c.args.v c.args.e c.args.leads c.label-was.ensures.0
          c.pick.ensures c.requires.room.few c.requires.v_bound.1.1
          c.label-was.ensures.1,
    )

pub set_label-requires-clause-x_lt_cell_bound : goal.set_label-requires-clause-x_lt_cell_bound
set_label-requires-clause-x_lt_cell_bound g c =
    label-fits c.args.sh (g.W.Width.memory c.args.scratch.now) c.args.v c.args.e c.args.leads c.label-was.ensures.0
    c.pick.ensures c.requires.room.few c.requires.v_bound.1.1
    c.label-was.ensures.1

pub overflow_add-result : goal.overflow_add-result
overflow_add-result g c =
    let more = pick-most {n = 2} (c.args.leads && eqb c.label-was.result c.args.sh.fresh) 1 0 c.pick-2.ensures in
    omega (arith, more (omega arith) (omega arith), c.requires.v_bound.1.0, c.requires.room.few)

pub returns : goal.returns
returns g c =
    tried_of c.args.sh (g.W.Width.memory c.args.scratch.now) c.args.v c.args.e c.args.leads c.label-was.ensures.0
    c.pick.ensures c.set_label.ensures c.set_queue.ensures c.pick-2.ensures
