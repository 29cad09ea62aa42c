use native.Mathlib.Omega.{arith}
use Rattle.theory.proofs.TestLaws.{picked}
use Rattle.prices.proofs.StepLaws.{raised-none, raised-low, raised-one}
use Rattle.prices.proofs.step.raise.Goals as goal

pub loop-v-init : goal.loop-v-init
loop-v-init g c = raised-none

pub overflow_add-p : goal.overflow_add-p
overflow_add-p g c =
    omega (
      arith,
      raised-low c.loop-v.invariant c.moves-rises.ensures (picked _ c.pick.ensures) c.price-p.ensures.0
          c.requires.range,
    )

pub set_price-requires-clause-x_lt_cell_bound : goal.set_price-requires-clause-x_lt_cell_bound
set_price-requires-clause-x_lt_cell_bound g c =
    omega (
      arith,
      raised-low c.loop-v.invariant c.moves-rises.ensures (picked _ c.pick.ensures) c.price-p.ensures.0
          c.requires.range,
    )

pub loop-v-preserved : goal.loop-v-preserved
loop-v-preserved g c = raised-one c.loop-v.invariant c.moves-rises.ensures (picked _ c.pick.ensures) c.price-p.ensures.0
    c.set_price.ensures
