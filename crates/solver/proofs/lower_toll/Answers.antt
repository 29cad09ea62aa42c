use mathlib.Core.Path.{◌≡◌}
use native.Mathlib.Omega.{arith}
use Rattle.solver.proofs.TollLaws.{lowered_none, lowered-then, lowered-running}
use Rattle.solver.proofs.lower_toll.Goals as goal

pub loop-toll-init : goal.loop-toll-init
loop-toll-init g c = let R = c.requires in lowered_none R.state R.lists R.fresh

pub advance-toll-requires : goal.advance-toll-requires
advance-toll-requires g c = rw c.with_toll.ensures (lowered-running c.loop-toll.invariant c.requires)

pub loop-toll-preserved : goal.loop-toll-preserved
loop-toll-preserved g c = lowered-then c.loop-toll.invariant (rw c.with_toll.ensures at c.advance-toll.ensures).lowered

pub returns : goal.returns
returns g c =
    let none : c.loop-toll.toll ≡ 0 = omega (arith, c.loop-toll-test.false) in
    rw none at c.loop-toll.invariant
