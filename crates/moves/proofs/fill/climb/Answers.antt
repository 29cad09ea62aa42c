use native.Mathlib.Omega.{arith}
use Rattle.scratch.specs.Map.{spares}
use Rattle.scratch.proofs.MapLaws.{half-small}
use Rattle.moves.proofs.PlaceLaws.{depth_falls, climbed-none, climbed-more, climbed-falls}
use Rattle.moves.proofs.fill.climb.Goals as goal

pub loop-v-init : goal.loop-v-init
loop-v-init g c = climbed-none c.requires

pub set_spare-requires-clause-x_lt_half : goal.set_spare-requires-clause-x_lt_half
set_spare-requires-clause-x_lt_half g c =
    omega (
      arith,
      c.spare-left.ensures,
      climbed-falls c.requires c.loop-v.invariant c.loop-v.v,
      half-small c.args.sh (g.W.Width.memory c.args.scratch.now) spares c.loop-v.v
          (omega arith),
    )

pub loop-v-smaller : goal.loop-v-smaller
loop-v-smaller g c = depth_falls c.requires c.loop-v.invariant.shifts.only c.loop-v-test.true c.parent-up.ensures

pub loop-v-preserved : goal.loop-v-preserved
loop-v-preserved g c = climbed-more c.requires c.loop-v-test.true c.spare-left.ensures c.loop-v.invariant
    (λ e. omega (arith, e, c.if-left-eq0.false)) c.set_spare.ensures c.parent-up.ensures
