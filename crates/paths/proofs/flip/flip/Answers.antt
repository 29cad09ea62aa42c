use native.Mathlib.Omega.{arith}
use Rattle.paths.proofs.FlipLaws.{at_first, at-turning, at_next, at-end, at_more}
use Rattle.paths.proofs.flip.flip.Goals as goal

pub loop-u-init : goal.loop-u-init
loop-u-init g c = at_first c.requires

pub turn-u-requires : goal.turn-u-requires
turn-u-requires g c = at-turning c.loop-u.invariant c.loop-u-test.true

pub overflow_add-arcs : goal.overflow_add-arcs
overflow_add-arcs g c = omega (arith, at_more c.loop-u.invariant c.loop-u-test.true, c.requires.ready.buffers.room.few.groups)

pub loop-u-smaller : goal.loop-u-smaller
loop-u-smaller g c = omega (arith, at_more c.loop-u.invariant c.loop-u-test.true)

pub loop-u-preserved : goal.loop-u-preserved
loop-u-preserved g c = at_next c.loop-u.invariant c.loop-u-test.true c.turn-u.ensures

pub returns : goal.returns
returns g c = at-end c.loop-u.invariant c.loop-u-test.false
