use native.Mathlib.Omega.{arith}
use Rattle.walks.proofs.WalkLaws.{roams-first, roam-standing, roam-returns, roam-low, roams-next}
use Rattle.walks.proofs.walk.wander.Goals as goal

pub loop-u-init : goal.loop-u-init
loop-u-init g c = roams-first c.requires

pub step-u-requires : goal.step-u-requires
step-u-requires g c =
    let R = c.loop-u.invariant.on c.loop-u-test.true in
    record {
      standing = roam-standing c.requires R;
      returns = roam-returns c.requires R;
    }

pub overflow_add-steps : goal.overflow_add-steps
overflow_add-steps g c =
    omega (arith, roam-low c.requires (c.loop-u.invariant.on c.loop-u-test.true), c.requires.state.room.few.groups)

pub loop-u-smaller : goal.loop-u-smaller
loop-u-smaller g c = omega (arith, roam-low c.requires (c.loop-u.invariant.on c.loop-u-test.true))

pub loop-u-preserved : goal.loop-u-preserved
loop-u-preserved g c = roams-next c.requires (c.loop-u.invariant.on c.loop-u-test.true) c.step-u.ensures
