use native.Mathlib.Omega.{arith}
use Rattle.scratch.specs.Map.{parent_of}
use Rattle.moves.proofs.PlaceLaws.{upward-off, places-put, parent-places, depth_falls, shifts_none, gives_more, gives_fits}
use Rattle.moves.proofs.fill.give_back.Goals as goal
use Rattle.moves.proofs.fill.give_back.Goals.{Start}

pub loop-v-init : goal.loop-v-init
loop-v-init g c = (shifts_none, c.requires.above)

pub spare-left-requires-clause-v_lt_groups : goal.spare-left-requires-clause-v_lt_groups
spare-left-requires-clause-v_lt_groups g c =
    (upward-off _ _ c.loop-v-test.true c.loop-v.invariant.1).0

pub overflow_add-left : goal.overflow_add-left
overflow_add-left g c =
    let group = (upward-off _ _ c.loop-v-test.true c.loop-v.invariant.1).0 in
    omega (arith, c.spare-left.ensures, gives_fits c.requires.rooted group c.loop-v.invariant.0 c.requires.low)

pub set_spare-requires-clause-x_lt_half : goal.set_spare-requires-clause-x_lt_half
set_spare-requires-clause-x_lt_half g c =
    let group = (upward-off _ _ c.loop-v-test.true c.loop-v.invariant.1).0 in
    omega (arith, c.spare-left.ensures, gives_fits c.requires.rooted group c.loop-v.invariant.0 c.requires.low)

pub parent-v-requires-clause-v_lt_groups : goal.parent-v-requires-clause-v_lt_groups
parent-v-requires-clause-v_lt_groups g c =
    (upward-off _ _ c.loop-v-test.true c.loop-v.invariant.1).0

pub loop-v-smaller : goal.loop-v-smaller
loop-v-smaller g c =
    depth_falls c.requires.rooted (places-put c.loop-v.invariant.0.only c.set_spare.ensures)
    (upward-off _ _ c.loop-v-test.true c.loop-v.invariant.1).0 c.parent-v.ensures

pub loop-v-preserved : goal.loop-v-preserved
loop-v-preserved g c = let P = c.set_spare.ensures in
    let off =
    upward-off c.args.sh.groups (parent_of c.args.sh (g.W.Width.memory c.args.scratch.now)) c.loop-v-test.true c.loop-v.invariant.1
    in (
      gives_more c.requires.rooted off.0 c.spare-left.ensures c.loop-v.invariant.0 P c.parent-v.ensures,
      rw (parent-places c.requires.rooted (places-put c.loop-v.invariant.0.only P) c.loop-v.v c.parent-v.ensures) off.1,
    )
