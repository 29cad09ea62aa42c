-- The arc between a node and its child, which has its price: down along the arcs, up against them. It is a step where the child's side
-- asks for no place, or the child has one left.
use Prim.Native.Nat.{◌+◌}
use native.Mathlib.Omega.{arith}
use Rattle.look.proofs.LookLaws.{down-leads}
use Rattle.look.proofs.StepLaws.{looking-most, looked-by, pick_yes, pick_no}
use Rattle.look.proofs.look_down.Goals as goal

pub look-requires-clause-v_bound : goal.look-requires-clause-v_bound
look-requires-clause-v_bound g c =
    let child = c.requires.child_item in
    let room = c.requires.looking.ready.buffers.room in
    (omega (arith, child.group, child.code), (looking-most c.requires.looking, omega (arith, child.group, child.code, room.few)))

pub returns-then-back : goal.returns-then-back
returns-then-back g c =
    let a = c.args in
    let child = c.requires.child_item in
    looked-by (pick_yes (a.sh.groups + a.sh.rows + a.v) a.v c.if-back.true) (omega (arith, child.group, child.code))
    (omega (arith, child.group, child.code, c.requires.looking.ready.buffers.room.few))
    (down-leads _ _ _ _ a.back child c.pick-easy.ensures c.spare.ensures) c.look.ensures

pub look-requires-2-clause-v_bound : goal.look-requires-2-clause-v_bound
look-requires-2-clause-v_bound g c =
    let child = c.requires.child_item in
    let room = c.requires.looking.ready.buffers.room in
    (omega (arith, child.group, child.code), (looking-most c.requires.looking, omega (arith, child.group, child.code, room.few)))

pub returns : goal.returns
returns g c =
    let a = c.args in
    let child = c.requires.child_item in
    looked-by (pick_no (a.sh.groups + a.sh.rows + a.v) a.v c.if-back.false) (omega (arith, child.group, child.code))
    (omega (arith, child.group, child.code, c.requires.looking.ready.buffers.room.few))
    (down-leads _ _ _ _ a.back child c.pick-easy.ensures c.spare.ensures) c.look-2.ensures
