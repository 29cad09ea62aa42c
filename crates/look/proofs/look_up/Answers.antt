-- The arc between a group and its parent: up along the arcs, down against them. Whether it is a step was asked first.
use Prim.Native.Nat.{◌+◌}
use native.Mathlib.Omega.{arith}
use Rattle.look.proofs.StepLaws.{looking-most, looked-by, pick_yes, pick_no, up-node}
use Rattle.look.proofs.look_up.Goals as goal

pub look-requires-clause-v_bound : goal.look-requires-clause-v_bound
look-requires-clause-v_bound g c =
    let few = c.requires.looking.ready.buffers.room.few in
    let node = up-node c.requires.looking.ready c.requires.u_lt_groups c.parent-v.ensures in
    (node, (looking-most c.requires.looking, omega (arith, c.requires.u_lt_groups, few)))

pub returns-then-back : goal.returns-then-back
returns-then-back g c =
    let a = c.args in
    let few = c.requires.looking.ready.buffers.room.few in
    let node = up-node c.requires.looking.ready c.requires.u_lt_groups c.parent-v.ensures in
    looked-by (pick_yes a.u (a.sh.groups + a.sh.rows + a.u) c.if-back.true) node (omega (arith, c.requires.u_lt_groups, few))
    c.leads_up-leads.ensures c.look.ensures

pub look-requires-2-clause-v_bound : goal.look-requires-2-clause-v_bound
look-requires-2-clause-v_bound g c =
    let few = c.requires.looking.ready.buffers.room.few in
    let node = up-node c.requires.looking.ready c.requires.u_lt_groups c.parent-v.ensures in
    (node, (looking-most c.requires.looking, omega (arith, c.requires.u_lt_groups, few)))

pub returns : goal.returns
returns g c =
    let a = c.args in
    let few = c.requires.looking.ready.buffers.room.few in
    let node = up-node c.requires.looking.ready c.requires.u_lt_groups c.parent-v.ensures in
    looked-by (pick_no a.u (a.sh.groups + a.sh.rows + a.u) c.if-back.false) node (omega (arith, c.requires.u_lt_groups, few))
    c.leads_up-leads.ensures c.look-2.ensures
