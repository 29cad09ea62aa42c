-- The arc between a node and its child, which has its price: down along the arcs, up against them. It is a step where the child's side
-- asks for no place, or the child has one left.
use native.Mathlib.Omega.{arith}
use Rattle.look.proofs.LookLaws.{down-leads}
use Rattle.meet.proofs.StepLaws.{fall-small, looked-by, looked-none}
use Rattle.meet.proofs.step.look_child.Goals as goal

pub take-requires-clause-v_bound : goal.take-requires-clause-v_bound
take-requires-clause-v_bound g c = (
  omega (arith, c.requires.child_item.group, c.requires.child_item.code),
  (
    c.requires.looking.most,
    fall-small c.args.sh c.requires.looking.ready.buffers.room.few c.args.v
        (omega (arith, c.requires.child_item.group, c.requires.child_item.code)) c.args.back c.pick-e.ensures,
  ),
)

pub returns-then-easy-spare : goal.returns-then-easy-spare
returns-then-easy-spare g c =
    looked-by c.pick-e.ensures
    (down-leads _ _ _ _ c.args.back c.requires.child_item c.pick-easy.ensures c.spare.ensures)
    (omega (arith, c.requires.child_item.group, c.requires.child_item.code))
    (fall-small c.args.sh c.requires.looking.ready.buffers.room.few c.args.v
    (omega (arith, c.requires.child_item.group, c.requires.child_item.code)) c.args.back c.pick-e.ensures)
    c.if-easy-spare.true c.take.ensures

pub returns : goal.returns
returns g c =
    looked-none (down-leads _ _ _ _ c.args.back c.requires.child_item c.pick-easy.ensures
    c.spare.ensures) c.if-easy-spare.false
