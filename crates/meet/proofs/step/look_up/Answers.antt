-- The arc between a group and its parent: up along the arcs, down against them. Whether it is a step was asked first.
use Rattle.look.proofs.StepLaws.{up-node}
use Rattle.meet.proofs.StepLaws.{rise-small, looked-by, looked-none}
use Rattle.meet.proofs.step.look_up.Goals as goal

pub take-requires-clause-v_bound : goal.take-requires-clause-v_bound
take-requires-clause-v_bound g c = (
  up-node c.requires.looking.ready c.requires.u_lt_groups c.parent-v.ensures,
  (
    c.requires.looking.most,
    rise-small c.args.sh c.requires.looking.ready.buffers.room.few c.args.u
        c.requires.u_lt_groups c.args.back c.pick-e.ensures,
  ),
)

pub returns-then-leads_up : goal.returns-then-leads_up
returns-then-leads_up g c =
    looked-by c.pick-e.ensures c.leads_up.ensures
    (up-node c.requires.looking.ready c.requires.u_lt_groups c.parent-v.ensures)
    (rise-small c.args.sh c.requires.looking.ready.buffers.room.few c.args.u c.requires.u_lt_groups
    c.args.back c.pick-e.ensures) c.if-leads_up.true c.take.ensures

pub returns : goal.returns
returns g c = looked-none c.leads_up.ensures c.if-leads_up.false
