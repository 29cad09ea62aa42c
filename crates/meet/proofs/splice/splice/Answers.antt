use mathlib.Core.Path.{ap, ◌∙◌}
use Prim.Native.Nat.{◌+◌, ◌-◌}
use native.Mathlib.Omega.{arith}
use Rattle.scratch.specs.Map.{arc_in, span}
use Rattle.meet.proofs.SpliceLaws.{splicing-first, splicing-ready, splicing-node, splicing-seen, splicing-next}
use Rattle.meet.proofs.SpliceLaws.{splicing-less, splicing-end}
use Rattle.meet.proofs.splice.splice.Goals as goal

pub loop-e-init : goal.loop-e-init
loop-e-init g c = splicing-first c.requires

pub head-v-requires-clause-ready : goal.head-v-requires-clause-ready
head-v-requires-clause-ready g c =
    splicing-ready c.loop-e.invariant

pub label-requires : goal.label-requires
label-requires g c =
    record {
      room = (splicing-ready c.loop-e.invariant).buffers.room;
      v_bound = splicing-node c.loop-e.invariant (omega (arith, c.loop-e-test.true))
          c.head-v.ensures;
    }

pub overflow_sub-next : goal.overflow_sub-next
overflow_sub-next g c =
    let some = splicing-seen c.loop-e.invariant (omega (arith, c.loop-e-test.true)) c.head-v.ensures in
    omega (arith, c.arc_in-next.ensures, ap (arc_in (c.args.sh.fresh + span)) c.label.ensures.0, some)

pub set_label-requires-clause-room : goal.set_label-requires-clause-room
set_label-requires-clause-room g c =
    (splicing-ready c.loop-e.invariant).buffers.room

pub set_label-requires-clause-v_bound : goal.set_label-requires-clause-v_bound
set_label-requires-clause-v_bound g c =
    splicing-node c.loop-e.invariant (omega (arith, c.loop-e-test.true)) c.head-v.ensures

pub loop-e-smaller : goal.loop-e-smaller
loop-e-smaller g c = splicing-less c.loop-e.invariant (omega (arith, c.loop-e-test.true)) c.head-v.ensures c.set_label.ensures

pub loop-e-preserved : goal.loop-e-preserved
loop-e-preserved g c = splicing-next c.loop-e.invariant (omega (arith, c.loop-e-test.true)) c.head-v.ensures
    c.set_label.ensures
    (ap (λ x. x - 1)
    (c.arc_in-next.ensures
    ∙ ap (arc_in (c.args.sh.fresh + span))
    c.label.ensures.0))

pub returns : goal.returns
returns g c = splicing-end c.loop-e.invariant (omega (arith, c.loop-e-test.false))
