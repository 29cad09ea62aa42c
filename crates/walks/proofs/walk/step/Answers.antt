-- Where there is a way on, the node where it leads is reached (`step-on`); at the source the walk ends (`step_end`), and from another
-- node it goes back (`step_back`).
use native.Mathlib.Omega.{arith}
use Rattle.look.proofs.StepLaws.{same-ready}
use Rattle.walks.proofs.WalkLaws.{way-small, way-node, went-search, good-went, step-on, step_end, step_back}
use Rattle.walks.proofs.walk.step.Goals as goal

pub overflow_add-fresh : goal.overflow_add-fresh
overflow_add-fresh g c =
    let way = c.next_way-way.ensures.ways.on c.if-v-u.true in
    omega (arith, way-small c.requires.standing way.0, c.requires.standing.ready.buffers.room.few.fresh)

pub overflow_add-fresh-then-v-u : goal.overflow_add-fresh-then-v-u
overflow_add-fresh-then-v-u g c =
    let way = c.next_way-way.ensures.ways.on c.if-v-u.true in
    omega (arith, way-small c.requires.standing way.0, c.requires.standing.ready.buffers.room.few.fresh)

pub set_label-requires-clause-v_bound : goal.set_label-requires-clause-v_bound
set_label-requires-clause-v_bound g c =
    let way = c.next_way-way.ensures.ways.on c.if-v-u.true in
    way-node c.requires.standing way.0

pub set_label-requires-clause-x_lt_cell_bound : goal.set_label-requires-clause-x_lt_cell_bound
set_label-requires-clause-x_lt_cell_bound g c =
    let way = c.next_way-way.ensures.ways.on c.if-v-u.true in
    let room = c.requires.standing.ready.buffers.room in
    omega (arith, way-small c.requires.standing way.0, room.few.fresh)

pub returns-then-v-u : goal.returns-then-v-u
returns-then-v-u g c = step-on c.next_way-way.ensures c.requires.standing c.if-v-u.true c.set_label.ensures

pub returns-then-u-source : goal.returns-then-u-source
returns-then-u-source g c = step_end c.next_way-way.ensures c.if-v-u.false (omega (arith, c.if-u-source.true))

pub tail-requires-clause-good : goal.tail-requires-clause-good
tail-requires-clause-good g c =
    let moved = c.next_way-way.ensures in
    let away = c.requires.returns (λ z. omega (arith, c.if-u-source.false)) in
    good-went moved away

pub tail-requires-clause-ready : goal.tail-requires-clause-ready
tail-requires-clause-ready g c =
    let moved = c.next_way-way.ensures in
    same-ready _ (went-search moved) c.requires.standing.ready

pub returns : goal.returns
returns g c = step_back c.next_way-way.ensures c.if-v-u.false (λ z. omega (arith, c.if-u-source.false)) c.tail.ensures
