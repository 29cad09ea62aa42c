-- `take_out` meets its contract. A number other than 0 leaves the state as it was; else the row is there, and it is counted and taken out.
use native.Mathlib.Omega.{arith}
use Rattle.tally.proofs.CallLaws.{take-refused, take_done}
use Rattle.tally.proofs.State.take_out.Goals as goal

pub returns-then-take_refusal-eq0 : goal.returns-then-take_refusal-eq0
returns-then-take_refusal-eq0 c =
    let a = c.args in
    let told = rw (← c.outcome_number-take_refusal.ensures) at c.judge_take.ensures in
    take_done a.tables.now a.self a.row c.outcome_number-take_refusal.result told (omega arith) _
    c.count_row.ensures _ (omega arith)

pub returns-else-take_refusal-eq0 : goal.returns-else-take_refusal-eq0
returns-else-take_refusal-eq0 c =
    let a = c.args in
    let told = rw (← c.outcome_number-take_refusal.ensures) at c.judge_take.ensures in
    take-refused a.tables.now a.self a.row c.outcome_number-take_refusal.result told c.if-take_refusal-eq0.false
