-- `put_in` meets its contract. A number other than 0 leaves the state as it was; else the row is there, and it is counted and put in.
use native.Mathlib.Omega.{arith}
use Rattle.tally.proofs.CallLaws.{put_refused, put-done}
use Rattle.tally.proofs.State.put_in.Goals as goal

pub returns-then-put_refusal-eq0 : goal.returns-then-put_refusal-eq0
returns-then-put_refusal-eq0 c =
    let a = c.args in
    let told = rw (← c.outcome_number-put_refusal.ensures) at c.judge_put.ensures in
    put-done a.tables.now a.self a.row c.outcome_number-put_refusal.result told (omega arith) _
    c.count_row.ensures _ (omega arith)

pub returns-else-put_refusal-eq0 : goal.returns-else-put_refusal-eq0
returns-else-put_refusal-eq0 c =
    let a = c.args in
    let told = rw (← c.outcome_number-put_refusal.ensures) at c.judge_put.ensures in
    put_refused a.tables.now a.self a.row c.outcome_number-put_refusal.result told c.if-put_refusal-eq0.false
