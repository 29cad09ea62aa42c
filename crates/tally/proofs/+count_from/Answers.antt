use native.Mathlib.Omega.{arith}
use Rattle.tally.proofs.WalkLaws.{counted_none, counted-top, counted-up}
use Rattle.tally.proofs.+count_from.Goals as goal

pub returns-then-u-ge-NODES : goal.returns-then-u-ge-NODES
returns-then-u-ge-NODES t c =
    let a = c.args in
    counted_none a.more a.tables.now a.counts.now a.u c.if-u-ge-NODES.true

pub returns-then-up-u : goal.returns-then-up-u
returns-then-up-u t c =
    let a = c.args in
    counted-up a.more a.tables.now a.counts.now a.u (omega arith) c.step.result c.step.ensures _ c.from-up.result
    c.from-up.ensures (omega arith) c.count_from.ensures

pub returns-else-up-u : goal.returns-else-up-u
returns-else-up-u t c =
    let a = c.args in
    counted-top a.more a.tables.now a.counts.now a.u (omega arith) c.step.result c.step.ensures (omega arith)
