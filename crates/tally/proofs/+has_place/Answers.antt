use native.Mathlib.Omega.{arith}
use Rattle.tally.proofs.WalkLaws.{place_none, place-full, place-top, place_up}
use Rattle.tally.proofs.+has_place.Goals as goal

pub returns-then-u-ge-NODES : goal.returns-then-u-ge-NODES
returns-then-u-ge-NODES t c =
    let a = c.args in
    place_none a.tables.now a.counts.now a.u c.if-u-ge-NODES.true

pub returns-then-tables-u : goal.returns-then-tables-u
returns-then-tables-u t c =
    let a = c.args in
    place-full a.tables.now a.counts.now a.u (omega arith) (omega arith)

pub returns-then-u-up : goal.returns-then-u-up
returns-then-u-up t c =
    let a = c.args in
    place-top a.tables.now a.counts.now a.u (omega arith) (omega arith) (omega arith) (omega arith)

pub returns : goal.returns
returns t c =
    let a = c.args in
    let up = c.from-up in
    place_up a.tables.now a.counts.now a.u (omega arith) (omega arith) (omega arith) up.result up.ensures (omega arith)
    c.has_place.result c.has_place.ensures
