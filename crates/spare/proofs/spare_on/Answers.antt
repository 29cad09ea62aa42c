use Prim.Native.Nat.{◌+◌, ◌<◌}
use native.Mathlib.Omega.{arith}
use borrow.Author.Tests.{not-true, not-false}
use Rattle.claimfile.specs.Day.{count_of}
use Rattle.claimfile.proofs.DayLaws.{side-most}
use Rattle.sides.proofs.CountLaws.{zeros}
use Rattle.spare.proofs.SpareLaws.{Groups, sides-start, groups-start, chain-inside, chain-step, chain-end}
use Rattle.spare.proofs.SpareLaws.{sides-end, unfit-side, full-group, spares-on}
use Rattle.spare.proofs.spare_on.Goals as goal
use Rattle.spare.proofs.spare_on.Goals.{After-min-spare, After-from-g}

pub sides-init : goal.sides-init
sides-init c =
    let a = c.args in
    sides-start a.file.now a.selection.now a.layout a.row

pub rise_on-found-requires : goal.rise_on-found-requires
rise_on-found-requires c =
    record {
      ready = c.requires.ready;
      zero = zeros 257 (omega arith);
    }

pub chain_of-groups-requires : goal.chain_of-groups-requires
chain_of-groups-requires c = (c.requires.ready.sound, c.requires.row_lt_rows, (zeros 257 (omega arith)).long)

pub loop-k-init : goal.loop-k-init
loop-k-init c =
    let a = c.args in
    groups-start a.file.now a.selection.now a.layout a.row c.sides.side c.sides.spare _

-- the group in the next cell of the chain is one of the side
inside :
    (c : After-from-g) →
    c.from-g.result < count_of c.args.layout c.sides.side
inside c =
    let a = c.args in
    chain-inside a.file.now a.selection.now a.layout a.row c.sides.side _ c.chain_of-groups.result
    c.chain_of-groups.ensures _ c.rise_on-found.result c.rise_on-found.ensures (not-false _ c.if-not-found.false) _ (omega arith) c.from-g.result
    c.from-g.ensures

pub group_of-group-requires : goal.group_of-group-requires
group_of-group-requires c = (c.requires.ready.sound, inside (goal.at.group_of-group-requires c).After-from-g)

pub bounds-counts-g : goal.bounds-counts-g
bounds-counts-g c =
    let a = c.args in
    omega (arith, inside (goal.at.bounds-counts-g c).After-from-g, side-most a.file.now a.layout c.requires.ready.sound c.sides.side)

-- the groups up to that one are done
next :
    (c : After-min-spare) →
    let a = c.args in
    Groups a.file.now a.selection.now a.layout a.row c.sides.side c.sides.spare c.chain_of-groups.new.list
    (c.loop-k.k + 1) c.min-spare.result
next c =
    let a = c.args in
    rw (c.min-spare.ensures, c.from.ensures)
    (chain-step a.file.now a.selection.now a.layout a.row c.sides.side _ c.chain_of-groups.result c.chain_of-groups.ensures _
    c.rise_on-found.result c.rise_on-found.ensures (not-false _ c.if-not-found.false) _ (omega arith) c.from-g.result c.from-g.ensures
    c.group_of-group.result c.group_of-group.ensures.0 c.sides.spare c.loop-k.spare c.loop-k.invariant)

pub loop-k-preserved : goal.loop-k-preserved
loop-k-preserved c = next (goal.at.loop-k-preserved c).After-min-spare

-- a number is told: with both sides done, of a side that does not fit, of a group without a place
pub returns-after-sides : goal.returns-after-sides
returns-after-sides c =
    let a = c.args in
    spares-on a.file.now a.selection.now a.layout c.requires.ready a.row c.requires.row_lt_rows
    (λ i. omega (arith, c.shared_slice_known-1.given i)) c.sides.spare
    (sides-end a.file.now a.selection.now a.layout c.requires.ready a.row c.requires.row_lt_rows c.sides.side c.sides.spare
    (omega arith) c.sides.invariant)

pub returns-then-spare-eq0 : goal.returns-then-spare-eq0
returns-then-spare-eq0 c =
    let a = c.args in
    spares-on a.file.now a.selection.now a.layout c.requires.ready a.row c.requires.row_lt_rows
    (λ i. omega (arith, c.shared_slice_known-1.given i)) c.min-spare.result
    (full-group a.file.now a.selection.now a.layout c.requires.ready a.row c.requires.row_lt_rows c.sides.side
    c.sides.spare _ c.chain_of-groups.result (c.loop-k.k + 1) c.min-spare.result c.sides.invariant
    c.chain_of-groups.ensures (omega (arith, c.loop-k-test.true)) (next (goal.at.returns-then-spare-eq0 c).After-min-spare) c.if-spare-eq0.true)

pub sides-preserved : goal.sides-preserved
sides-preserved c =
    let a = c.args in
    chain-end a.file.now a.selection.now a.layout a.row c.sides.side _ c.chain_of-groups.result c.chain_of-groups.ensures _
    c.rise_on-found.result c.rise_on-found.ensures (not-false _ c.if-not-found.false) c.sides.spare c.loop-k.spare c.loop-k.k (omega arith) c.sides.invariant
    c.loop-k.invariant

pub returns-then-not-found : goal.returns-then-not-found
returns-then-not-found c =
    let a = c.args in
    spares-on a.file.now a.selection.now a.layout c.requires.ready a.row c.requires.row_lt_rows
    (λ i. omega (arith, c.shared_slice_known-1.given i)) 0
    (unfit-side a.file.now a.selection.now a.layout c.requires.ready a.row c.requires.row_lt_rows c.sides.side
    (c.rise_on-found.ensures.lifted.unfit (not-true _ c.if-not-found.true)))
