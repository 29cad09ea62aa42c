-- A buffer that is too short is refused with nothing changed, and so is a day that the week does not have; else the first cells get the
-- codes, and the rest stays.
use mathlib.Core.Path.{refl, sym}
use mathlib.Core.Logic.{inl, inr}
use native.Mathlib.Omega.{arith}
use lib.Seq.{length-take-le}
use Rattle.claimfile.specs.Day.{network_of, instance_of}
use Rattle.codes.specs.Write.{Enough}
use Rattle.codes.proofs.WriteLaws.{lent-parts, writes_short, writes-dayless, writes-known}
use Rattle.codes.proofs.write_codes_on.Goals as goal
use Rattle.codes.proofs.write_codes_on.Goals.{Else-scratch-cells}

-- past the first two tests the buffers are long enough
enough :
    (c : Else-scratch-cells) →
    let a = c.args in
    Enough (network_of a.file.now a.layout) a.codes.now a.scratch.now
enough c = record {
  bytes = omega (arith, c.if-codes-rows.false);
  cells = omega (arith, c.scratch_of-cells.ensures, c.if-scratch-cells.false);
}

pub returns-then-codes-rows : goal.returns-then-codes-rows
returns-then-codes-rows c =
    let a = c.args in
    writes_short (instance_of a.file.now a.layout) a.layout.day a.codes.now a.scratch.now _
    (inl (omega (arith, c.if-codes-rows.true))) refl

pub returns-then-scratch-cells : goal.returns-then-scratch-cells
returns-then-scratch-cells c =
    let a = c.args in
    writes_short (instance_of a.file.now a.layout) a.layout.day a.codes.now a.scratch.now _
    (inr (omega (arith, c.scratch_of-cells.ensures, c.if-scratch-cells.true))) refl

pub returns-then-layout-ge-DAYS : goal.returns-then-layout-ge-DAYS
returns-then-layout-ge-DAYS c =
    let a = c.args in
    writes-dayless (instance_of a.file.now a.layout) a.layout.day a.codes.now a.scratch.now _ (enough (goal.at.returns-then-layout-ge-DAYS c).Else-scratch-cells)
    (omega arith) refl

pub slice_bounds-close-end-2 : goal.slice_bounds-close-end-2
slice_bounds-close-end-2 c =
    let a = c.args in
    sym (length-take-le a.layout.rows a.codes.now (enough (goal.at.slice_bounds-close-end-2 c).Else-scratch-cells).bytes)

pub slice_bounds-close-end-4 : goal.slice_bounds-close-end-4
slice_bounds-close-end-4 c =
    let a = c.args in
    sym
    (length-take-le c.scratch_of-cells.result a.scratch.now (omega (arith, c.scratch_of-cells.ensures, (enough (goal.at.slice_bounds-close-end-4 c).Else-scratch-cells).cells)))

pub close-requires : goal.close-requires
close-requires c =
    let a = c.args in
    lent-parts a.file.now a.layout a.codes.now a.scratch.now c.scratch_of-cells.result
    c.scratch_of-cells.ensures c.requires.0 c.requires.1 (enough (goal.at.close-requires c).Else-scratch-cells)

pub returns : goal.returns
returns c =
    let a = c.args in
    writes-known (instance_of a.file.now a.layout) a.layout.day a.codes.now a.scratch.now c.scratch_of-cells.result
    c.scratch_of-cells.ensures (enough (goal.at.returns c).Else-scratch-cells) _ _ c.close.auto.codes c.close.auto.scratch
    c.close.ensures (omega arith) _ refl
