-- A buffer that is too short is refused with nothing changed, and so is a day that the week does not have; else the first cells of the
-- buffers are closed, and the rest stays.
use mathlib.Core.Path.{refl, sym}
use mathlib.Core.Logic.{inl, inr}
use native.Mathlib.Omega.{arith}
use lib.Seq.{length-take-le}
use Rattle.claimfile.specs.Day.{network_of, instance_of}
use Rattle.closing.specs.Settle.{Enough}
use Rattle.closing.proofs.AnswerLaws.{settles-short, settles-dayless, settles-closed, lent-parts}
use Rattle.closing.proofs.settle_on.Goals as goal
use Rattle.closing.proofs.settle_on.Goals.{Else-scratch-cells}

-- past the first three tests the buffers are long enough
enough :
    (c : Else-scratch-cells) →
    let a = c.args in
    Enough (network_of a.file.now a.layout) a.choice.now a.sheet.now a.scratch.now
enough c = record {
  choices = omega (arith, c.if-choice-rows.false);
  sheets = omega (arith, c.marks_of-marks.ensures.0, c.if-sheet-marks.false);
  cells = omega (arith, c.scratch_of-cells.ensures, c.if-scratch-cells.false);
}

pub marks_of-marks-requires : goal.marks_of-marks-requires
marks_of-marks-requires c =
    let sound = c.requires.0 in
    (sound.cards_most, sound.shops_most, sound.rows_most)

pub scratch_of-cells-requires : goal.scratch_of-cells-requires
scratch_of-cells-requires c =
    let sound = c.requires.0 in
    (sound.cards_most, sound.shops_most, sound.rows_most)

-- a buffer that is too short: the choice, the sheet, the scratch
pub returns-then-choice-rows : goal.returns-then-choice-rows
returns-then-choice-rows c =
    let a = c.args in
    settles-short (instance_of a.file.now a.layout) a.layout.day a.choice.now a.sheet.now a.scratch.now _
    (inl (omega (arith, c.if-choice-rows.true))) refl

pub returns-then-sheet-marks : goal.returns-then-sheet-marks
returns-then-sheet-marks c =
    let a = c.args in
    settles-short (instance_of a.file.now a.layout) a.layout.day a.choice.now a.sheet.now a.scratch.now _
    (inr (inl (omega (arith, c.marks_of-marks.ensures.0, c.if-sheet-marks.true)))) refl

pub returns-then-scratch-cells : goal.returns-then-scratch-cells
returns-then-scratch-cells c =
    let a = c.args in
    settles-short (instance_of a.file.now a.layout) a.layout.day a.choice.now a.sheet.now a.scratch.now _
    (inr (inr (omega (arith, c.scratch_of-cells.ensures, c.if-scratch-cells.true)))) refl

-- a day that the week does not have
pub returns-then-layout-ge-DAYS : goal.returns-then-layout-ge-DAYS
returns-then-layout-ge-DAYS c =
    let a = c.args in
    settles-dayless (instance_of a.file.now a.layout) a.layout.day a.choice.now a.sheet.now a.scratch.now _
    (enough (goal.at.returns-then-layout-ge-DAYS c).Else-scratch-cells) (omega arith) refl

pub slice_bounds-close-end-2 : goal.slice_bounds-close-end-2
slice_bounds-close-end-2 c =
    let a = c.args in
    sym (length-take-le a.layout.rows a.choice.now (enough (goal.at.slice_bounds-close-end-2 c).Else-scratch-cells).choices)

pub slice_bounds-close-end-4 : goal.slice_bounds-close-end-4
slice_bounds-close-end-4 c =
    let a = c.args in
    sym (length-take-le c.marks_of-marks.result a.sheet.now (omega (arith, c.marks_of-marks.ensures.0, (enough (goal.at.slice_bounds-close-end-4 c).Else-scratch-cells).sheets)))

pub slice_bounds-close-end-6 : goal.slice_bounds-close-end-6
slice_bounds-close-end-6 c =
    let a = c.args in
    sym (length-take-le c.scratch_of-cells.result a.scratch.now (omega (arith, c.scratch_of-cells.ensures, (enough (goal.at.slice_bounds-close-end-6 c).Else-scratch-cells).cells)))

pub close-requires : goal.close-requires
close-requires c =
    let a = c.args in
    lent-parts _ a.file.now a.layout a.choice.now a.sheet.now a.scratch.now _ _
    c.marks_of-marks.ensures.0 c.scratch_of-cells.ensures c.requires.0 c.requires.1 (enough (goal.at.close-requires c).Else-scratch-cells)

-- the closed day, in the whole buffers
pub returns : goal.returns
returns c =
    let a = c.args in
    settles-closed (instance_of a.file.now a.layout) a.layout.day a.choice.now a.sheet.now a.scratch.now _ _
    c.marks_of-marks.ensures.0 c.scratch_of-cells.ensures c.requires.1 _ _ _
    c.close.auto.choice c.close.auto.sheet c.close.auto.scratch _ (enough (goal.at.returns c).Else-scratch-cells) (omega arith)
    c.close.ensures
