-- A buffer that is too short is refused with nothing changed, and so is a day that the week does not have; else the first cells of the
-- buffers are closed, and the rest stays: for the joined file, as `settle_on` does for one file.
use mathlib.Core.Path.{refl, sym}
use mathlib.Core.List.{List}
use mathlib.Core.Logic.{inl, inr}
use Prim.Native.Nat.{ℕ}
use native.Mathlib.Omega.{arith}
use lib.Seq.{length-take-le}
use Rattle.theory.specs.Network.{Instance}
use Rattle.claimfile.specs.Day.{network_of, instance_of}
use Rattle.closing.specs.Settle.{Enough}
use Rattle.closing.proofs.AnswerLaws.{settles-short, settles-dayless, settles-closed, lent-parts}
use Rattle.joined.specs.Call.{together}
use Rattle.joined.proofs.CloseLaws.{joins-sound, joins-kinds}
use Rattle.joined.proofs.settle_ready.Goals as goal
use Rattle.joined.proofs.settle_ready.Goals.{Else-scratch-cells, Start}

-- the joined file and its day
abbrev file : Start → List ℕ
file S = together S.args.day S.args.files.now S.args.lengths.now S.args.oven

abbrev today : Start → Instance
today S = instance_of ((together S.args.day S.args.files.now S.args.lengths.now S.args.oven)) S.args.layout

-- past the first three tests the buffers are long enough
enough :
    (c : Else-scratch-cells) →
    Enough (network_of ((together c.args.day c.args.files.now c.args.lengths.now c.args.oven)) c.args.layout) c.args.choice.now c.args.sheet.now c.args.scratch.now
enough c = record {
  choices = omega (arith, c.if-choice-rows.false);
  sheets = omega (arith, c.marks_of-marks.ensures.0, c.if-sheet-marks.false);
  cells = omega (arith, c.scratch_of-cells.ensures, c.if-scratch-cells.false);
}

pub marks_of-marks-requires : goal.marks_of-marks-requires
marks_of-marks-requires c =
    let a = c.args in
    let sound = joins-sound a.day a.files.now a.lengths.now a.oven a.layout c.requires in
    (sound.cards_most, sound.shops_most, sound.rows_most)

pub scratch_of-cells-requires : goal.scratch_of-cells-requires
scratch_of-cells-requires c =
    let a = c.args in
    let sound = joins-sound a.day a.files.now a.lengths.now a.oven a.layout c.requires in
    (sound.cards_most, sound.shops_most, sound.rows_most)

-- a buffer that is too short: the choice, the sheet, the scratch
pub returns-then-choice-rows : goal.returns-then-choice-rows
returns-then-choice-rows c =
    let a = c.args in
    settles-short (today (goal.at.returns-then-choice-rows c).Start) a.day a.choice.now a.sheet.now a.scratch.now _ (inl (omega (arith, c.if-choice-rows.true))) refl

pub returns-then-sheet-marks : goal.returns-then-sheet-marks
returns-then-sheet-marks c =
    let a = c.args in
    settles-short (today (goal.at.returns-then-sheet-marks c).Start) a.day a.choice.now a.sheet.now a.scratch.now _
    (inr (inl (omega (arith, c.marks_of-marks.ensures.0, c.if-sheet-marks.true)))) refl

pub returns-then-scratch-cells : goal.returns-then-scratch-cells
returns-then-scratch-cells c =
    let a = c.args in
    settles-short (today (goal.at.returns-then-scratch-cells c).Start) a.day a.choice.now a.sheet.now a.scratch.now _
    (inr (inr (omega (arith, c.scratch_of-cells.ensures, c.if-scratch-cells.true)))) refl

-- a day that the week does not have
pub returns-then-day-ge-DAYS : goal.returns-then-day-ge-DAYS
returns-then-day-ge-DAYS c =
    let a = c.args in
    settles-dayless (today (goal.at.returns-then-day-ge-DAYS c).Start) a.day a.choice.now a.sheet.now a.scratch.now _ (enough (goal.at.returns-then-day-ge-DAYS c).Else-scratch-cells) (omega arith) refl

pub slice_bounds-close_joined-end-2 : goal.slice_bounds-close_joined-end-2
slice_bounds-close_joined-end-2 c =
    let a = c.args in
    sym (length-take-le a.layout.rows a.choice.now (enough (goal.at.slice_bounds-close_joined-end-2 c).Else-scratch-cells).choices)

pub slice_bounds-close_joined-end-4 : goal.slice_bounds-close_joined-end-4
slice_bounds-close_joined-end-4 c =
    let a = c.args in
    sym (length-take-le c.marks_of-marks.result a.sheet.now (omega (arith, c.marks_of-marks.ensures.0, (enough (goal.at.slice_bounds-close_joined-end-4 c).Else-scratch-cells).sheets)))

pub slice_bounds-close_joined-end-6 : goal.slice_bounds-close_joined-end-6
slice_bounds-close_joined-end-6 c =
    let a = c.args in
    sym (length-take-le c.scratch_of-cells.result a.scratch.now (omega (arith, c.scratch_of-cells.ensures, (enough (goal.at.slice_bounds-close_joined-end-6 c).Else-scratch-cells).cells)))

pub close_joined-requires : goal.close_joined-requires
close_joined-requires c =
    let a = c.args in
    record {
      joins = c.requires;
      known = omega arith;
      lent =
          lent-parts _ (file (goal.at.close_joined-requires c).Start) a.layout a.choice.now a.sheet.now a.scratch.now _ _ c.marks_of-marks.ensures.0
          c.scratch_of-cells.ensures (joins-sound a.day a.files.now a.lengths.now a.oven a.layout c.requires)
          (joins-kinds a.day a.files.now a.lengths.now a.oven a.layout c.requires) (enough (goal.at.close_joined-requires c).Else-scratch-cells);
    }

-- the closed day, in the whole buffers
pub returns : goal.returns
returns c =
    let a = c.args in
    settles-closed (today (goal.at.returns c).Start) a.day a.choice.now a.sheet.now a.scratch.now _ _
    c.marks_of-marks.ensures.0 c.scratch_of-cells.ensures
    (joins-kinds a.day a.files.now a.lengths.now a.oven a.layout c.requires) _ _ _
    c.close_joined.auto.choice c.close_joined.auto.sheet
    c.close_joined.auto.scratch _ (enough (goal.at.returns c).Else-scratch-cells) (omega arith) c.close_joined.ensures
