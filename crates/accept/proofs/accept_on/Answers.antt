-- 8, 12 and 9 are told in their order, and past these tests the choice is a selection and the sheet is long enough to be judged.
use mathlib.Core.Path.{sym, ◌∙◌}
use Prim.Native.Nat.{◌≤◌}
use native.Mathlib.Omega.{arith}
use lib.ListN.{length}
use Rattle.claimfile.specs.Day.{network_of}
use Rattle.selection.proofs.SelectionLaws.{are-bits}
use Rattle.closing.specs.Settle.{needed}
use Rattle.accept.proofs.VerdictLaws.{short-choice, short-sheet, no-day, no_bits, judged-by}
use Rattle.accept.proofs.accept_on.Goals as goal
use Rattle.accept.proofs.accept_on.Goals.{Else-sheet-marks}

-- past the first two tests choice and sheet are long enough
lengths :
    (c : Else-sheet-marks) →
    let a = c.args in
    (a.layout.rows ≤ length a.choice.now) × (needed (network_of a.file.now a.layout) ≤ length a.sheet.now)
lengths c =
    (omega (arith, c.if-choice-rows.false), omega (arith, c.marks_of-marks.ensures.0, c.if-sheet-marks.false))

pub marks_of-marks-requires : goal.marks_of-marks-requires
marks_of-marks-requires c =
    let sound = c.requires.0 in
    (sound.cards_most, sound.shops_most, sound.rows_most)

pub returns-then-choice-rows : goal.returns-then-choice-rows
returns-then-choice-rows c =
    let a = c.args in
    short-choice a.file.now a.layout a.choice.now a.sheet.now (omega arith)

pub returns-then-sheet-marks : goal.returns-then-sheet-marks
returns-then-sheet-marks c =
    let a = c.args in
    short-sheet a.file.now a.layout a.choice.now a.sheet.now (omega arith)
    (omega (arith, c.if-sheet-marks.true, c.marks_of-marks.ensures.0))

pub returns-then-layout-ge-DAYS : goal.returns-then-layout-ge-DAYS
returns-then-layout-ge-DAYS c =
    let a = c.args in
    no-day a.file.now a.layout a.choice.now a.sheet.now (lengths (goal.at.returns-then-layout-ge-DAYS c).Else-sheet-marks).0 (lengths (goal.at.returns-then-layout-ge-DAYS c).Else-sheet-marks).1 (omega arith)

pub all_bits-requires : goal.all_bits-requires
all_bits-requires c = (lengths (goal.at.all_bits-requires c).Else-sheet-marks).0

pub judge-requires : goal.judge-requires
judge-requires c =
    let a = c.args in
    record {
      ready = record {
        sound = c.requires.0;
        long = (lengths (goal.at.judge-requires c).Else-sheet-marks).0;
        bits = are-bits a.layout.rows a.choice.now (sym c.all_bits.ensures ∙ c.if-all_bits.true);
      };
      kinds = c.requires.1;
      sheets = (lengths (goal.at.judge-requires c).Else-sheet-marks).1;
    }

pub returns-then-all_bits : goal.returns-then-all_bits
returns-then-all_bits c =
    let a = c.args in
    c.judge.ensures
    ∙ judged-by a.file.now a.layout a.choice.now a.sheet.now (lengths (goal.at.returns-then-all_bits c).Else-sheet-marks).0 (lengths (goal.at.returns-then-all_bits c).Else-sheet-marks).1 (omega arith)
    (sym c.all_bits.ensures ∙ c.if-all_bits.true)

pub returns : goal.returns
returns c =
    let a = c.args in
    no_bits a.file.now a.layout a.choice.now a.sheet.now (lengths (goal.at.returns c).Else-sheet-marks).0 (lengths (goal.at.returns c).Else-sheet-marks).1 (omega arith)
    (sym c.all_bits.ensures ∙ c.if-all_bits.false)
