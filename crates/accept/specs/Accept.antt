-- Which closings head office accepts, however they were made (document 02, E10). A closing is a file with a choice and a sheet of
-- marks.
-- Of a day, which is an instance i:
--   weight_kept i ch        the weight of the rows that the choice keeps
--   Accepts i ch sheet     the closing is to be accepted: the choice fits both sides, every claim is covered, and the sheet's
--                          total is the weight kept
--   judged i ch sheet      the verdict on a choice of 0s and 1s and a sheet that are long enough: 13, 14, 15 in this order
-- Of a file, in the form f:
--   verdict_by s x ch sheet     the verdict on a file s with the reading x: its first fault, then 8, 12, 9, then that on its day
--   verdict f s ch sheet   the verdict on a file
--   verdict_number r        document 01's number for each case of the verdict r; 0 where the closing is accepted
--   Acceptable f s ch sheet    the file is accepted, the week has the day, choice and sheet are long enough, and on the file's
--                          day the closing is to be accepted
--   Judges f s ch sheet r  the whole contract: r is that verdict, in document 01's number too, and it is 0 exactly where the
--                          closing is acceptable
-- Marks are numbers of 32 bits, and sums are true sums: the definitions are over all numbers.
use Rattle.std.specs.Prelude.{◌≡◌, ◌↔◌, List, ℕ, ◌≤◌, ◌<◌, ltb, leb, eqb, length, Ok, Err, Result}
use Rattle.theory.specs.Sum.{pick}
use Rattle.theory.specs.Incidence.{Covers, worth}
use Rattle.theory.specs.Matroid.{row}
use Rattle.theory.specs.Network.{Instance, Choice, on_both, fits_both}
use Rattle.claimfile.specs.File.{days}
use Rattle.reader.specs.Reading.{reading, Reading}
use Rattle.claimfile.specs.Day.{network_of, instance_of}
use Rattle.claimfile.specs.declared.Form.{Form}
use Rattle.claimfile.specs.declared.Layout.{Layout}
use Rattle.refusal.specs.declared.Reason.TheVariants.{File, Short, Day, Value, Unfit, Uncovered, Unequal}
use Rattle.refusal.specs.Table.{outcome_number}
use Rattle.selection.specs.Selection.{bits}
use Rattle.closing.specs.Settle.{needed, mark_of, claim_mark_of}
use Rattle.sheets.specs.Sheet.{weights, sheet_total, covered}
use Rattle.refusal.specs.declared.Reason.{Reason}

module _ (i : Instance) where
  abbrev pub weight_kept : List ℕ → ℕ
  weight_kept ch = worth i.net.rows (weights i) (row ch)

  -- "the choice, read as a selection, fits both sides, every claim is covered and the sheet's total equals the weight kept"
  pub record Accepts (ch sheet : List ℕ) : Type 0 where
    pub choice : Choice i.net i.limit (row ch)
    pub cover : Covers i.net.rows i.net.groups (on_both i.net) (mark_of sheet) (claim_mark_of i.net sheet) (weights i)
    pub equal : sheet_total i sheet ≡ weight_kept ch

  -- "13, the choice does not fit; 14, a claim is not covered; 15, the totals differ; judged in this order"
  unfoldable pub judged : List ℕ → List ℕ → Result (Unit {0}) Reason
  judged ch sheet =
      pick (fits_both i.net i.limit (row ch))
      (pick (covered i sheet)
      (pick (eqb (sheet_total i sheet) (weight_kept ch)) (Ok tt) (Err Unequal))
      (Err Uncovered))
      (Err Unfit)

-- "after 9": the choice is read as a selection
abbrev pub verdict_by : List ℕ → Reading → List ℕ → List ℕ → Result (Unit {0}) Reason
verdict_by s (Err why) ch sheet = Err (File why)
verdict_by s (Ok l) ch sheet =
    pick (ltb (length ch) l.rows)
    (Err Short)
    (pick (ltb (length sheet) (needed (network_of s l)))
    (Err Short)
    (pick (leb days l.day)
    (Err Day)
    (pick (bits l.rows ch) (judged (instance_of s l) ch sheet) (Err Value))))

unfoldable pub verdict : Form → List ℕ → List ℕ → List ℕ → Result (Unit {0}) Reason
verdict f s ch sheet = verdict_by s (reading f s) ch sheet

abbrev pub verdict_number : Result (Unit {0}) Reason → ℕ
verdict_number = outcome_number

pub record Acceptable (f : Form) (s ch sheet : List ℕ) : Type 0 where
  pub layout : Layout
  pub accepted : reading f s ≡ Ok layout
  pub choices : layout.rows ≤ length ch
  pub sheets : needed (network_of s layout) ≤ length sheet
  pub known : layout.day < days
  pub accepts : Accepts (instance_of s layout) ch sheet

pub record Judges (f : Form) (s ch sheet : List ℕ) (r : Result (Unit {0}) Reason) : Type 0 where
  pub is : r ≡ verdict f s ch sheet
  pub told : verdict_number r ≡ verdict_number (verdict f s ch sheet)
  pub means : (verdict_number r ≡ 0) ↔ Acceptable f s ch sheet
