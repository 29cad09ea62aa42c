-- What `write_slip` answers and leaves, for every file in any form, selection and buffer: document 02, E1, E4 and E9.
--   width                  how many bytes a line has, with its line feed
--   needed l sel           how many bytes the slip has: a line for each kept row, and the first
--   lacks l sel out        whether the selection or the buffer is too short
--   outcome_on s l sel out  the outcome for an accepted file: 8, then 12, then 9, else the slip
--   outcome_by s sel out x  the outcome for a file s with the reading x: its own faults come first
--   outcome f s sel out    the outcome for a file in the form f
--   WritesOn s l sel out out' r    for an accepted file, the answer r and the cells out' are the outcome
--   Slips f s sel out out' r   the whole contract: the answer r and the cells out' are the outcome, and so are number and length
--                          (`Leaves`)
use Rattle.refusal.specs.declared.Reason.{Reason}
use Rattle.std.specs.Prelude.{ℕ, ◌+◌, ◌*◌, Bool, true, List, length, ltb, leb, Ok, Err, Result}
use Rattle.theory.specs.Sum.{pick}
use Rattle.claimfile.specs.declared.Form.{Form}
use Rattle.claimfile.specs.declared.Layout.{Layout}
use Rattle.claimfile.specs.File.{days}
use Rattle.reader.specs.Reading.{reading, Reading}
use Rattle.selection.specs.Selection.{bits, kept_rows}
use Rattle.refusal.specs.declared.Reason.TheVariants.{File, Short, Day, Value}
use Rattle.refusal.specs.Writing.{Outcome, turned, written, Leaves}
use Rattle.slip.specs.Slip.{slip}

abbrev pub width : ℕ
width = 33

abbrev pub needed : Layout → List ℕ → ℕ
needed l sel = width * (kept_rows l.rows sel + 1)

abbrev pub lacks : Layout → List ℕ → List ℕ → Bool
lacks l sel out = pick (ltb (length sel) l.rows) true (ltb (length out) (needed l sel))

unfoldable pub outcome_on : List ℕ → Layout → List ℕ → List ℕ → Outcome
outcome_on s l sel out =
    pick (lacks l sel out)
    (turned Short out)
    (pick (leb days l.day)
    (turned Day out)
    (pick (bits l.rows sel) (written (slip s l sel) out) (turned Value out)))

abbrev pub outcome_by : List ℕ → List ℕ → List ℕ → Reading → Outcome
outcome_by s sel out (Err why) = turned (File why) out
outcome_by s sel out (Ok l) = outcome_on s l sel out

unfoldable pub outcome : Form → List ℕ → List ℕ → List ℕ → Outcome
outcome f s sel out = outcome_by s sel out (reading f s)

abbrev pub WritesOn : List ℕ → Layout → List ℕ → List ℕ → List ℕ → Result ℕ Reason → Type 0
WritesOn s l sel out out' r = Leaves (outcome_on s l sel out) out' r

abbrev pub Slips : Form → List ℕ → List ℕ → List ℕ → List ℕ → Result ℕ Reason → Type 0
Slips f s sel out out' r = Leaves (outcome f s sel out) out' r
