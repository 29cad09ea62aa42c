-- What fits and rank answers (document 01, "Calls and lent memory" and "Turned-away files"), of a file in the form f.
--   entered_by sel reading, entered_in K f s sel  a file with K kinds and a selection: turned away with the file's refusal, then 8, then
--                          12, then 9, else the file's layout
--   entered f s sel        the same under the first terms
--   ranked_by s sel side entry, ranked_in K f s sel side   the answer of fits and rank
--   ranked f s sel side    the same under the first terms
--   ranked_numbers r        document 01's number and values for each case of an answer: the refusal's number and zeros, or 0 with yes (1)
--                          or no (0) and the rank
--   AnsweredIn K f s sel side r    r is the answer of fits and rank, in document 01's number and values too; the rank is at most 512.
--                          Where no refusal is told of an accepted file, the values mean what `Told` says of the day that it holds
--   Answered f s sel side r    the same under the first terms
--   AnsweredKinds d s sel side r   the same under the second terms: a new file in the week layout, for day d
-- "Then 7, 8, 9": 8 for a selection that is shorter than needed; 9 for a selection byte over 1, a side over 1. Document 02, E9: "12, the
-- day is over 6, judged after 8 and before 9."
use Rattle.std.specs.Prelude.{ℕ, ◌≤◌, ◌≡◌, List, length, ltb, leb, Ok, Err, Result}
use Rattle.theory.specs.Bounds.{max_rows}
use Rattle.theory.specs.Sum.{pick}
use Rattle.answers.specs.declared.FitsAndRankAnswer.{FitsAndRankAnswer}
use Rattle.claimfile.specs.File.{first_terms, second_terms, new_week, days}
use Rattle.reader.specs.Reading.{reading_in, Reading}
use Rattle.claimfile.specs.Day.{instance_of}
use Rattle.claimfile.specs.declared.Form.{Form}
use Rattle.claimfile.specs.declared.Layout.{Layout}
use Rattle.selection.specs.Selection.{bits}
use Rattle.refusal.specs.declared.Reason.TheVariants.{File, Short, Day, Value}
use Rattle.refusal.specs.Table.{number_of}
use Rattle.sides.specs.Found.{found_on, bit, Told}
use Rattle.sides.specs.declared.Found.{Found}
use Rattle.refusal.specs.declared.Reason.{Reason}

--------------------------------------------------------------------------------
-- A file with a selection

abbrev pub entered_by : List ℕ → Reading → Result Layout Reason
entered_by sel (Err why) = Err (File why)
entered_by sel (Ok l) =
    pick (ltb (length sel) l.rows)
    (Err Short)
    (pick (leb days l.day) (Err Day) (pick (bits l.rows sel) (Ok l) (Err Value)))

unfoldable pub entered_in : ℕ → Form → List ℕ → List ℕ → Result Layout Reason
entered_in K f s sel = entered_by sel (reading_in K f s)

abbrev pub entered : Form → List ℕ → List ℕ → Result Layout Reason
entered f s sel = entered_in first_terms f s sel

--------------------------------------------------------------------------------
-- The answers

abbrev pub ranked_by : List ℕ → List ℕ → ℕ → Result Layout Reason → Result Found Reason
ranked_by s sel side (Err why) = Err why
ranked_by s sel side (Ok l) =
    pick (ltb 1 side)
    (Err Value)
    (Ok (found_on (instance_of s l) sel side))

unfoldable pub ranked_in : ℕ → Form → List ℕ → List ℕ → ℕ → Result Found Reason
ranked_in K f s sel side = ranked_by s sel side (entered_in K f s sel)

abbrev pub ranked : Form → List ℕ → List ℕ → ℕ → Result Found Reason
ranked f s sel side = ranked_in first_terms f s sel side

abbrev pub ranked_numbers : Result Found Reason → FitsAndRankAnswer
ranked_numbers (Ok found) = record { refusal = 0; fits = bit found.fits; rank = found.rank }
ranked_numbers (Err why) = record { refusal = number_of why; fits = 0; rank = 0 }

pub record AnsweredIn (K : ℕ) (f : Form) (s sel : List ℕ) (side : ℕ) (r : Result Found Reason) : Type 0 where
  pub is : r ≡ ranked_in K f s sel side
  pub numbers : ranked_numbers r ≡ ranked_numbers (ranked_in K f s sel side)
  pub most : (ranked_numbers r).rank ≤ max_rows
  pub means :
      (l : Layout) → reading_in K f s ≡ Ok l → (ranked_numbers r).refusal ≡ 0 →
      Told (instance_of s l) sel side (ranked_numbers r).fits (ranked_numbers r).rank

abbrev pub Answered : Form → List ℕ → List ℕ → ℕ → Result Found Reason → Type 0
Answered f s sel side r = AnsweredIn first_terms f s sel side r

abbrev pub AnsweredKinds : ℕ → List ℕ → List ℕ → ℕ → Result Found Reason → Type 0
AnsweredKinds d s sel side r = AnsweredIn second_terms (new_week d) s sel side r
