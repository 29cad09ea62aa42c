-- What spare places answers (document 01, "Calls and lent memory" and "Turned-away files").
-- Of an instance i, which is what an accepted file holds:
--   SparesOn i sel x n     n is how many further claims like row x would fit beside the selection, and what that means
-- Of a file, in the form f:
--   spare_by s sel x entry, spare f s sel x   the answer of spare places
--   spare_numbers r         document 01's number and value for each case of an answer: the refusal's number and 0, or 0 with the number
--                          of places
--   Spared f s sel x r     r is the answer of spare places, in document 01's number and value too; there are at most 65535 places. Where
--                          no refusal is told of an accepted file, the row is not in the selection, and the number means what `Spares`
--                          says
-- What is told of the file and the selection is told first. "Then 7, 8, 9": 9 for a row not below N. Then 10, the row is already in the
-- selection.
use Rattle.std.specs.Prelude.{ℕ, ◌≤◌, ◌≡◌, List, leb, eqb, Ok, Err, Result}
use Rattle.theory.specs.Bounds.{max_limit}
use Rattle.theory.specs.Sum.{pick}
use Rattle.theory.specs.Matroid.{row}
use Rattle.theory.specs.Network.{Instance}
use Rattle.theory.specs.Spare.{spare_places, Spares}
use Rattle.answers.specs.declared.SparePlacesAnswer.{SparePlacesAnswer}
use Rattle.reader.specs.Reading.{reading}
use Rattle.claimfile.specs.Day.{limit_of, network_of, instance_of}
use Rattle.claimfile.specs.declared.Form.{Form}
use Rattle.claimfile.specs.declared.Layout.{Layout}
use Rattle.refusal.specs.declared.Reason.TheVariants.{Value, Selected}
use Rattle.refusal.specs.Table.{number_of}
use Rattle.limits.specs.Answers.{entered}
use Rattle.refusal.specs.declared.Reason.{Reason}

abbrev pub SparesOn : Instance → List ℕ → ℕ → ℕ → Type 0
SparesOn i sel x n = Spares i.net i.limit (row sel) x n

abbrev pub spare_by : List ℕ → List ℕ → ℕ → Result Layout Reason → Result ℕ Reason
spare_by s sel x (Err why) = Err why
spare_by s sel x (Ok l) =
    pick (leb l.rows x)
    (Err Value)
    (pick (eqb (row sel x) 1)
    (Err Selected)
    (Ok (spare_places (network_of s l) (limit_of s l) (row sel) x)))

unfoldable pub spare : Form → List ℕ → List ℕ → ℕ → Result ℕ Reason
spare f s sel x = spare_by s sel x (entered f s sel)

abbrev pub spare_numbers : Result ℕ Reason → SparePlacesAnswer
spare_numbers (Ok n) = record { refusal = 0; places = n }
spare_numbers (Err why) = record { refusal = number_of why; places = 0 }

pub record Spared (f : Form) (s sel : List ℕ) (x : ℕ) (r : Result ℕ Reason) : Type 0 where
  pub is : r ≡ spare f s sel x
  pub numbers : spare_numbers r ≡ spare_numbers (spare f s sel x)
  pub most : (spare_numbers r).places ≤ max_limit
  pub means :
      (l : Layout) → reading f s ≡ Ok l → (spare_numbers r).refusal ≡ 0 →
      (row sel x ≡ 0) × SparesOn (instance_of s l) sel x (spare_numbers r).places
