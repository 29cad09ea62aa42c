-- The text that the program `settle` writes: document 01, "Days worked by hand".
--   fate x, kind_word k     the words for a row's byte in the choice and for its kind
--   row_line c k x          row c's line: its number, its fate, its kind
--   row_lines n kind choice the lines of the first n rows
--   first_line, last_line    the lines before and after them
--   closed_text             the text of a day that is closed
--   refused_text            the text of a file that is turned away
use Rattle.std.specs.Prelude.{ℕ, zero, suc, List, [], ◌++◌, eqb}
use Rattle.theory.specs.Sum.{pick}
use Rattle.text.specs.Text.{ascii, decimal, line, field}

abbrev pub fate : ℕ → List ℕ
fate x = pick (eqb x 1) (ascii " kept ") (ascii " no ")

abbrev pub kind_word : ℕ → List ℕ
kind_word k = pick (eqb k 0) (ascii "ordinary") (ascii "earned")

-- "one line for each row, in row order: row number, fate (`kept` or `no`), kind (`earned` or `ordinary`)"
unfoldable pub row_line : ℕ → ℕ → ℕ → List ℕ
row_line c k x = line (decimal c ++ fate x ++ kind_word k)

unfoldable pub row_lines : ℕ → (ℕ → ℕ) → (ℕ → ℕ) → List ℕ
row_lines zero kind choice = []
row_lines (suc c) kind choice = row_lines c kind choice ++ row_line c (kind c) (choice c)

-- "First line: N, earned rows kept, rows kept."
unfoldable pub first_line : ℕ → ℕ → ℕ → List ℕ
first_line rows earned kept = line (field "claims " rows ++ field " earned " earned ++ field " kept " kept)

-- "Last: the sheet's total."
unfoldable pub last_line : ℕ → List ℕ
last_line total = line (field "total " total)

unfoldable pub closed_text : ℕ → (ℕ → ℕ) → (ℕ → ℕ) → ℕ → ℕ → ℕ → List ℕ
closed_text rows kind choice earned kept total = first_line rows earned kept ++ row_lines rows kind choice ++ last_line total

-- "`refused`, one blank and its number"
unfoldable pub refused_text : ℕ → List ℕ
refused_text number = line (field "refused " number)
