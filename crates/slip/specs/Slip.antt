-- The slip for the counter's roll of 32 columns, as bytes: document 02, E1. The file s has the layout l, and the ones of the selection
-- sel are the kept rows.
--   is_earned s l c         whether row c is earned
--   earned_rows s l n sel   how many of the first n rows are kept and earned
--   first_line rows earned kept     the first line, with these counts
--   kind_word earned        the word for a row's kind
--   row_line c card shop earned     the line of row c, with the groups that it names
--   kept_line s l c sel     the line of row c where it is kept, else nothing
--   kept_lines s l n sel    the lines of the kept ones of the first n rows, in row order
--   slip s l sel           the whole slip
use Rattle.std.specs.Prelude.{ℕ, zero, suc, Bool, List, [], ◌++◌, eqb}
use Rattle.theory.specs.Sum.{pick}
use Rattle.text.specs.Text.{ascii, decimal, line, at_right, spread}
use Rattle.claimfile.specs.declared.Layout.{Layout}
use Rattle.claimfile.specs.Day.{named_card, named_shop, kind_of}
use Rattle.selection.specs.Selection.{is_kept, kept_rows, kept_of}

abbrev pub is_earned : List ℕ → Layout → ℕ → Bool
is_earned s l c = eqb (kind_of s l c) 1

abbrev pub earned_rows : List ℕ → Layout → ℕ → List ℕ → ℕ
earned_rows s l n sel = kept_of s l 1 n sel

-- "`CLAIMS`, `EARNED` and `KEPT` with N, the kept earned rows and the kept rows, in fields of 11, 11 and 10 characters, each word at
-- the left of its field, the count at the right, blanks between"
unfoldable pub first_line : ℕ → ℕ → ℕ → List ℕ
first_line rows earned kept =
    line
    (spread 11 (ascii "CLAIMS") (decimal rows) ++
    spread 11 (ascii "EARNED") (decimal earned) ++
    spread 10 (ascii "KEPT") (decimal kept))

abbrev pub kind_word : Bool → List ℕ
kind_word earned = pick earned (ascii "EARNED") (ascii "PLAIN")

-- "row, card group, shop group and `EARNED` or `PLAIN`, each right-aligned in 8 columns"
unfoldable pub row_line : ℕ → ℕ → ℕ → Bool → List ℕ
row_line c card shop earned =
    line
    (at_right 8 (decimal c) ++ at_right 8 (decimal card) ++ at_right 8 (decimal shop) ++ at_right 8 (kind_word earned))

unfoldable pub kept_line : List ℕ → Layout → ℕ → List ℕ → List ℕ
kept_line s l c sel = pick (is_kept sel c) (row_line c (named_card s l c) (named_shop s l c) (is_earned s l c)) []

-- "one line per kept row, in row order"
unfoldable pub kept_lines : List ℕ → Layout → ℕ → List ℕ → List ℕ
kept_lines s l zero sel = []
kept_lines s l (suc c) sel = kept_lines s l c sel ++ kept_line s l c sel

unfoldable pub slip : List ℕ → Layout → List ℕ → List ℕ
slip s l sel =
    first_line l.rows (earned_rows s l l.rows sel) (kept_rows l.rows sel) ++ kept_lines s l l.rows sel
