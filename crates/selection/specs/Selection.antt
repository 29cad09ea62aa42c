-- Selections of the rows of a file, as bytes. The file s has the layout l.
--   bits n sel             whether each of the first n bytes of a selection is 0 or 1
--   is_kept sel c           whether row c is kept
--   count n test           how many numbers below n pass a test
--   kept_rows n sel         how many of the first n rows are kept
--   kept_of s l k n sel     how many of them are kept and of kind k
--   Covers s l sel         what counting asks: the file is sound, and the selection has a byte for each row
--   Counted s l k n sel r  r counts the kept ones of the first n rows, and which of these match kind k
-- The counts are of the bytes that are 1, whatever the others are.
use Rattle.std.specs.Prelude.{ℕ, ◌≤◌, ◌≡◌, Bool, ◌&&◌, List, length, leb, eqb}
use Rattle.theory.specs.Sum.{pick, sum, every}
use Rattle.theory.specs.Matroid.{row}
use Rattle.claimfile.specs.declared.Layout.{Layout}
use Rattle.claimfile.specs.Day.{kind_of}
use Rattle.claimfile.specs.Sound.{Sound}
use Rattle.selection.specs.declared.Counts.{Counts}

unfoldable pub bits : ℕ → List ℕ → Bool
bits n sel = every n (λ c. leb (row sel c) 1)

abbrev pub is_kept : List ℕ → ℕ → Bool
is_kept sel c = eqb (row sel c) 1

unfoldable pub count : ℕ → (ℕ → Bool) → ℕ
count n test = sum n (λ c. pick (test c) 1 0)

abbrev pub kept_rows : ℕ → List ℕ → ℕ
kept_rows n sel = count n (is_kept sel)

abbrev pub kept_of : List ℕ → Layout → ℕ → ℕ → List ℕ → ℕ
kept_of s l k n sel = count n (λ c. is_kept sel c && eqb (kind_of s l c) k)

pub record Covers (s : List ℕ) (l : Layout) (sel : List ℕ) : Type 0 where
  pub sound : Sound s l
  pub long : l.rows ≤ length sel

pub record Counted (s : List ℕ) (l : Layout) (k n : ℕ) (sel : List ℕ) (r : Counts) : Type 0 where
  pub matched : r.matched ≡ kept_of s l k n sel
  pub kept : r.kept ≡ kept_rows n sel
  pub part : r.matched ≤ r.kept
  pub few : r.kept ≤ n
