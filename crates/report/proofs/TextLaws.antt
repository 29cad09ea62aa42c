-- Laws of the text.
--   row-length             a row's line is at most 15 bytes longer than its number
--   rows_more, rows-within the lines of one row more, and that the lines of fewer rows are no longer
--   rows-length, closed-length, refused-length   how long each text can be
--   rows_agree, closed-agree   choices that agree at each row give the same text
--   closed-room            the length of a closed day's text is a 64-bit number
use mathlib.Core.Path.{◌≡◌, refl, ap, ap₂}
use Prim.Native.Nat.{ℕ, zero, suc, ◌+◌, ◌*◌, ◌^◌, ◌≤◌, ◌<◌}
use mathlib.Core.List.{List, ◌++◌}
use native.Mathlib.Nat.{suc-mul}
use native.Mathlib.Numerals.{add-one}
use native.Mathlib.Decide.{dec_lt}
use native.Mathlib.Omega.{arith}
use lib.ListN.{length, length-append}
use lib.Dec.{eqb}
use Rattle.theory.specs.Best.{Agree}
use Rattle.text.specs.Text.{ascii, decimal}
use Rattle.text.proofs.TextLaws.{pick-length, decimal-length}
use Rattle.report.specs.Text.{fate, kind_word, row_line, row_lines, first_line, last_line, closed_text, refused_text}

row-length : (c k x : ℕ) → length (row_line c k x) ≤ length (decimal c) + 15
unfolding row_line
row-length c k x =
    let f : length (fate x) ≤ 6 = pick-length (eqb x 1) (ascii " kept ") (ascii " no ") 6 (omega arith) (omega arith) in
    let g : length (kind_word k) ≤ 8 =
    pick-length (eqb k 0) (ascii "ordinary") (ascii "earned") 8 (omega arith) (omega arith) in
    simp length-append (omega arith)

pub rows_more : (c : ℕ) (kind choice : ℕ → ℕ) → row_lines (c + 1) kind choice ≡ row_lines c kind choice ++ row_line c (kind c) (choice c)
unfolding row_lines
rows_more c kind choice = rw add-one

pub rows-within : (n c : ℕ) (kind choice : ℕ → ℕ) → c < n
    → length (row_lines c kind choice) + length (row_line c (kind c) (choice c)) ≤ length (row_lines n kind choice)
unfolding row_lines
rows-within zero c kind choice h = absurd (omega arith)
rows-within (suc n) c kind choice h =
    simp length-append
    (elim (dec_lt c n) [
      | yes l ↦ omega (arith, rows-within n c kind choice l)
      | no l ↦
          let e : c ≡ n = omega arith in
          rw e (omega arith)
    ])

rows-length : (w n : ℕ) (kind choice : ℕ → ℕ) → n ≤ 10 ^ suc w → length (row_lines n kind choice) ≤ n * (w + 16)
unfolding row_lines
rows-length w zero kind choice h = omega arith
rows-length w (suc c) kind choice h =
    simp (length-append, suc-mul)
    (omega (arith, rows-length w c kind choice (omega arith), row-length c (kind c) (choice c), decimal-length w c h))

pub closed-length : (w v rows earned kept total : ℕ) (kind choice : ℕ → ℕ) → rows ≤ 10 ^ suc w
    → rows < 10 ^ suc v → earned < 10 ^ suc v → kept < 10 ^ suc v → total < 10 ^ suc v
    → length (closed_text rows kind choice earned kept total) ≤ rows * (w + 16) + (4 * v + 33)
unfolding closed_text first_line last_line
closed-length w v rows earned kept total kind choice hw hr he hk ht =
    simp length-append
    (omega (
      arith,
      rows-length w rows kind choice hw,
      decimal-length v rows hr,
      decimal-length v earned he,
      decimal-length v kept hk,
      decimal-length v total ht,
    ))

pub refused-length : (v number : ℕ) → number < 10 ^ suc v → length (refused_text number) ≤ v + 10
unfolding refused_text
refused-length v number h = simp length-append (omega (arith, decimal-length v number h))

rows_agree : (n : ℕ) (kind : ℕ → ℕ) {X Y : ℕ → ℕ} → Agree n X Y → row_lines n kind X ≡ row_lines n kind Y
unfolding row_lines
rows_agree zero kind h = refl
rows_agree (suc c) kind h =
    ap₂ ◌++◌ (rows_agree c kind (λ i l. h i (omega arith))) (ap (λ x. row_line c (kind c) x) (h c (omega arith)))

pub closed-agree : (rows earned kept total : ℕ) (kind : ℕ → ℕ) {X Y : ℕ → ℕ} → Agree rows X Y
    → closed_text rows kind X earned kept total ≡ closed_text rows kind Y earned kept total
unfolding closed_text
closed-agree rows earned kept total kind h =
    ap (λ (t : List ℕ). first_line rows earned kept ++ t ++ last_line total) (rows_agree rows kind h)

-- with fewer than 2 ^ 32 rows and 64-bit numbers, the length is a 64-bit number
pub closed-room : (rows earned kept total : ℕ) (kind choice : ℕ → ℕ) → rows < 2 ^ 32
    → earned < 2 ^ 64 → kept < 2 ^ 64 → total < 2 ^ 64
    → length (first_line rows earned kept) + length (row_lines rows kind choice) + length (last_line total) < 2 ^ 64
unfolding closed_text
closed-room rows earned kept total kind choice hr he hk ht =
    omega (
      arith,
      simp length-append at (closed-length
          9
          19
          rows
          earned
          kept
          total
          kind
          choice
          (omega arith)
          (omega arith)
          (omega arith)
          (omega arith)
          (omega arith)),
    )

--------------------------------------------------------------------------------
-- What a caller may take from it: the answer 0 always means that nothing was written. No proof needs it.
