-- Laws of the slip.
--   lines_more lines-within    the lines of one row more, and that the lines of fewer rows are no longer
--   kind_field kind-field       the field with the word for a row's kind
--   row_is row-length          a row's line by its fields, and its length
--   line-out line-in line-by   the line of a row that is not kept, and of one that is
--   first_width row-width      a line has 33 bytes where each of its numbers has three digits at most
--   counts-fit numbers_fit     no number of an accepted file is wider than its field
--   line-width                 so has the line of a kept row of an accepted file
--   lines-length first-length slip-length   how long the kept rows' lines, the first line and the slip are
use mathlib.Core.Path.{◌≡◌, refl, sym, ap, ◌∙◌}
use mathlib.Core.Bool.{Bool, true, false, ◌&&◌}
use mathlib.Core.Logic.{inl, inr, ◌≢◌}
use mathlib.Core.List.{List, [], ◌++◌}
use Prim.Native.Nat.{ℕ, zero, suc, ◌+◌, ◌*◌, ◌≤◌, ◌<◌}
use native.Mathlib.Numerals.{add-one}
use native.Mathlib.Decide.{dec_lt}
use native.Mathlib.Omega.{arith}
use lib.ListN.{length, length-append}
use lib.Dec.{eqb}
use borrow.Author.Tests.{eq-eqb, ne_eqb}
use Rattle.theory.specs.Sum.{pick}
use Rattle.theory.specs.Matroid.{row}
use Rattle.theory.proofs.TestLaws.{either}
use Rattle.text.specs.Text.{ascii, decimal, line, blanks, at_right, spread}
use Rattle.text.proofs.TextLaws.{decimal-length, right-length, spread-length}
use Rattle.claimfile.specs.declared.Layout.{Layout}
use Rattle.claimfile.specs.declared.Claim.{Claim}
use Rattle.claimfile.specs.Day.{claim_of, named_card, named_shop}
use Rattle.claimfile.specs.Sound.{Sound}
use Rattle.selection.specs.Selection.{is_kept, count, kept_rows}
use Rattle.selection.proofs.CountLaws.{count_none, count_next, count_most}
use Rattle.slip.specs.Slip.{is_earned, earned_rows, first_line, kind_word, row_line, kept_line, kept_lines, slip}
use Rattle.slip.specs.Write.{width, needed}

pub lines_more : (s : List ℕ) (l : Layout) (c : ℕ) (sel : List ℕ) →
    kept_lines s l (c + 1) sel ≡ kept_lines s l c sel ++ kept_line s l c sel
unfolding kept_lines
lines_more s l c sel = rw add-one

pub lines-within : (s : List ℕ) (l : Layout) (n c : ℕ) (sel : List ℕ) → c < n
    → length (kept_lines s l c sel) + length (kept_line s l c sel) ≤ length (kept_lines s l n sel)
unfolding kept_lines
lines-within s l zero c sel h = absurd (omega arith)
lines-within s l (suc n) c sel h =
    simp length-append
    (elim (dec_lt c n) [
      | yes k ↦ omega (arith, lines-within s l n c sel k)
      | no k ↦
          let e : c ≡ n = omega arith in
          rw e (omega arith)
    ])

--------------------------------------------------------------------------------
-- The line of one row

abbrev pub kind_field : Bool → List ℕ
kind_field earned = pick earned (ascii "  EARNED") (ascii "   PLAIN")

kind-field : (earned : Bool) → at_right 8 (kind_word earned) ≡ kind_field earned
unfolding blanks
kind-field true = refl
kind-field false = refl

module _ (c card shop : ℕ) (earned : Bool) where
  pub row_is :
      row_line c card shop earned
      ≡ line (at_right 8 (decimal c) ++ at_right 8 (decimal card) ++ at_right 8 (decimal shop) ++ kind_field earned)
  unfolding row_line
  row_is = rw (kind-field earned)

  pub row-length :
      length (row_line c card shop earned)
      ≡ length (at_right 8 (decimal c)) + length (at_right 8 (decimal card)) + length (at_right 8 (decimal shop))
      + length (kind_field earned)
      + 1
  row-length =
      ap length row_is
      ∙ omega (
        arith,
        length-append (a ++ b ++ d ++ kind_field earned) (ascii "\n"),
        length-append (a ++ b ++ d) (kind_field earned),
        length-append (a ++ b) d,
        length-append a b,
      )
    where
      a : List ℕ
      a = at_right 8 (decimal c)

      b : List ℕ
      b = at_right 8 (decimal card)

      d : List ℕ
      d = at_right 8 (decimal shop)

module _ (s : List ℕ) (l : Layout) (c : ℕ) (sel : List ℕ) where
  pub line-out : row sel c ≢ 1 → kept_line s l c sel ≡ []
  unfolding kept_line
  line-out h = rw (ne_eqb (row sel c) 1 h)

  line-in : row sel c ≡ 1 → kept_line s l c sel ≡ row_line c (named_card s l c) (named_shop s l c) (is_earned s l c)
  unfolding kept_line
  line-in h = rw (eq-eqb (row sel c) 1 h)

  pub line-by :
      (x : Claim) → x ≡ claim_of s l c → row sel c ≡ 1 →
      row_line c x.card x.shop (eqb x.kind 1) ≡ kept_line s l c sel
  line-by x e h = ap (λ (y : Claim). row_line c y.card y.shop (eqb y.kind 1)) e ∙ sym (line-in h)

--------------------------------------------------------------------------------
-- Widths

-- a number of three digits at most
small : (n : ℕ) → n < 1000 → length (decimal n) ≤ 3
small n h = decimal-length 2 n h

pub first_width : (rows earned kept : ℕ) → rows < 1000 → earned < 1000 → kept < 1000 → length (first_line rows earned kept) ≡ width
unfolding first_line
first_width rows earned kept hr he hk =
    omega (
      arith,
      length-append (a ++ b ++ d) (ascii "\n"),
      length-append (a ++ b) d,
      length-append a b,
      spread-length 11 (ascii "CLAIMS") (decimal rows) (omega (arith, small rows hr)),
      spread-length 11 (ascii "EARNED") (decimal earned) (omega (arith, small earned he)),
      spread-length 10 (ascii "KEPT") (decimal kept) (omega (arith, small kept hk)),
    )
  where
    a : List ℕ
    a = spread 11 (ascii "CLAIMS") (decimal rows)

    b : List ℕ
    b = spread 11 (ascii "EARNED") (decimal earned)

    d : List ℕ
    d = spread 10 (ascii "KEPT") (decimal kept)

pub row-width :
    (c card shop : ℕ) (earned : Bool) → c < 1000 → card < 1000 → shop < 1000 → length (row_line c card shop earned) ≡ width
row-width c card shop earned hc hd hs =
    row-length c card shop earned
    ∙ omega (
      arith,
      right-length 8 (decimal c) (omega (arith, small c hc)),
      right-length 8 (decimal card) (omega (arith, small card hd)),
      right-length 8 (decimal shop) (omega (arith, small shop hs)),
      kind-width earned,
    )
  where
    kind-width : (e : Bool) → length (kind_field e) ≡ 8
    kind-width true = refl
    kind-width false = refl

-- an accepted file has at most 512 rows and 256 groups on a side, so every number has three digits at most
module _ (s : List ℕ) (l : Layout) (sound : Sound s l) (sel : List ℕ) where
  -- no count of the first line is wider than its field
  pub counts-fit :
      (length (ascii "CLAIMS") + length (decimal l.rows) ≤ 11)
      × (length (ascii "EARNED") + length (decimal (earned_rows s l l.rows sel)) ≤ 11)
      × (length (ascii "KEPT") + length (decimal (kept_rows l.rows sel)) ≤ 10)
  counts-fit = (
    omega (arith, small l.rows (omega (arith, sound.rows_most))),
    omega (
      arith,
      small (earned_rows s l l.rows sel)
          (omega (arith, sound.rows_most, count_most l.rows (λ c. is_kept sel c && is_earned s l c))),
    ),
    omega (arith, small (kept_rows l.rows sel) (omega (arith, sound.rows_most, count_most l.rows (is_kept sel)))),
  )

  -- no number of a row's line is wider than its field
  pub numbers_fit :
      (c : ℕ) → c < l.rows →
      (length (decimal c) ≤ 8) × (length (decimal (named_card s l c)) ≤ 8) × (length (decimal (named_shop s l c)) ≤ 8)
  numbers_fit c h = (
    omega (arith, small c (omega (arith, sound.rows_most))),
    omega (arith, small (named_card s l c) (omega (arith, sound.row_cards c h, sound.cards_most))),
    omega (arith, small (named_shop s l c) (omega (arith, sound.row_shops c h, sound.shops_most))),
  )

  pub line-width : (c : ℕ) → c < l.rows → length (kept_line s l c sel) ≡ width * pick (is_kept sel c) 1 0
  unfolding kept_line
  line-width c h =
      elim (either (is_kept sel c)) [
        | inl e ↦
            rw e
            (row-width c (named_card s l c) (named_shop s l c) (is_earned s l c) (omega (arith, sound.rows_most))
            (omega (arith, sound.row_cards c h, sound.cards_most)) (omega (arith, sound.row_shops c h, sound.shops_most)))
        | inr e ↦ rw e refl
      ]

  pub lines-length : (n : ℕ) → n ≤ l.rows → length (kept_lines s l n sel) ≡ width * kept_rows n sel
  unfolding kept_lines
  lines-length zero h = rw (sym (count_none (is_kept sel))) refl
  lines-length (suc n) h =
      omega (
        arith,
        length-append (kept_lines s l n sel) (kept_line s l n sel),
        lines-length n (omega arith),
        line-width n (omega arith),
        count_next n (is_kept sel),
        ap (λ (k : ℕ). count k (is_kept sel)) (add-one n),
      )

  -- the first line, with any counts that are the right ones
  pub first-length :
      (earned kept : ℕ) → earned ≡ earned_rows s l l.rows sel → kept ≡ kept_rows l.rows sel →
      length (first_line l.rows earned kept) ≡ width
  first-length earned kept p q =
      first_width l.rows earned kept (omega (arith, sound.rows_most))
      (omega (arith, sound.rows_most, count_most l.rows (λ c. is_kept sel c && is_earned s l c)))
      (omega (arith, sound.rows_most, count_most l.rows (is_kept sel)))

  pub slip-length : length (slip s l sel) ≡ needed l sel
  unfolding slip
  slip-length =
      omega (
        arith,
        length-append (first_line l.rows (earned_rows s l l.rows sel) (kept_rows l.rows sel)) (kept_lines s l l.rows sel),
        first-length (earned_rows s l l.rows sel) (kept_rows l.rows sel) refl refl,
        lines-length l.rows (omega arith),
      )
