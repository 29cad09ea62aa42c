-- Every slip consists of lines of the roll.
--   print-at                   a printable character is no line feed
--   line_made                  32 printable characters and a line feed are a line
--   first-line row-line        the first line and a row's line are lines
--   slip-lines                 the slip has a line for each kept row, and the first
-- No other proof needs these.
use mathlib.Core.Path.{◌≡◌, refl, sym, ap, ◌∙◌, subst}
use mathlib.Core.Bool.{Bool, true, false, ◌&&◌}
use mathlib.Core.Logic.{inl, inr, ◌≢◌}
use mathlib.Core.List.{List, [], ◌∷◌, ◌++◌, append_assoc, append-nil}
use Prim.Native.Nat.{ℕ, zero, suc, ◌≤◌, ◌<◌}
use native.Mathlib.Numerals.{add-one}
use native.Mathlib.Omega.{arith}
use borrow.Author.Tests.{leb-true}
use lib.ListN.{length, get_or, length-append}
use lib.Seq.{take_at}
use lib.Dec.{leb}
use Rattle.theory.proofs.TestLaws.{either, and-true}
use Rattle.text.specs.Text.{ascii, decimal, line, printable, at_right, spread}
use Rattle.text.proofs.TextLaws.{print-append, print-decimal, print-right, print-spread}
use Rattle.claimfile.specs.declared.Layout.{Layout}
use Rattle.claimfile.specs.Day.{named_card, named_shop}
use Rattle.claimfile.specs.Sound.{Sound}
use Rattle.selection.specs.Selection.{is_kept, count, kept_rows}
use Rattle.selection.proofs.CountLaws.{count_none, count_next}
use Rattle.slip.specs.Slip.{is_earned, earned_rows, first_line, kind_word, row_line, kept_line, kept_lines, slip}
use Rattle.slip.specs.Lines.{Line, Lines, none, more}
use Rattle.slip.proofs.SlipLaws.{first-length, row-width}

print-at : (b : List ℕ) → printable b ≡ true → (i : ℕ) → i < length b → (m : List ℕ) → get_or (b ++ m) i 0 ≢ 10
print-at [] p i h m = absurd (omega arith)
print-at (x ∷ b) p zero h m =
    let r = and-true (leb 32 x && leb x 126) (printable b) p in
    let q = and-true (leb 32 x) (leb x 126) r.0 in
    λ e. omega (arith, leb-true 32 x q.0)
print-at (x ∷ b) p (suc i) h m =
    print-at b (and-true (leb 32 x && leb x 126) (printable b) p).1 i (omega arith) m

at-end : (b : List ℕ) (x : ℕ) → get_or (b ++ (x ∷ [])) (length b) 0 ≡ x
at-end [] x = refl
at-end (y ∷ b) x = at-end b x

line_made : (b : List ℕ) → printable b ≡ true → length (line b) ≡ 33 → Line (line b)
line_made b p e =
    let n : length b ≡ 32 = omega (arith, length-append b (ascii "\n")) in
    record {
      size = e;
      characters = ap printable (take_at b (ascii "\n") 32 n) ∙ p;
      feed = subst (λ (k : ℕ). get_or (line b) k 0 ≡ 10) n (at-end b 10);
      only = λ i h. print-at b p i (omega arith) (ascii "\n");
    }

print-word : (e : Bool) → printable (kind_word e) ≡ true
print-word true = refl
print-word false = refl

first-line : (rows earned kept : ℕ) → length (first_line rows earned kept) ≡ 33 → Line (first_line rows earned kept)
unfolding first_line
first-line rows earned kept e =
    line_made (a ++ b ++ d)
    (print-append (a ++ b) d
    (print-append a b
    (print-spread 11 (ascii "CLAIMS") (decimal rows) refl (print-decimal rows))
    (print-spread 11 (ascii "EARNED") (decimal earned) refl (print-decimal earned)))
    (print-spread 10 (ascii "KEPT") (decimal kept) refl (print-decimal kept)))
    e
  where
    a : List ℕ
    a = spread 11 (ascii "CLAIMS") (decimal rows)

    b : List ℕ
    b = spread 11 (ascii "EARNED") (decimal earned)

    d : List ℕ
    d = spread 10 (ascii "KEPT") (decimal kept)

row-line :
    (c card shop : ℕ) (earned : Bool) → length (row_line c card shop earned) ≡ 33 → Line (row_line c card shop earned)
unfolding row_line
row-line c card shop earned e =
    line_made (a ++ b ++ d ++ k)
    (print-append (a ++ b ++ d) k
    (print-append (a ++ b) d
    (print-append a b (print-right 8 (decimal c) (print-decimal c)) (print-right 8 (decimal card) (print-decimal card)))
    (print-right 8 (decimal shop) (print-decimal shop)))
    (print-right 8 (kind_word earned) (print-word earned)))
    e
  where
    a : List ℕ
    a = at_right 8 (decimal c)

    b : List ℕ
    b = at_right 8 (decimal card)

    d : List ℕ
    d = at_right 8 (decimal shop)

    k : List ℕ
    k = at_right 8 (kind_word earned)

module _ (s : List ℕ) (l : Layout) (sound : Sound s l) (sel : List ℕ) where
  abbrev first : List ℕ
  first = first_line l.rows (earned_rows s l l.rows sel) (kept_rows l.rows sel)

  is-first : Line first
  is-first =
      first-line l.rows (earned_rows s l l.rows sel) (kept_rows l.rows sel)
      (first-length s l sound sel (earned_rows s l l.rows sel) (kept_rows l.rows sel) refl refl)

  is_row : (c : ℕ) → c < l.rows → Line (row_line c (named_card s l c) (named_shop s l c) (is_earned s l c))
  is_row c h =
      row-line c (named_card s l c) (named_shop s l c) (is_earned s l c)
      (row-width c (named_card s l c) (named_shop s l c) (is_earned s l c) (omega (arith, sound.rows_most))
      (omega (arith, sound.row_cards c h, sound.cards_most)) (omega (arith, sound.row_shops c h, sound.shops_most)))

  -- one row more: a line more where it is kept
  next :
      (c : ℕ) (b : List ℕ) → c < l.rows → Lines (suc (kept_rows c sel)) b →
      Lines (suc (kept_rows (suc c) sel)) (b ++ kept_line s l c sel)
  unfolding kept_line
  next c b h p =
      elim (either (is_kept sel c)) [
        | inl e ↦
            let k : kept_rows (suc c) sel ≡ suc (kept_rows c sel) =
            ap (λ (n : ℕ). count n (is_kept sel)) (sym (add-one c)) ∙ count_next c (is_kept sel) ∙ rw e (add-one _) in
            rw (e, k) (more p (is_row c h))
        | inr e ↦
            let k : kept_rows (suc c) sel ≡ kept_rows c sel =
            ap (λ (n : ℕ). count n (is_kept sel)) (sym (add-one c)) ∙ count_next c (is_kept sel) ∙ rw e (omega arith) in
            rw (e, k, append-nil) p
      ]

  lines : (n : ℕ) → n ≤ l.rows → Lines (suc (kept_rows n sel)) (first ++ kept_lines s l n sel)
  unfolding kept_lines
  lines zero h = rw (append-nil first, sym (count_none (is_kept sel))) (more none is-first)
  lines (suc c) h =
      rw (← append_assoc first (kept_lines s l c sel) (kept_line s l c sel))
      (next c (first ++ kept_lines s l c sel) h (lines c (omega arith)))

  pub slip-lines : Lines (suc (kept_rows l.rows sel)) (slip s l sel)
  unfolding slip
  slip-lines = lines l.rows (omega arith)
