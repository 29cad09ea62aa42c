-- Laws of decimal digits, of one of two words, and of fields of a given width.
--   digits-small, digits_more, digits-enough   the digits by so many divisions: one, one more, and enough are enough
--   decimal-small          a number below 10 is one digit
--   decimal-more           any other is the digits of its tenth and its last digit
--   decimal-length, decimal-more-length   how many digits: at most k below 10 to the power k, and one more than the tenth's
--   pick-length            one of two words is no longer than both may be
--   blanks-more, blanks-length   one blank more, and how many there are
--   right-length, spread-length  what is no wider than its field fills it
--   right-small, right-more, right-none  a number in a field, by its last digit
--   print-append, print-blanks, print-decimal, print-right, print-spread    what consists of printable characters
--   value_from, decimal-value   the number that digits stand for; those of n stand for n
--   decimal-first          a number that is not 0 does not start with the digit 0
use mathlib.Core.Path.{◌≡◌, refl, sym, ap, ap₂, ◌∙◌}
use Prim.Native.Nat.{ℕ, zero, suc, ◌+◌, ◌-◌, ◌*◌, ◌/◌, ◌%◌, ◌^◌, ◌≤◌, ◌<◌}
use mathlib.Core.Bool.{Bool, true, false, ◌&&◌}
use mathlib.Core.List.{List, [], ◌∷◌, ◌++◌, append_assoc}
use native.Mathlib.Nat.{pow-suc}
use native.Mathlib.Numerals.{add-one}
use native.Mathlib.Decide.{dec_lt}
use native.Mathlib.Omega.{arith}
use borrow.Author.Tests.{lt-ltb, le-ltb, le-leb}
use lib.Dec.{leb}
use lib.ListN.{length, get_or, length-append}
use Rattle.theory.specs.Sum.{pick}
use Rattle.theory.proofs.TestLaws.{and-true, true-and}
use Rattle.text.specs.Text.{ascii, last_digit, digits_by, decimal, printable, blanks, at_right, spread}

digits-small : (f n : ℕ) → n < 10 → digits_by f n ≡ last_digit n ∷ []
unfolding digits_by
digits-small zero n h = refl
digits-small (suc f) n h = rw (lt-ltb n 10 h)

digits_more : (f n : ℕ) → 10 ≤ n → digits_by (suc f) n ≡ digits_by f (n / 10) ++ (last_digit n ∷ [])
unfolding digits_by
digits_more f n h = rw (le-ltb n 10 h)

digits-enough : (f g n : ℕ) → n ≤ f → n ≤ g → digits_by f n ≡ digits_by g n
digits-enough zero g n hf hg = digits-small zero n (omega arith) ∙ sym (digits-small g n (omega arith))
digits-enough (suc f) zero n hf hg = digits-small (suc f) n (omega arith) ∙ sym (digits-small zero n (omega arith))
digits-enough (suc f) (suc g) n hf hg =
    elim (dec_lt n 10) [
      | yes h ↦ digits-small (suc f) n h ∙ sym (digits-small (suc g) n h)
      | no h ↦
          digits_more f n (omega arith)
          ∙ ap (λ (l : List ℕ). l ++ (last_digit n ∷ [])) (digits-enough f g (n / 10) (omega arith) (omega arith))
          ∙ sym (digits_more g n (omega arith))
    ]

pub decimal-small : (n : ℕ) → n < 10 → decimal n ≡ (48 + n) ∷ []
unfolding decimal
decimal-small n h =
    let e : 48 + n % 10 ≡ 48 + n = omega arith in
    digits-small n n h ∙ ap (λ (d : ℕ). d ∷ []) e

pub decimal-more : (n : ℕ) → 10 ≤ n → decimal n ≡ decimal (n / 10) ++ ((48 + n % 10) ∷ [])
unfolding decimal
decimal-more zero h = absurd (omega arith)
decimal-more (suc f) h =
    digits_more f (suc f) h
    ∙ ap (λ (l : List ℕ). l ++ (last_digit (suc f) ∷ [])) (digits-enough f (suc f / 10) (suc f / 10) (omega arith) (omega arith))

pub decimal-more-length : (n : ℕ) → 10 ≤ n → length (decimal n) ≡ length (decimal (n / 10)) + 1
decimal-more-length n h = ap length (decimal-more n h) ∙ length-append (decimal (n / 10)) ((48 + n % 10) ∷ [])

pub decimal-length : (k n : ℕ) → n < 10 ^ suc k → length (decimal n) ≤ suc k
decimal-length zero n h = rw (decimal-small n h) (omega arith)
decimal-length (suc k) n h =
    elim (dec_lt n 10) [
      | yes l ↦ rw (decimal-small n l) (omega arith)
      | no l ↦
          let m : 10 ≤ n = omega arith in
          let t : n / 10 < 10 ^ suc k = omega (arith, pow-suc 10 (suc k)) in
          omega (arith, decimal-more-length n m, decimal-length k (n / 10) t)
    ]

pub pick-length : (t : Bool) (a b : List ℕ) (m : ℕ) → length a ≤ m → length b ≤ m → length (pick t a b) ≤ m
pick-length true a b m ha hb = ha
pick-length false a b m ha hb = hb

pub blanks-more : (n : ℕ) → blanks (n + 1) ≡ blanks n ++ ascii " "
unfolding blanks
blanks-more n = rw add-one

pub blanks-length : (n : ℕ) → length (blanks n) ≡ n
unfolding blanks
blanks-length zero = refl
blanks-length (suc n) = simp length-append (omega (arith, blanks-length n))

pub right-length : (width : ℕ) (b : List ℕ) → length b ≤ width → length (at_right width b) ≡ width
right-length width b h = simp length-append (omega (arith, blanks-length (width - length b)))

-- a field of a number, from its last digit on: what is left of the field has the tenth of the number, or blanks
pub right-small : (width n : ℕ) → n < 10 → at_right width (decimal n) ≡ blanks (width - 1) ++ ((48 + n) ∷ [])
right-small width n h = ap (at_right width) (decimal-small n h)

pub right-more :
    (width n : ℕ) → 10 ≤ n → at_right width (decimal n) ≡ at_right (width - 1) (decimal (n / 10)) ++ ((48 + n % 10) ∷ [])
right-more width n h =
    let tenth = decimal (n / 10) in
    let left : width - length (decimal n) ≡ width - 1 - length tenth = omega (arith, decimal-more-length n h) in
    ap₂ (λ m b. blanks m ++ b) left (decimal-more n h)
    ∙ sym (append_assoc (blanks (width - 1 - length tenth)) tenth ((48 + n % 10) ∷ []))

-- a field of no width is the number alone
pub right-none : (b : List ℕ) → at_right 0 b ≡ b
unfolding blanks
right-none b =
    let e : 0 - length b ≡ 0 = omega arith in
    rw e

pub spread-length : (width : ℕ) (w b : List ℕ) → length w + length b ≤ width → length (spread width w b) ≡ width
spread-length width w b h =
    omega (
      arith,
      length-append w (at_right (width - length w) b),
      right-length (width - length w) b (omega arith),
    )

--------------------------------------------------------------------------------
-- Printable characters

pub print-append : (a b : List ℕ) → printable a ≡ true → printable b ≡ true → printable (a ++ b) ≡ true
print-append [] b p q = q
print-append (x ∷ a) b p q =
    let r = and-true (leb 32 x && leb x 126) (printable a) p in
    true-and (leb 32 x && leb x 126) (printable (a ++ b)) r.0 (print-append a b r.1 q)

pub print-blanks : (n : ℕ) → printable (blanks n) ≡ true
unfolding blanks
print-blanks zero = refl
print-blanks (suc n) = print-append (blanks n) (ascii " ") (print-blanks n) refl

print-digit : (n : ℕ) → printable (last_digit n ∷ []) ≡ true
print-digit n =
    let d = last_digit n in
    true-and (leb 32 d && leb d 126) true
    (true-and (leb 32 d) (leb d 126) (le-leb 32 d (omega arith)) (le-leb d 126 (omega arith))) refl

print-digits : (f n : ℕ) → printable (digits_by f n) ≡ true
unfolding digits_by
print-digits zero n = print-digit n
print-digits (suc f) n =
    elim (dec_lt n 10) [
      | yes h ↦ rw (lt-ltb n 10 h) (print-digit n)
      | no h ↦
          rw (le-ltb n 10 (omega arith))
          (print-append (digits_by f (n / 10)) (last_digit n ∷ []) (print-digits f (n / 10)) (print-digit n))
    ]

pub print-decimal : (n : ℕ) → printable (decimal n) ≡ true
unfolding decimal
print-decimal n = print-digits n n

pub print-right : (width : ℕ) (b : List ℕ) → printable b ≡ true → printable (at_right width b) ≡ true
print-right width b p = print-append (blanks (width - length b)) b (print-blanks (width - length b)) p

pub print-spread : (width : ℕ) (w b : List ℕ) → printable w ≡ true → printable b ≡ true → printable (spread width w b) ≡ true
print-spread width w b p q = print-append w (at_right (width - length w) b) p (print-right (width - length w) b q)

--------------------------------------------------------------------------------
-- What `decimal` promises, said apart from its definition. No proof needs it.

-- the number that decimal digits stand for, after others that stand for v
pub value_from : ℕ → List ℕ → ℕ
value_from v [] = v
value_from v (d ∷ l) = value_from (10 * v + (d - 48)) l

value-more : (v : ℕ) (l : List ℕ) (d : ℕ) → value_from v (l ++ (d ∷ [])) ≡ 10 * value_from v l + (d - 48)
unfolding value_from
value-more v [] d = refl
value-more v (x ∷ l) d = value-more (10 * v + (x - 48)) l d

digits_value : (f n : ℕ) → n ≤ f → value_from 0 (digits_by f n) ≡ n
unfolding value_from
digits_value zero n h = rw (digits-small 0 n (omega arith)) (omega arith)
digits_value (suc f) n h =
    elim (dec_lt n 10) [
      | yes l ↦ rw (digits-small (suc f) n l) (omega arith)
      | no l ↦
          let m : 10 ≤ n = omega arith in
          rw (digits_more f n m, value-more 0 (digits_by f (n / 10)) (last_digit n), digits_value f (n / 10) (omega arith))
          (omega arith)
    ]

pub decimal-value : (n : ℕ) → value_from 0 (decimal n) ≡ n
unfolding decimal
decimal-value n = digits_value n n (omega arith)

first-append : (l m : List ℕ) → 48 < get_or l 0 0 → 48 < get_or (l ++ m) 0 0
first-append [] m h = absurd (omega arith)
first-append (x ∷ l) m h = h

digits-first : (f n : ℕ) → n ≤ f → 0 < n → 48 < get_or (digits_by f n) 0 0
digits-first zero n h p = absurd (omega arith)
digits-first (suc f) n h p =
    elim (dec_lt n 10) [
      | yes l ↦ rw (digits-small (suc f) n l) (omega arith)
      | no l ↦
          let m : 10 ≤ n = omega arith in
          rw (digits_more f n m)
          (first-append (digits_by f (n / 10)) (last_digit n ∷ []) (digits-first f (n / 10) (omega arith) (omega arith)))
    ]

pub decimal-first : (n : ℕ) → 0 < n → 48 < get_or (decimal n) 0 0
unfolding decimal
decimal-first n p = digits-first n n (omega arith) p
