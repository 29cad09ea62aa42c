-- Laws of bytes that stand in a list, and of bytes that are put there.
--   same-cell              the cell at a place that is written in two ways
--   holds-self holds-take holds-drop    a list holds its own bytes; the bytes at its start; the bytes in what is left of it
--   holds-first holds-second holds-append    bytes one behind the other stand there exactly when both parts do
--   records-length holds-record holds-records    the same for records of one width
--   records-same           the same records give the same bytes
--   group-length group-same    how many bytes a group's record has, and that the same record gives the same
--   bytes-append bytes_word bytes-records    each cell is a byte
--   put_then               two runs of bytes, one behind the other
--   put-none put-more      records of one width, one behind the other
--   Apart                  two runs of bytes do not overlap
--   put_holds put-past     what stands apart from the bytes that are put stays, and so does what is left behind them
use mathlib.Core.Bool.{true}
use mathlib.Core.Path.{◌≡◌, refl, sym, ap, ap₂, ◌∙◌}
use mathlib.Core.Logic.{◌⊎◌, inl, inr}
use mathlib.Core.List.{List, ◌++◌}
use Prim.Native.Nat.{ℕ, zero, suc, ◌+◌, ◌*◌, ◌-◌, ◌≤◌, ◌<◌}
use native.Mathlib.Decide.{dec_lt}
use native.Mathlib.Nat.{mul-suc}
use native.Mathlib.Numerals.{add-one}
use native.Mathlib.Omega.{arith}
use lib.ListN.{length, get_or, take, drop, length-append, length-drop, get_or-append}
use lib.Seq.{get_or-append-add, get_or-take, get_or-drop, length-take-le, ext_get_or}
use Rattle.claimfile.specs.File.{days, group_width}
use Rattle.claimwriter.specs.Written.{WeekGroup, bytes_of, records, group_bytes, SameGroup}
use Rattle.claimwriter.specs.Put.{Holds, Put}

pub same-cell : (s : List ℕ) (i j : ℕ) → i ≡ j → get_or s i 0 ≡ get_or s j 0
same-cell s i j e = ap (λ x. get_or s x 0) e

--------------------------------------------------------------------------------
-- Bytes that stand in a list

pub holds-self : (t : List ℕ) → Holds t 0 t
holds-self t j l = same-cell t (0 + j) j (omega arith)

pub holds-take : (t new : List ℕ) (n : ℕ) → n ≡ length new → n ≤ length t → Holds t 0 new → take n t ≡ new
holds-take t new n e l h =
    ext_get_or 0 (take n t) new (taken ∙ e)
    (λ i m.
    let small : i < n = omega (arith, taken) in
    get_or-take n t i 0 small ∙ same-cell t i (0 + i) (omega arith) ∙ h i (omega arith))
  where
    taken : length (take n t) ≡ n
    taken = length-take-le n t l

pub holds-drop : (t : List ℕ) (start at : ℕ) (new : List ℕ) → Holds t (start + at) new → Holds (drop start t) at new
holds-drop t start at new h j l =
    get_or-drop start t (at + j) 0 ∙ same-cell t (start + (at + j)) (start + at + j) (omega arith) ∙ h j l

module _ (t : List ℕ) (at : ℕ) (a b : List ℕ) where
  pub holds-first : Holds t at (a ++ b) → Holds t at a
  holds-first p j l = p j (omega (arith, length-append a b)) ∙ get_or-append a b 0 j l

  module _ (next : ℕ) (e : next ≡ at + length a) where
    pub holds-second : Holds t at (a ++ b) → Holds t next b
    holds-second p j l =
        same-cell t (next + j) (at + (length a + j)) (omega arith)
        ∙ p (length a + j) (omega (arith, length-append a b))
        ∙ get_or-append-add a b j 0

    pub holds-append : Holds t at a → Holds t next b → Holds t at (a ++ b)
    holds-append p q j l =
        elim (dec_lt j (length a)) [
          | yes h ↦ p j h ∙ sym (get_or-append a b 0 j h)
          | no h ↦
              let i = j - length a in
              same-cell t (at + j) (next + i) (omega arith)
              ∙ q i (omega (arith, length-append a b))
              ∙ sym (get_or-append-add a b i 0)
              ∙ same-cell (a ++ b) (length a + i) j (omega arith)
        ]

module _ (width : ℕ) (f : ℕ → List ℕ) (each : (i : ℕ) → length (f i) ≡ width) where
  pub records-length : (n : ℕ) → length (records n f) ≡ width * n
  unfolding records
  records-length zero = omega arith
  records-length (suc n) =
      rw mul-suc (omega (arith, length-append (records n f) (f n), records-length n, each n))

  module _ (t : List ℕ) (at : ℕ) where
    behind : (n : ℕ) → at + width * n ≡ at + length (records n f)
    behind n = ap (λ (x : ℕ). at + x) (sym (records-length n))

    pub holds-record : (n : ℕ) → Holds t at (records n f) → (i : ℕ) → i < n → Holds t (at + width * i) (f i)
    unfolding records
    holds-record zero h i l = absurd (omega arith)
    holds-record (suc n) h i l =
        elim (dec_lt i n) [
          | yes m ↦ holds-record n (holds-first t at (records n f) (f n) h) i m
          | no m ↦
              let e : i ≡ n = omega arith in
              rw e (holds-second t at (records n f) (f n) (at + width * n) (behind n) h)
        ]

    pub holds-records : (n : ℕ) → ((i : ℕ) → i < n → Holds t (at + width * i) (f i)) → Holds t at (records n f)
    unfolding records
    holds-records zero h = λ j l. absurd (omega arith)
    holds-records (suc n) h =
        holds-append t at (records n f) (f n) (at + width * n) (behind n) (holds-records n (λ i l. h i (omega arith)))
        (h n (omega arith))

pub records-same :
    (n : ℕ) (f g : ℕ → List ℕ) → ((i : ℕ) → i < n → f i ≡ g i) → records n f ≡ records n g
unfolding records
records-same zero f g h = refl
records-same (suc n) f g h = ap₂ ◌++◌ (records-same n f g (λ i l. h i (omega arith))) (h n (omega arith))

pub group-length : (x : WeekGroup) → length (group_bytes x) ≡ group_width true
unfolding records
group-length x = refl

pub group-same : (x y : WeekGroup) → SameGroup x y → group_bytes x ≡ group_bytes y
group-same x y same =
    ap₂ ◌++◌ (ap bytes_of same.parent) (records-same days _ _ (λ k h. ap bytes_of (same.limits k h)))

--------------------------------------------------------------------------------
-- Each cell is a byte

abbrev pub Bytes : List ℕ → Type 0
Bytes s = (i : ℕ) → get_or s i 0 < 256

pub bytes-append : (a b : List ℕ) → Bytes a → Bytes b → Bytes (a ++ b)
bytes-append a b p q i =
    elim (dec_lt i (length a)) [
      | yes h ↦ omega (arith, get_or-append a b 0 i h, p i)
      | no h ↦
          let j = i - length a in
          omega (arith, same-cell (a ++ b) i (length a + j) (omega arith), get_or-append-add a b j 0, q j)
    ]

pub bytes_word : (n : ℕ) → n < 65536 → Bytes (bytes_of n)
bytes_word n l zero = omega arith
bytes_word n l (suc zero) = omega arith
bytes_word n l (suc (suc i)) = omega arith

pub bytes-records : (n : ℕ) (f : ℕ → List ℕ) → ((i : ℕ) → i < n → Bytes (f i)) → Bytes (records n f)
unfolding records
bytes-records zero f h = λ i. omega arith
bytes-records (suc n) f h =
    bytes-append (records n f) (f n) (bytes-records n f (λ i l. h i (omega arith))) (h n (omega arith))

--------------------------------------------------------------------------------
-- Bytes that are put there

-- m bytes from a on and n bytes from b on do not overlap
abbrev pub Apart : ℕ → ℕ → ℕ → ℕ → Type 0
Apart a m b n = (a + m ≤ b) ⊎ (b + n ≤ a)

module _ (s t : List ℕ) (at : ℕ) (new : List ℕ) (put : Put s t at new) where
  pub put_holds :
      (place : ℕ) (old : List ℕ) → Apart place (length old) at (length new) → Holds s place old → Holds t place old
  put_holds place old (inl apart) h j l = put.rest (place + j) (inl (omega arith)) ∙ h j l
  put_holds place old (inr apart) h j l = put.rest (place + j) (inr (omega arith)) ∙ h j l

  pub put-past : (n : ℕ) → at + length new ≤ n → drop n t ≡ drop n s
  put-past n past =
      ext_get_or 0 (drop n t) (drop n s) (length-drop n t ∙ ap (λ m. m - n) put.long ∙ sym (length-drop n s))
      (λ i h. get_or-drop n t i 0 ∙ put.rest (n + i) (inr (omega arith)) ∙ sym (get_or-drop n s i 0))

pub put_then :
    (s t u : List ℕ) (at next : ℕ) (a b : List ℕ) → Put s t at a → next ≡ at + length a → Put t u next b →
    Put s u at (a ++ b)
put_then s t u at next a b p e q =
    record {
      long = q.long ∙ p.long;
      cells =
          holds-append u at a b next e (put_holds t u next b q at a (inl (omega arith)) p.cells) q.cells;
      rest = λ i o.
          elim o [
            | inl h ↦ q.rest i (inl (omega arith)) ∙ p.rest i (inl h)
            | inr h ↦
                q.rest i (inr (omega (arith, length-append a b)))
                ∙ p.rest i (inr (omega (arith, length-append a b)))
          ];
    }

-- no record, and one record more behind those that were put
pub put-none : (s : List ℕ) (at : ℕ) (f : ℕ → List ℕ) → Put s s at (records 0 f)
unfolding records
put-none s at f = record { long = refl; cells = λ j l. absurd (omega arith); rest = λ i o. refl }

pub put-more :
    (width : ℕ) (f : ℕ → List ℕ) → ((i : ℕ) → length (f i) ≡ width) → (s t u : List ℕ) (at k : ℕ) → Put s t at (records k f) →
    Put t u (at + width * k) (f k) → Put s u at (records (k + 1) f)
unfolding records
put-more width f each s t u at k p q =
    rw (add-one k)
    (put_then s t u at (at + width * k) (records k f) (f k) p (ap (λ (x : ℕ). at + x) (sym (records-length width f each k))) q)
