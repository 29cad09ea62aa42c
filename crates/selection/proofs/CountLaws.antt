-- Laws of counting the kept rows.
--   count_none count_next count_most   the numbers below n that pass a test: none, one number more, at most n
--   byte-pick                      a test as a number
--   counted_none                   no row is counted
--   counted-out counted-in         one row more: it is left out, or kept
--   kept-rows-size kept-of-kept    in a selection of bits the kept rows are its size, and those of a kind theory's `kept`
use mathlib.Core.Path.{◌≡◌, refl, sym, ap}
use mathlib.Core.Bool.{Bool, true, false, ◌&&◌}
use mathlib.Core.List.{List}
use mathlib.Core.Logic.{◌≢◌}
use Prim.Native.Nat.{ℕ, ◌+◌, ◌*◌, ◌≤◌}
use native.Mathlib.Decide.{ℕ_discrete}
use native.Mathlib.Omega.{arith}
use lib.Dec.{eqb}
use mir.Val.{bool_byte}
use borrow.Author.Tests.{eq-eqb, ne_eqb}
use Rattle.theory.specs.Sum.{pick, sum, same}
use Rattle.theory.specs.Incidence.{Selection, size}
use Rattle.theory.specs.Matroid.{row}
use Rattle.theory.specs.Priority.{kept}
use Rattle.theory.proofs.SumLaws.{sum-cong, sum-next, sum_bound, same-eq, same-ne}
use Rattle.claimfile.specs.declared.Layout.{Layout}
use Rattle.claimfile.specs.Day.{kind_of}
use Rattle.selection.specs.declared.Counts.{Counts}
use Rattle.selection.specs.Selection.{is_kept, count, kept_rows, kept_of, Counted}

--------------------------------------------------------------------------------
-- Numbers that pass a test

pub count_none : (test : ℕ → Bool) → 0 ≡ count 0 test
unfolding count sum
count_none test = refl

pub count_next : (n : ℕ) (test : ℕ → Bool) → count (n + 1) test ≡ count n test + pick (test n) 1 0
unfolding count
count_next n test = sum-next n (λ c. pick (test c) 1 0)

one-most : (b : Bool) → pick b 1 0 ≤ 1
one-most true = omega arith
one-most false = omega arith

pub count_most : (n : ℕ) (test : ℕ → Bool) → count n test ≤ n
unfolding count
count_most n test = omega (arith, sum_bound n 1 {f = λ c. pick (test c) 1 0} (λ c l. one-most (test c)))

-- a test as a number is 1 where it holds, else 0
pub byte-pick : (b : Bool) → bool_byte b ≡ pick b 1 0
byte-pick true = refl
byte-pick false = refl

--------------------------------------------------------------------------------
-- Row by row

module _ (s : List ℕ) (l : Layout) (k : ℕ) (sel : List ℕ) where
  -- whether a row is kept and of the kind
  abbrev test : ℕ → Bool
  test c = is_kept sel c && eqb (kind_of s l c) k

  pub counted_none : Counted s l k 0 sel (record { matched = 0; kept = 0 })
  counted_none = record {
    matched = count_none test;
    kept = count_none (is_kept sel);
    part = omega arith;
    few = omega arith;
  }

  module _ (n : ℕ) (r : Counts) (so_far : Counted s l k n sel r) where
    pub counted-out : row sel n ≢ 1 → Counted s l k (n + 1) sel r
    counted-out out =
        let no : is_kept sel n ≡ false = ne_eqb (row sel n) 1 out in
        let no-match : pick {A = ℕ} (test n) 1 0 ≡ 0 = ap (λ (b : Bool). pick {A = ℕ} (b && eqb (kind_of s l n) k) 1 0) no in
        let not-kept : pick {A = ℕ} (is_kept sel n) 1 0 ≡ 0 = ap (λ (b : Bool). pick {A = ℕ} b 1 0) no in
        record {
          matched = omega (arith, so_far.matched, count_next n test, no-match);
          kept = omega (arith, so_far.kept, count_next n (is_kept sel), not-kept);
          part = so_far.part;
          few = omega (arith, so_far.few);
        }

    pub counted-in :
        row sel n ≡ 1 → (a : Counts) → a.matched ≡ r.matched + pick (eqb (kind_of s l n) k) 1 0 → a.kept ≡ r.kept + 1 →
        Counted s l k (n + 1) sel a
    counted-in in-it a more-matched more-kept =
        let yes-it-is : is_kept sel n ≡ true = eq-eqb (row sel n) 1 in-it in
        let by_kind : pick {A = ℕ} (test n) 1 0 ≡ pick (eqb (kind_of s l n) k) 1 0 =
        ap (λ (b : Bool). pick {A = ℕ} (b && eqb (kind_of s l n) k) 1 0) yes-it-is in
        let one : pick {A = ℕ} (is_kept sel n) 1 0 ≡ 1 = ap (λ (b : Bool). pick {A = ℕ} b 1 0) yes-it-is in
        record {
          matched = omega (arith, more-matched, so_far.matched, count_next n test, by_kind);
          kept = omega (arith, more-kept, so_far.kept, count_next n (is_kept sel), one);
          part = omega (arith, more-matched, more-kept, so_far.part, one-most (eqb (kind_of s l n) k));
          few = omega (arith, more-kept, so_far.few);
        }

--------------------------------------------------------------------------------
-- In a selection of bits

-- x is a row's byte
one-turn : (x : ℕ) → x ≤ 1 → pick (eqb x 1) 1 0 ≡ x
one-turn x h =
    elim (ℕ_discrete x 1) [
      | yes e ↦ rw (eq-eqb x 1 e) (sym e)
      | no n ↦ rw (ne_eqb x 1 n) (omega arith)
    ]

-- x is a row's byte, and y its kind
kind-turn : (x y k : ℕ) → x ≤ 1 → pick (eqb x 1 && eqb y k) 1 0 ≡ x * same y k
kind-turn x y k h =
    elim (ℕ_discrete x 1) [
      | yes e ↦
          elim (ℕ_discrete y k) [
            | yes f ↦ rw (eq-eqb x 1 e, eq-eqb y k f, same-eq y k f) (omega arith)
            | no n ↦ rw (eq-eqb x 1 e, ne_eqb y k n, same-ne y k n) (omega arith)
          ]
      | no n ↦
          let z : x ≡ 0 = omega arith in
          rw (ne_eqb x 1 n) (omega (arith, ap (λ (m : ℕ). m * same y k) z))
    ]

module _ (n : ℕ) (sel : List ℕ) (bits : Selection n (row sel)) where
  pub kept-rows-size : kept_rows n sel ≡ size n (row sel)
  unfolding count
  kept-rows-size = sum-cong n (λ c h. one-turn (row sel c) (bits c h))

  pub kept-of-kept : (s : List ℕ) (l : Layout) (k : ℕ) → kept_of s l k n sel ≡ kept n (kind_of s l) (row sel) k
  unfolding count kept
  kept-of-kept s l k = sum-cong n (λ c h. kind-turn (row sel c) (kind_of s l c) k (bits c h))
