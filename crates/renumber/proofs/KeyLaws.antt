-- Laws of the lowest number that passes a test, and of numbers that stand in the order of a key.
--   first-hit first-least  the lowest number passes the test, and no lower one does
--   pair n a g             two numbers as one, where the second is below n
--   pair-lower pair-less less-pair pair-apart      pairs are in order by the first number and then by the second
--   bit-small bit-one bit-zero     a test as a number, and a comparison
--   below n key k          how many numbers below n have a key below k
--   below-most below_more  a larger k has as many, and more where a key lies between
--   below_holds            where no two keys are the same, each count below that of k is the count of a key below k
use mathlib.Core.Path.{◌≡◌, refl, sym, ap, ◌∙◌}
use mathlib.Core.Bool.{Bool, true, false, false≢true}
use mathlib.Core.Logic.{◌⊎◌, inl, inr, ◌≢◌}
use Prim.Native.Nat.{ℕ, zero, suc, ◌+◌, ◌*◌, ◌≤◌, ◌<◌, zero-le}
use native.Mathlib.Nat.{le_refl, mul-le-mul_left}
use native.Mathlib.Decide.{ℕ_discrete, dec_lt}
use native.Mathlib.Omega.{arith}
use lib.Dec.{ltb}
use borrow.Author.Tests.{lt-ltb, le-ltb}
use Rattle.theory.specs.Sum.{pick, sum}
use Rattle.theory.proofs.SumLaws.{sum-cong, sum-zero, sum-le, sum_lt, sum-change}
use Rattle.theory.proofs.TestLaws.{find}
use Rattle.renumber.specs.Side.{first, bit}

pub first-hit : (n : ℕ) (t : ℕ → Bool) → first n t < n → t (first n t) ≡ true
unfolding first
first-hit zero t l = absurd (omega arith)
first-hit (suc n) t l = go (t 0) refl (first-hit n (λ i. t (suc i))) l
  where
    go :
        {p : ℕ} (b : Bool) → t 0 ≡ b → (p < n → t (suc p) ≡ true) → pick b 0 (suc p) < suc n →
        t (pick b 0 (suc p)) ≡ true
    go true e f l = e
    go false e f l = f (omega arith)

pub first-least : (n : ℕ) (t : ℕ → Bool) (i : ℕ) → i < n → t i ≡ true → first n t ≤ i
unfolding first
first-least zero t i l e = absurd (omega arith)
first-least (suc n) t i l e = go (t 0) refl (first-least n (λ i. t (suc i))) i l e
  where
    go :
        {p : ℕ} (b : Bool) → t 0 ≡ b → ((i : ℕ) → i < n → t (suc i) ≡ true → p ≤ i) →
        (i : ℕ) → i < suc n → t i ≡ true → pick b 0 (suc p) ≤ i
    go true e f i l q = zero-le
    go false e f zero l q = absurd (false≢true (sym e ∙ q))
    go false e f (suc i) l q = omega (arith, f i (omega arith) q)

--------------------------------------------------------------------------------
-- Two numbers as one

abbrev pub pair : ℕ → ℕ → ℕ → ℕ
pair n a g = n * a + g

module _ (n a b g h : ℕ) where
  pub pair-lower : g < n → a < b → pair n a g < pair n b h
  pair-lower inside l = omega (arith, mul-le-mul_left n l)

  pub pair-less : g < n → (a < b) ⊎ ((a ≡ b) × (g < h)) → pair n a g < pair n b h
  pair-less inside (inl l) = pair-lower inside l
  pair-less inside (inr q) = omega (arith, ap (λ (x : ℕ). n * x) q.0, q.1)

module _ (n a b g h : ℕ) where
  pub less-pair : h < n → pair n a g < pair n b h → (a < b) ⊎ ((a ≡ b) × (g < h))
  less-pair inside l =
      elim (dec_lt a b) [
        | yes m ↦ inl m
        | no m ↦
            elim (ℕ_discrete a b) [
              | yes e ↦ inr (e, omega (arith, ap (λ (x : ℕ). n * x) e))
              | no e ↦ absurd (omega (arith, pair-lower n b a h g inside (omega arith)))
            ]
      ]

  pub pair-apart : g < n → h < n → pair n a g ≡ pair n b h → g ≡ h
  pair-apart inside inside' e =
      elim (ℕ_discrete a b) [
        | yes same ↦ omega (arith, ap (λ (x : ℕ). n * x) same)
        | no other ↦
            elim (dec_lt a b) [
              | yes l ↦ absurd (omega (arith, pair-lower n a b g h inside l))
              | no l ↦ absurd (omega (arith, pair-lower n b a h g inside' (omega arith)))
            ]
      ]

--------------------------------------------------------------------------------
-- How many keys are lower

pub bit-small : (b : Bool) → bit b ≤ 1
bit-small true = le_refl 1
bit-small false = zero-le

pub bit-one : (a b : ℕ) → a < b → bit (ltb a b) ≡ 1
bit-one a b h = rw (lt-ltb _ _ h)

pub bit-zero : (a b : ℕ) → b ≤ a → bit (ltb a b) ≡ 0
bit-zero a b h = rw (le-ltb _ _ h)

bit-most : (k m : ℕ) → k ≤ m → (a : ℕ) → bit (ltb a k) ≤ bit (ltb a m)
bit-most k m least a =
    elim (dec_lt a k) [
      | yes h ↦ omega (arith, bit-one a k h, bit-one a m (omega arith))
      | no h ↦ omega (arith, bit-zero a k (omega arith))
    ]

bit-other : (a k : ℕ) → a ≢ k → bit (ltb a (suc k)) ≡ bit (ltb a k)
bit-other a k other =
    elim (dec_lt a k) [
      | yes h ↦ bit-one a (suc k) (omega arith) ∙ sym (bit-one a k h)
      | no h ↦ bit-zero a (suc k) (omega arith) ∙ sym (bit-zero a k (omega arith))
    ]

unfoldable pub below : ℕ → (ℕ → ℕ) → ℕ → ℕ
below n key k = sum n (λ g. bit (ltb (key g) k))

module _ (n : ℕ) (key : ℕ → ℕ) where
  pub below-most : (k m : ℕ) → k ≤ m → below n key k ≤ below n key m
  unfolding below
  below-most k m least = sum-le n (λ g l. bit-most k m least (key g))

  pub below_more : (k m : ℕ) → k ≤ m → (g : ℕ) → g < n → k ≤ key g → key g < m → below n key k < below n key m
  unfolding below
  below_more k m least g l out into =
      sum_lt n g (λ f h. bit-most k m least (key f)) l (omega (arith, bit-zero (key g) k out, bit-one (key g) m into))

  below_none : below n key 0 ≡ 0
  unfolding below
  below_none = sum-cong n {g = λ g. 0} (λ g l. bit-zero (key g) 0 zero-le) ∙ sum-zero n

  below-same : (k : ℕ) → ((g : ℕ) → g < n → key g ≢ k) → below n key (suc k) ≡ below n key k
  unfolding below
  below-same k other = sum-cong n (λ g l. bit-other (key g) k (other g l))

  module _ (apart : (g h : ℕ) → g < n → h < n → key g ≡ key h → g ≡ h) where
    below_next : (g : ℕ) → g < n → below n key (suc (key g)) ≡ suc (below n key (key g))
    unfolding below
    below_next g l =
        omega (
          arith,
          sum-change n g {f = λ h. bit (ltb (key h) (suc (key g)))} {g = λ h. bit (ltb (key h) (key g))} l
              (λ h m e. bit-other (key h) (key g) (λ q. e (apart h g m l q))),
          bit-zero (key g) (key g) (omega arith),
          bit-one (key g) (suc (key g)) (omega arith),
        )

    -- the counts rise by one where a key is k, and by none elsewhere
    pub below_holds :
        (k i : ℕ) → i < below n key k → (g : ℕ) × (g < n) × (key g < k) × (below n key (key g) ≡ i)
    below_holds zero i h = absurd (omega (arith, below_none))
    below_holds (suc k) i h =
        elim (dec_lt i (below n key k)) [
          | yes m ↦
              let q = below_holds k i m in
              (q.0, q.1, omega (arith, q.2), q.3)
          | no m ↦
              elim (find n (λ g. key g ≡ k) (λ g. key g ≢ k)
              (λ g l. elim (ℕ_discrete (key g) k) [ yes e ↦ inl e | no e ↦ inr e ])) [
                | inl q ↦ (q.0, q.1, omega (arith, q.2), here q.0 q.1 q.2 (omega arith))
                | inr q ↦ absurd (omega (arith, below-same k q))
              ]
        ]
      where
        here : (g : ℕ) → g < n → key g ≡ k → below n key k ≤ i → below n key (key g) ≡ i
        here g l e m = omega (arith, below_next g l, ap (below n key) e, ap (λ x. below n key (suc x)) e)
