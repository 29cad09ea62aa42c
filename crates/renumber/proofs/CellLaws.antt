-- Laws of the cells between rows, and of how many groups have a number then.
--   way-parent way-top way-large   the cell of a group without a number
--   cell-number cell-way   the cell of a group before row k
--   if-same if-other       a number where two numbers are the same, else 0
--   before-bit next_bit    which groups come before one with the lowest row k, and which have a number after row k
--   up_small               a group is on a way up at most once
--   fresh-zero fresh-own   how many groups from g up have the lowest row k
--   low-counts             row k counts in the groups with the lowest row k
--   number-fresh           the number of a group with the lowest row k, by these counts
--   given-few given-start given-next given-end     how many groups have a number: at the start, after a row, at the end
use mathlib.Core.Path.{◌≡◌, refl, sym, ◌∙◌}
use mathlib.Core.Bool.{◌&&◌, ◌||◌}
use mathlib.Core.Logic.{◌≢◌}
use Prim.Native.Nat.{ℕ, zero, suc, ◌+◌, ◌≤◌, ◌<◌, zero-le}
use native.Mathlib.Decide.{ℕ_discrete, dec_lt}
use native.Mathlib.Omega.{arith}
use lib.Dec.{ltb, leb, eqb}
use borrow.Author.Tests.{lt-ltb, le-ltb, eq-eqb, ne_eqb}
use Rattle.theory.specs.Bounds.{max_groups}
use Rattle.theory.specs.Sum.{pick, same}
use Rattle.theory.proofs.SumLaws.{sum-cong, sum-zero, sum-add, sum-single, sum_bound, same_self, same-ne}
use Rattle.theory.proofs.ForestLaws.{chain-in, chain-small}
use Rattle.claimfile.specs.File.{top}
use Rattle.renumber.specs.Side.{Side, up, lowest, used, bit, used_groups, before, number}
use Rattle.renumber.specs.Numbers.{way_from, given, cell_before, fresh}
use Rattle.renumber.proofs.ChainLaws.{SoundSide, side-down}
use Rattle.renumber.proofs.KeyLaws.{bit-small, bit-one, bit-zero}
use Rattle.renumber.proofs.OrderLaws.{lowest-hit}

--------------------------------------------------------------------------------
-- The cell of a group

module _ (d : Side) (g : ℕ) where
  pub way-parent : d.parent g < d.groups → way_from d g ≡ max_groups + d.parent g
  way-parent l = rw (lt-ltb _ _ l)

  pub way-top : d.groups ≤ d.parent g → way_from d g ≡ top
  way-top h = rw (le-ltb _ _ h)

  pub way-large : max_groups ≤ way_from d g
  way-large =
      elim (dec_lt (d.parent g) d.groups) [
        | yes l ↦ omega (arith, way-parent l)
        | no l ↦ omega (arith, way-top (omega arith))
      ]

  module _ (k : ℕ) where
    pub cell-number : lowest d g < k → cell_before d k g ≡ number d g
    cell-number l = rw (lt-ltb _ _ l)

    pub cell-way : k ≤ lowest d g → cell_before d k g ≡ way_from d g
    cell-way h = rw (le-ltb _ _ h)

--------------------------------------------------------------------------------
-- A lowest row m beside the row k

module _ (m k x : ℕ) where
  if-same : m ≡ k → pick (eqb m k) x 0 ≡ x
  if-same e = rw (eq-eqb _ _ e)

  if-other : m ≢ k → pick (eqb m k) x 0 ≡ 0
  if-other n = rw (ne_eqb _ _ n)

  before-bit : x ≤ 1 → bit (ltb m k || (eqb m k && leb 1 x)) ≡ bit (ltb m k) + pick (eqb m k) x 0
  before-bit small =
      elim (dec_lt m k) [
        | yes l ↦
            let other : m ≢ k = λ e. omega arith in
            rw (lt-ltb _ _ l, ne_eqb _ _ other)
        | no l ↦
            let past : k ≤ m = omega arith in
            elim (ℕ_discrete m k) [
              | yes e ↦ rw (le-ltb _ _ past, eq-eqb _ _ e) (at x small)
              | no n ↦ rw (le-ltb _ _ past, ne_eqb _ _ n)
            ]
      ]
    where
      at : (y : ℕ) → y ≤ 1 → bit (leb 1 y) ≡ 0 + y
      at zero h = refl
      at (suc zero) h = refl
      at (suc (suc y)) h = absurd (omega arith)

  next_bit : (m ≡ k → x ≡ 1) → bit (ltb m (k + 1)) ≡ bit (ltb m k) + pick (eqb m k) x 0
  next_bit one =
      elim (dec_lt m k) [
        | yes l ↦ omega (arith, bit-one m k l, bit-one m (k + 1) (omega arith), if-other (λ e. omega arith))
        | no l ↦
            elim (ℕ_discrete m k) [
              | yes e ↦ omega (arith, one e, bit-zero m k (omega arith), bit-one m (k + 1) (omega arith), if-same e)
              | no n ↦ omega (arith, bit-zero m k (omega arith), bit-zero m (k + 1) (omega arith), if-other n)
            ]
      ]

--------------------------------------------------------------------------------
-- How many groups have a number

module _ {d : Side} (sound : SoundSide d) where
  up_small : (u h : ℕ) → up d u h ≤ 1
  up_small = chain-small d.groups d.parent (side-down sound)

  module _ (k : ℕ) where
    -- x where group h has the lowest row k, else 0
    abbrev if_low : ℕ → ℕ → ℕ
    if_low h x = pick (eqb (lowest d h) k) x 0

    pub fresh-zero : (u : ℕ) → ((h : ℕ) → 1 ≤ up d u h → lowest d h ≢ k) → fresh d k u ≡ 0
    unfolding fresh
    fresh-zero u none = sum-cong d.groups {g = λ h. 0} at ∙ sum-zero d.groups
      where
        at : (h : ℕ) → h < d.groups → if_low h (up d u h) ≡ 0
        at h l =
            elim (ℕ_discrete (lowest d h) k) [
              | yes e ↦
                  elim (dec_lt (up d u h) 1) [
                    | yes m ↦ omega (arith, if-same (lowest d h) k (up d u h) e)
                    | no m ↦ absurd (none h (omega arith) e)
                  ]
              | no e ↦ if-other (lowest d h) k (up d u h) e
            ]

    pub fresh-own : (g : ℕ) → g < d.groups → lowest d g ≡ k → fresh d k g ≡ fresh d k (d.parent g) + 1
    unfolding fresh
    fresh-own g inside e =
        omega (
          arith,
          sum-cong d.groups split,
          sum-add d.groups (λ h. if_low h (same g h)) (λ h. if_low h (up d (d.parent g) h)),
          sum-single d.groups g {f = λ h. if_low h (same g h)} inside other,
          if-same (lowest d g) k (same g g) e,
          same_self g,
        )
      where
        split : (h : ℕ) → h < d.groups → if_low h (up d g h) ≡ if_low h (same g h) + if_low h (up d (d.parent g) h)
        split h l =
            elim (ℕ_discrete (lowest d h) k) [
              | yes q ↦ rw (eq-eqb _ _ q) (chain-in d.groups d.parent (side-down sound) g h inside)
              | no q ↦ rw (ne_eqb _ _ q)
            ]

        other : (h : ℕ) → h < d.groups → h ≢ g → if_low h (same g h) ≡ 0
        other h l n =
            elim (ℕ_discrete (lowest d h) k) [
              | yes q ↦ if-same (lowest d h) k (same g h) q ∙ same-ne g h (λ x. n (sym x))
              | no q ↦ if-other (lowest d h) k (same g h) q
            ]

    -- before g come the groups with a lower lowest row, and those above g with the same
    pub number-fresh : (g : ℕ) → lowest d g ≡ k → number d g ≡ given d k + fresh d k (d.parent g)
    unfolding number before given fresh
    number-fresh g e =
        sum-cong d.groups {g = λ h. bit (ltb (lowest d h) k) + if_low h (up d (d.parent g) h)}
        (λ h l. rw e (before-bit (lowest d h) k (up d (d.parent g) h) (up_small (d.parent g) h)))
        ∙ sum-add d.groups (λ h. bit (ltb (lowest d h) k)) (λ h. if_low h (up d (d.parent g) h))

    module _ (row : k < d.rows) where
      pub low-counts : (h : ℕ) → lowest d h ≡ k → up d (d.names k) h ≡ 1
      low-counts h e = omega (arith, up_small (d.names k) h, hit)
        where
          hit : 1 ≤ up d (d.names k) h
          hit = rw e at (lowest-hit d h (omega arith))

      pub given-next : given d (k + 1) ≡ given d k + fresh d k (d.names k)
      unfolding given fresh
      given-next =
          sum-cong d.groups (λ h l. next_bit (lowest d h) k (up d (d.names k) h) (low-counts h))
          ∙ sum-add d.groups (λ h. bit (ltb (lowest d h) k)) (λ h. if_low h (up d (d.names k) h))

module _ (d : Side) where
  pub given-few : (k : ℕ) → given d k ≤ d.groups
  unfolding given
  given-few k =
      omega (
        arith,
        sum_bound d.groups 1 {f = λ h. bit (ltb (lowest d h) k)} (λ h l. bit-small (ltb (lowest d h) k)),
      )

  pub given-start : given d 0 ≡ 0
  unfolding given
  given-start = sum-cong d.groups {g = λ h. 0} (λ h l. bit-zero (lowest d h) 0 zero-le) ∙ sum-zero d.groups

  pub given-end : given d d.rows ≡ used_groups d
  unfolding given used
  given-end = refl
