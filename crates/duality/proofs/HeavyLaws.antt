-- Prices for the weights `heavy K` hold both aims at once: cut at the weight of an ordinary row they are prices for the earned rows alone, and
-- K times these are prices for `heavy K` again, with a toll of 1. Prices without a toll, moved to within 1 of such ones, stay level.
--   thr-0 thr-1            the threshold on the card side, and on the shop side
--   near_on near-off       prices that were moved, on a side and on the other
--   heavy-sum              what a choice weighs, by its two counts
--   best-level             a choice with the most earned rows and then the most rows is level with some prices
--   thr-level              with these cut, for the earned rows alone
--   times                  and with K times those
--   near-level             and so with prices that were moved
use mathlib.Core.Path.{◌≡◌, ap, ◌∙◌}
use mathlib.Core.Logic.{inl, inr, ◌≢◌}
use Prim.Native.Nat.{ℕ, suc, ◌+◌, ◌*◌, ◌-◌, min, max, ◌≤◌, ◌<◌}
use native.Mathlib.Nat.{mul-le-mul_left}
use native.Mathlib.Decide.{ℕ_discrete}
use native.Mathlib.Omega.{arith}
use Rattle.theory.specs.Sum.{sum}
use Rattle.theory.specs.Network.{Network, Choice}
use Rattle.theory.specs.Formed.{Formed}
use Rattle.theory.specs.Level.{Level}
use Rattle.theory.proofs.SumLaws.{sum-cong, sum_bound, sum-add, sum-mul-left}
use Rattle.duality.specs.Prices.{up_to, side_of}
use Rattle.duality.specs.Heavy.{earned, Most, heavy, threshold, near}
use Rattle.duality.proofs.PriceLaws.{card-side, shop-side, row-sides, rise, meets}
use Rattle.duality.proofs.BlendLaws.{blend_on, blend-off, blend-along, blend-rising}
use Rattle.duality.proofs.StrongLaws.{priced}

module _ (side : ℕ → ℕ) (K : ℕ) (p : ℕ → ℕ) (u : ℕ) where
  thr-0 : side u ≡ 0 → threshold side K p u ≡ min 1 (p u - 1)
  unfolding threshold
  thr-0 h = blend_on side 0 (λ u. min 1 (p u - 1)) (λ u. min 1 (p u - (K - 1))) u h

  thr-1 : side u ≢ 0 → threshold side K p u ≡ min 1 (p u - (K - 1))
  unfolding threshold
  thr-1 h = blend-off side 0 (λ u. min 1 (p u - 1)) (λ u. min 1 (p u - (K - 1))) u h

module _ (side : ℕ → ℕ) (t : ℕ) (p q : ℕ → ℕ) (u : ℕ) where
  pub near_on : side u ≡ t → near side t p q u ≡ min (p u) (q u + 1)
  unfolding near
  near_on h = blend_on side t (λ u. min (p u) (q u + 1)) (λ u. max (p u) (q u)) u h

  pub near-off : side u ≢ t → near side t p q u ≡ max (p u) (q u)
  unfolding near
  near-off h = blend-off side t (λ u. min (p u) (q u + 1)) (λ u. max (p u) (q u)) u h

pub heavy-sum : (e : ℕ → ℕ) (K N : ℕ) (X : ℕ → ℕ) → sum N (λ c. X c * heavy K e c) ≡ K * earned N e X + sum N X
unfolding heavy earned
heavy-sum e K N X =
    sum-cong N (λ c l. omega arith)
    ∙ sum-add N (λ c. K * (X c * e c)) X
    ∙ ap (λ s. s + sum N X) (sum-mul-left N K (λ c. X c * e c))

module _ (net : Network) (formed : Formed net) (limit e : ℕ → ℕ) (bit : (c : ℕ) → c < net.rows → e c ≤ 1) where
  open net use {rows as n, card as a, shop as b}

  abbrev side : ℕ → ℕ
  side = side_of net

  pub best-level :
      (K N : ℕ) → N < K → N ≤ n → (X : ℕ → ℕ) → Most net N limit e X →
      (p : ℕ → ℕ) × Level (up_to net N) limit (heavy K e) p 0 X
  best-level K N big m X best =
      let s = priced net formed (heavy K e) N m limit in (
        s.p,
        meets net formed N (omega arith) limit (heavy K e) s.p X s.rising best.choice
            (omega (arith, s.meet, heavier s.X s.choice)),
      )
    where
      heavier : (Y : ℕ → ℕ) → Choice (up_to net N) limit Y → sum N (λ c. Y c * heavy K e c) ≤ sum N (λ c. X c * heavy K e c)
      heavier Y ch =
          elim (best.most Y ch) [
            | inl h ↦
                omega (
                  arith,
                  heavy-sum e K N X,
                  heavy-sum e K N Y,
                  mul-le-mul_left {m = suc (earned N e Y)} K h,
                  sum_bound N 1 ch.bits,
                )
            | inr h ↦ omega (arith, heavy-sum e K N X, heavy-sum e K N Y, ap (λ x. K * x) h.0, h.1)
          ]

  module _ (K N : ℕ) (big : 2 ≤ K) (m : N ≤ n) (X : ℕ → ℕ) where
    -- the earned rows alone
    pub thr-level :
        (p : ℕ → ℕ) → Level (up_to net N) limit (heavy K e) p 0 X → Level (up_to net N) limit e (threshold side K p) 0 X
    unfolding heavy threshold
    thr-level p k =
        record {
          choice = k.choice;
          rising =
              rise net n N (threshold side K p)
              (blend-rising net formed 0 first second
              (record { up = λ v l. omega (arith, k.rising.up v l); base = λ u l. omega (arith, k.rising.base u l) })
              (record { up = λ v l. omega (arith, k.rising.up v l); base = λ u l. omega (arith, k.rising.base u l) }));
          free = λ v l s.
              blend-along net formed 0 first second v l (ap (λ x. min 1 (x - 1)) (k.free v l s))
              (ap (λ x. min 1 (x - (K - 1))) (k.free v l s));
          out = λ c l z.
              omega (arith, card c l, shop c l, bit c (omega arith), outer (e c) (p (a c)) (p (b c)) (bit c (omega arith)) (k.out c l z));
          kept = λ c l z.
              omega (arith, card c l, shop c l, inner (e c) (p (a c)) (p (b c)) (bit c (omega arith)) (k.kept c l z));
        }
      where
        -- the threshold on the card side, and on the shop side
        first : ℕ → ℕ
        first u = min 1 (p u - 1)

        second : ℕ → ℕ
        second u = min 1 (p u - (K - 1))

        card : (c : ℕ) → c < N → threshold side K p (a c) ≡ min 1 (p (a c) - 1)
        card c l = thr-0 side K p (a c) (card-side net formed c (omega arith))

        shop : (c : ℕ) → c < N → threshold side K p (b c) ≡ min 1 (p (b c) - (K - 1))
        shop c l = thr-1 side K p (b c) (λ j. omega (arith, shop-side net formed c (omega arith)))

        outer : (i x y : ℕ) → i ≤ 1 → K * i + 1 ≤ x + y + 0 → i ≤ min 1 (x - 1) + min 1 (y - (K - 1))
        outer i x y s h =
            elim (ℕ_discrete i 0) [
              | yes d ↦ omega arith
              | no d ↦
                  let o : i ≡ 1 = omega arith in
                  omega (arith, ap (λ t. K * t) o)
            ]

        inner : (i x y : ℕ) → i ≤ 1 → x + y + 0 ≤ K * i + 1 → min 1 (x - 1) + min 1 (y - (K - 1)) ≤ i
        inner i x y s h =
            elim (ℕ_discrete i 0) [
              | yes d ↦ omega (arith, ap (λ t. K * t) d)
              | no d ↦
                  let o : i ≡ 1 = omega arith in
                  omega (arith, ap (λ t. K * t) o)
            ]

    -- the same prices, K times, with a toll of 1
    pub times : (f : ℕ → ℕ) → Level (up_to net N) limit e f 0 X → Level (up_to net N) limit (heavy K e) (λ u. K * f u) 1 X
    unfolding heavy
    times f k =
        record {
          choice = k.choice;
          rising = record {
            up = λ v l. mul-le-mul_left K (k.rising.up v l);
            base = λ u l. omega (arith, ap (λ x. K * x) (k.rising.base u l));
          };
          free = λ v l s. ap (λ x. K * x) (k.free v l s);
          out = λ c l z. omega (arith, mul-le-mul_left K (k.out c l z));
          kept = λ c l z. omega (arith, mul-le-mul_left K (k.kept c l z));
        }

    -- prices without toll, moved towards prices with a toll of 1
    pub near-level :
        (w p q : ℕ → ℕ) (t : ℕ) → t ≤ 1 → Level (up_to net N) limit w p 0 X → Level (up_to net N) limit w q 1 X →
        Level (up_to net N) limit w (near side t p q) 0 X
    unfolding near
    near-level w p q t s k j =
        record {
          choice = k.choice;
          rising =
              rise net n N (near side t p q)
              (blend-rising net formed t down up
              (record {
                up = λ v l. omega (arith, k.rising.up v l, j.rising.up v l);
                base = λ u l. omega (arith, k.rising.base u l, j.rising.base u l);
              })
              (record {
                up = λ v l. omega (arith, k.rising.up v l, j.rising.up v l);
                base = λ u l. omega (arith, k.rising.base u l, j.rising.base u l);
              }));
          free = λ v l h.
              blend-along net formed t down up v l (omega (arith, k.free v l h, j.free v l h)) (omega (arith, k.free v l h, j.free v l h));
          out = λ c l z.
              elim (row-sides net formed t s c (omega arith)) [
                | inl h ↦ omega (arith, k.out c l z, j.out c l z, near_on side t p q (a c) h.0, near-off side t p q (b c) h.1)
                | inr h ↦ omega (arith, k.out c l z, j.out c l z, near-off side t p q (a c) h.0, near_on side t p q (b c) h.1)
              ];
          kept = λ c l z.
              elim (row-sides net formed t s c (omega arith)) [
                | inl h ↦ omega (arith, k.kept c l z, j.kept c l z, near_on side t p q (a c) h.0, near-off side t p q (b c) h.1)
                | inr h ↦ omega (arith, k.kept c l z, j.kept c l z, near-off side t p q (a c) h.0, near_on side t p q (b c) h.1)
              ];
        }
      where
        -- on side t, and on the other
        down : ℕ → ℕ
        down u = min (p u) (q u + 1)

        up : ℕ → ℕ
        up u = max (p u) (q u)
