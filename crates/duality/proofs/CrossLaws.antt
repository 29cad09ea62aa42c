-- Prices moved towards each other. At each node `lo` and `hi` have the sum of p and q, and so have their marks: both bill the same. A row's
-- two nodes are of different sides, so what they cost together lies between what p and q cost there, and no more is left of its weight.
--   lo-on lo-off hi-on hi-off both-sum     lo and hi on either side, and their sum
--   between cross-row cross-turned     what is left of the weight of a row whose card node, or whose shop node, is of side t
--   lo-rising hi-rising    both rise
--   cost-cross             both together cost at most what p and q cost
use mathlib.Core.Path.{◌≡◌, sym, ap, ◌∙◌}
use mathlib.Core.Logic.{inl, inr, ◌≢◌}
use Prim.Native.Nat.{ℕ, ◌+◌, ◌*◌, ◌-◌, min, max, ◌≤◌, ◌<◌}
use native.Mathlib.Nat.{add_comm}
use native.Mathlib.Decide.{ℕ_discrete, dec_le}
use native.Mathlib.Omega.{arith}
use Rattle.theory.specs.Network.{Network}
use Rattle.theory.specs.Formed.{Formed}
use Rattle.theory.specs.Level.{mark, Rising}
use Rattle.theory.proofs.SumLaws.{sum-cong, sum-le, sum-add}
use Rattle.duality.specs.Prices.{side_of, bill, left, cost, lo, hi}
use Rattle.duality.proofs.PriceLaws.{row-sides}
use Rattle.duality.proofs.BlendLaws.{blend_on, blend-off, blend-rising}

module _ (side : ℕ → ℕ) (t d : ℕ) (p q : ℕ → ℕ) (u : ℕ) where
  pub lo-on : side u ≡ t → lo side t d p q u ≡ min (q u) (p u + d)
  unfolding lo
  lo-on e = blend_on side t (λ u. min (q u) (p u + d)) (λ u. max (q u) (p u - d)) u e

  pub lo-off : side u ≢ t → lo side t d p q u ≡ max (q u) (p u - d)
  unfolding lo
  lo-off e = blend-off side t (λ u. min (q u) (p u + d)) (λ u. max (q u) (p u - d)) u e

  pub hi-on : side u ≡ t → hi side t d p q u ≡ max (q u - d) (p u)
  unfolding hi
  hi-on e = blend_on side t (λ u. max (q u - d) (p u)) (λ u. min (q u + d) (p u)) u e

  pub hi-off : side u ≢ t → hi side t d p q u ≡ min (q u + d) (p u)
  unfolding hi
  hi-off e = blend-off side t (λ u. max (q u - d) (p u)) (λ u. min (q u + d) (p u)) u e

  pub both-sum : lo side t d p q u + hi side t d p q u ≡ p u + q u
  both-sum =
      elim (ℕ_discrete (side u) t) [
        | yes e ↦ omega (arith, lo-on e, hi-on e)
        | no e ↦ omega (arith, lo-off e, hi-off e)
      ]

-- two numbers between two others with the same sum
between : (w l h s g : ℕ) → l + h ≡ s + g → s ≤ l → s ≤ h → (w - l) + (w - h) ≤ (w - s) + (w - g)
between w l h s g e i j = omega arith

cross-row :
    (w d px py qx qy : ℕ) →
    (w - (min qx (px + d) + max qy (py - d))) + (w - (max (qx - d) px + min (qy + d) py)) ≤ (w - (px + py)) + (w - (qx + qy))
cross-row w d px py qx qy =
    elim (dec_le (px + py) (qx + qy)) [
      | yes h ↦ between w L H (px + py) (qx + qy) all (low h) (high h)
      | no h ↦ omega (arith, between w L H (qx + qy) (px + py) (omega (arith, all)) (low-turned (omega arith)) (high-turned (omega arith)))
    ]
  where
    L : ℕ
    L = min qx (px + d) + max qy (py - d)

    H : ℕ
    H = max (qx - d) px + min (qy + d) py

    left : min qx (px + d) + max (qx - d) px ≡ px + qx
    left = omega arith

    right : max qy (py - d) + min (qy + d) py ≡ py + qy
    right = omega arith

    all : L + H ≡ (px + py) + (qx + qy)
    all = omega (arith, left, right)

    low : px + py ≤ qx + qy → px + py ≤ L
    low h = elim (dec_le qx (px + d)) [ yes k ↦ omega arith | no k ↦ omega arith ]

    high : px + py ≤ qx + qy → px + py ≤ H
    high h = elim (dec_le qx (px + d)) [ yes k ↦ omega arith | no k ↦ omega arith ]

    low-turned : qx + qy ≤ px + py → qx + qy ≤ L
    low-turned h = elim (dec_le qx (px + d)) [ yes k ↦ omega arith | no k ↦ omega arith ]

    high-turned : qx + qy ≤ px + py → qx + qy ≤ H
    high-turned h = elim (dec_le qx (px + d)) [ yes k ↦ omega arith | no k ↦ omega arith ]

cross-turned :
    (w d px py qx qy : ℕ) →
    (w - (max qy (py - d) + min qx (px + d))) + (w - (min (qy + d) py + max (qx - d) px)) ≤ (w - (py + px)) + (w - (qy + qx))
cross-turned w d px py qx qy =
    rw (add_comm (max qy (py - d)) (min qx (px + d)), add_comm (min (qy + d) py) (max (qx - d) px), add_comm py px, add_comm qy qx)
    (cross-row w d px py qx qy)

module _ (net : Network) (formed : Formed net) where
  open net use {groups as G, parent, rows as n, card as a, shop as b}

  abbrev side : ℕ → ℕ
  side = side_of net

  module _ (t d : ℕ) (p q : ℕ → ℕ) (rp : Rising net p) (rq : Rising net q) where
    pub lo-rising : Rising net (lo side t d p q)
    unfolding lo
    lo-rising =
        blend-rising net formed t (λ u. min (q u) (p u + d)) (λ u. max (q u) (p u - d))
        (record { up = λ v l. omega (arith, rp.up v l, rq.up v l); base = λ u l. omega (arith, rp.base u l, rq.base u l) })
        (record { up = λ v l. omega (arith, rp.up v l, rq.up v l); base = λ u l. omega (arith, rp.base u l, rq.base u l) })

    pub hi-rising : Rising net (hi side t d p q)
    unfolding hi
    hi-rising =
        blend-rising net formed t (λ u. max (q u - d) (p u)) (λ u. min (q u + d) (p u))
        (record { up = λ v l. omega (arith, rp.up v l, rq.up v l); base = λ u l. omega (arith, rp.base u l, rq.base u l) })
        (record { up = λ v l. omega (arith, rp.up v l, rq.up v l); base = λ u l. omega (arith, rp.base u l, rq.base u l) })

    bill-cross :
        (limit : ℕ → ℕ) →
        bill net limit (lo side t d p q) + bill net limit (hi side t d p q) ≡ bill net limit p + bill net limit q
    unfolding bill mark
    bill-cross limit =
        sym (sum-add G (λ v. limit v * mark net (lo side t d p q) v) (λ v. limit v * mark net (hi side t d p q) v))
        ∙ sum-cong G (λ v l. omega (arith, ap (λ x. limit v * x) (node v l)))
        ∙ sum-add G (λ v. limit v * mark net p v) (λ v. limit v * mark net q v)
      where
        node : (v : ℕ) → v < G →
            mark net (lo side t d p q) v + mark net (hi side t d p q) v ≡ mark net p v + mark net q v
        node v l =
            omega (
              arith,
              rp.up v l,
              rq.up v l,
              lo-rising.up v l,
              hi-rising.up v l,
              both-sum side t d p q v,
              both-sum side t d p q (parent v),
            )

    rest-cross : (N : ℕ) → N ≤ n → (w : ℕ → ℕ) → t ≤ 1 →
        left net N w (lo side t d p q) + left net N w (hi side t d p q) ≤ left net N w p + left net N w q
    unfolding left
    rest-cross N m w s =
        omega (
          arith,
          sum-add N (λ c. w c - (lo side t d p q (a c) + lo side t d p q (b c))) (λ c. w c - (hi side t d p q (a c) + hi side t d p q (b c))),
          sum-add N (λ c. w c - (p (a c) + p (b c))) (λ c. w c - (q (a c) + q (b c))),
          sum-le N row,
        )
      where
        row : (c : ℕ) → c < N →
            (w c - (lo side t d p q (a c) + lo side t d p q (b c))) + (w c - (hi side t d p q (a c) + hi side t d p q (b c)))
            ≤ (w c - (p (a c) + p (b c))) + (w c - (q (a c) + q (b c)))
        row c l =
            elim (row-sides net formed t s c (omega arith)) [
              | inl h ↦
                  rw (
                    lo-on side t d p q (a c) h.0,
                    hi-on side t d p q (a c) h.0,
                    lo-off side t d p q (b c) h.1,
                    hi-off side t d p q (b c) h.1,
                  )
                  (cross-row (w c) d (p (a c)) (p (b c)) (q (a c)) (q (b c)))
              | inr h ↦
                  rw (
                    lo-off side t d p q (a c) h.0,
                    hi-off side t d p q (a c) h.0,
                    lo-on side t d p q (b c) h.1,
                    hi-on side t d p q (b c) h.1,
                  )
                  (cross-turned (w c) d (p (b c)) (p (a c)) (q (b c)) (q (a c)))
            ]

    pub cost-cross : (N : ℕ) → N ≤ n → (limit w : ℕ → ℕ) → t ≤ 1 →
        cost net N limit w (lo side t d p q) + cost net N limit w (hi side t d p q)
        ≤ cost net N limit w p + cost net N limit w q
    cost-cross N m limit w s = omega (arith, bill-cross limit, rest-cross N m w s)
