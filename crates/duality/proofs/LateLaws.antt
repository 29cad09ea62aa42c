-- One row more, at the end: each count of a best choice moves by at most one. Let X be a best choice of the first N rows, Y one of N + 1 rows. X
-- fits with the new row left out, and Y without the new row fits the first N rows: that settles both counts where Y has no earned new row.
-- Else both are weighed by one `heavy K`, with K = N + 2. Where the earned count stays, prices of X are moved until the new row costs K at
-- least, so that the others of Y weigh that much less than X. Where it rises, prices of Y are moved until the new row costs 2 at most, so
-- that K - 1 of its weight is left, and X weighs that much less than Y.
--   count_next shorter longer  a choice of N + 1 rows, and one of N
--   stays                  where the earned count stays, at most one row comes in
--   rises                  where it rises, at most one row goes out
--   late                   all of it
use mathlib.Core.Path.{◌≡◌, refl, sym, ap, ap₂, ◌∙◌}
use mathlib.Core.Logic.{◌⊎◌, inl, inr, ◌≢◌}
use Prim.Native.Nat.{ℕ, suc, ◌+◌, ◌*◌, ◌-◌, ◌≤◌, ◌<◌}
use native.Mathlib.Nat.{mul-le-mul_left}
use native.Mathlib.Decide.{ℕ_discrete, dec_lt}
use native.Mathlib.Omega.{arith}
use Rattle.theory.specs.Sum.{sum}
use Rattle.theory.specs.Forest.{chain}
use Rattle.theory.specs.Network.{Network, Choice}
use Rattle.theory.specs.Formed.{Formed}
use Rattle.theory.specs.Level.{count, Level}
use Rattle.theory.proofs.NetworkLaws.{both-fits}
use Rattle.duality.specs.Prices.{up_to, side_of, left}
use Rattle.duality.specs.Heavy.{earned, Most, OneApart, heavy, threshold, near}
use Rattle.duality.proofs.PriceLaws.{card-side, shop-side, count-is, rise, choice-fits, paid, worth, under, meets, level}
use Rattle.duality.proofs.HeavyLaws.{near_on, near-off, heavy-sum, best-level, thr-level, times, near-level}

module _ (net : Network) (formed : Formed net) (limit e : ℕ → ℕ) (bit : (c : ℕ) → c < net.rows → e c ≤ 1) where
  open net use {groups as G, parent, rows as n, card as a, shop as b}

  abbrev side : ℕ → ℕ
  side = side_of net

  count_next : (N : ℕ) (X : ℕ → ℕ) (v : ℕ) →
      count (up_to net (suc N)) X v ≡ count (up_to net N) X v + X N * (chain G parent (a N) v + chain G parent (b N) v)
  unfolding sum
  count_next N X v =
      count-is net (suc N) X v
      ∙ ap (λ s. s + X N * (chain G parent (a N) v + chain G parent (b N) v)) (sym (count-is net N X v))

  shorter :
      (N : ℕ) → suc N ≤ n → (X : ℕ → ℕ) → Choice (up_to net (suc N)) limit X → Choice (up_to net N) limit X
  shorter N m X ch =
      record {
        bits = λ c l. ch.bits c (omega arith);
        fits =
            both-fits (up_to net N) limit X
            (λ v l. omega (arith, choice-fits net formed (suc N) m limit X ch v l, count_next N X v));
      }

  longer :
      (N : ℕ) → suc N ≤ n → (X : ℕ → ℕ) → X N ≡ 0 → Choice (up_to net N) limit X → Choice (up_to net (suc N)) limit X
  longer N m X z ch =
      record {
        bits = λ c l. elim (ℕ_discrete c N) [ yes d ↦ omega (arith, ap X d) | no d ↦ ch.bits c (omega arith) ];
        fits =
            both-fits (up_to net (suc N)) limit X
            (λ v l.
            omega (
              arith,
              choice-fits net formed N (omega arith) limit X ch v l,
              count_next N X v,
              ap (λ x. x * (chain G parent (a N) v + chain G parent (b N) v)) z,
            ));
      }

  module _ (N : ℕ) (m : suc N ≤ n) (X Y : ℕ → ℕ) (out : X N ≡ 0)
      (old : Most net N limit e X) (new : Most net (suc N) limit e Y)
    where
      -- one weight for both numbers of rows
      K : ℕ
      K = N + 2

      old-prices : (p : ℕ → ℕ) × Level (up_to net N) limit (heavy K e) p 0 X
      unfolding K
      old-prices = best-level net formed limit e bit K N (omega arith) (omega arith) X old

      new-prices : (p : ℕ → ℕ) × Level (up_to net (suc N)) limit (heavy K e) p 0 Y
      unfolding K
      new-prices = best-level net formed limit e bit K (suc N) (omega arith) m Y new

      earned-next : (Z : ℕ → ℕ) → earned (suc N) e Z ≡ earned N e Z + Z N * e N
      unfolding earned sum
      earned-next Z = refl

      sum-suc : (f : ℕ → ℕ) → sum (suc N) f ≡ sum N f + f N
      unfolding sum
      sum-suc f = refl

      earned-old : earned (suc N) e X ≡ earned N e X
      earned-old = omega (arith, earned-next X, ap (λ x. x * e N) out)

      rest-next : (w p : ℕ → ℕ) → left net (suc N) w p ≡ left net N w p + (w N - (p (a N) + p (b N)))
      unfolding left sum
      rest-next w p = refl

      -- where the earned count stays, at most one row comes in. f is a sheet of Y's for the earned rows alone: X is level with it too, and it
      -- covers the new row
      stays : earned (suc N) e Y ≡ earned N e X → Y N ≡ 1 → e N ≡ 1 → sum (suc N) Y ≤ sum N X + 1
      unfolding K heavy earned
      stays h y o =
          elim (dec_lt (f (a N)) 1) [
            | yes s ↦ gain 0 (omega arith)
                (omega (
                  arith,
                  some,
                  near-off side 0 p (λ u. K * f u) (b N) (λ i. omega (arith, shop-side net formed N m)),
                  mul-le-mul_left {m = 1} K (shopful s),
                ))
            | no s ↦ gain 1 (omega arith)
                (omega (
                  arith,
                  near-off side 1 p (λ u. K * f u) (a N) (λ i. omega (arith, card-side net formed N m)),
                  mul-le-mul_left {m = 1} K (cardful s),
                ))
          ]
        where
          p : ℕ → ℕ
          p = old-prices.0

          lp : Level (up_to net N) limit (heavy K e) p 0 X
          lp = old-prices.1

          f : ℕ → ℕ
          f = threshold side K new-prices.0

          l_y : Level (up_to net (suc N)) limit e f 0 Y
          l_y = thr-level net formed limit e bit K (suc N) (omega arith) m Y new-prices.0 new-prices.1

          l_x : Level (up_to net (suc N)) limit e f 0 X
          l_x =
              meets net formed (suc N) (omega arith) limit e f X (rise net (suc N) n f l_y.rising) (longer N m X out old.choice)
              (omega (arith, level net formed (suc N) (omega arith) limit e f Y l_y, earned-old))

          some : 1 ≤ f (a N) + f (b N)
          some = omega (arith, l_x.out N (omega arith) out)

          shopful : f (a N) < 1 → 1 ≤ f (b N)
          shopful s = omega (arith, some)

          cardful : ¬ (f (a N) < 1) → 1 ≤ f (a N)
          cardful s = omega arith

          l_n : Level (up_to net N) limit e f 0 X
          l_n =
              record {
                choice = old.choice;
                rising = rise net (suc N) N f l_x.rising;
                free = λ v l s.
                    l_x.free v l
                    (omega (
                      arith,
                      count_next N X v,
                      ap (λ x. x * (chain G parent (a N) v + chain G parent (b N) v)) out,
                    ));
                out = λ c l. l_x.out c (omega arith);
                kept = λ c l. l_x.kept c (omega arith);
              }

          gain : (t : ℕ) → t ≤ 1 → K ≤ near side t p (λ u. K * f u) (a N) + near side t p (λ u. K * f u) (b N) →
              sum (suc N) Y ≤ sum N X + 1
          gain t l s =
              omega (
                arith,
                paid net formed (suc N) (omega arith) limit r Y (rise net N n r lr.rising) new.choice,
                sum-suc (λ c. Y c * (r (a c) + r (b c))),
                ap (λ x. x * (r (a N) + r (b N))) y,
                worth net formed N (omega arith) limit (heavy K e) r Y (shorter N m Y new.choice),
                level net formed N (omega arith) limit (heavy K e) r X lr,
                heavy-sum e K N X,
                heavy-sum e K N Y,
                earned-next Y,
                ap (λ x. x * e N) y,
                sum-suc Y,
                ap (λ x. K * x) (one h),
              )
            where
              r : ℕ → ℕ
              r = near side t p (λ u. K * f u)

              lr : Level (up_to net N) limit (heavy K e) r 0 X
              lr = near-level net formed limit e bit K N (omega arith) (omega arith) X (heavy K e) p (λ u. K * f u) t l lp
                  (times net formed limit e bit K N (omega arith) (omega arith) X f l_n)

              one : earned (suc N) e Y ≡ earned N e X → earned N e X ≡ earned N e Y + 1
              one h = omega (arith, earned-next Y, ap (λ x. x * e N) y)

      -- where it rises, at most one row goes out. f is one of X's: Y is level with it too, and the new row costs nothing by it
      rises : earned (suc N) e Y ≡ earned N e X + 1 → Y N ≡ 1 → e N ≡ 1 → sum N X ≤ sum (suc N) Y + 1
      unfolding K heavy earned
      rises h y o =
          omega (
            arith,
            under net formed N (omega arith) limit (heavy K e) r₂ X (rise net (suc N) n r₂ l₂.rising) old.choice,
            level net formed (suc N) (omega arith) limit (heavy K e) r₂ Y l₂,
            rest-next (heavy K e) r₂,
            heavy-sum e K N X,
            heavy-sum e K (suc N) Y,
            ap (λ x. K * x) h,
            ap (λ x. K * x) o,
            near_on side 0 p q (a N) (card-side net formed N m),
            near-off side 1 r₁ q (a N) (λ i. omega (arith, card-side net formed N m)),
            near_on side 1 r₁ q (b N) (shop-side net formed N m),
            ap (λ x. K * x) none.0,
            ap (λ x. K * x) none.1,
          )
        where
          p : ℕ → ℕ
          p = new-prices.0

          lp : Level (up_to net (suc N)) limit (heavy K e) p 0 Y
          lp = new-prices.1

          f : ℕ → ℕ
          f = threshold side K old-prices.0

          l_x : Level (up_to net N) limit e f 0 X
          l_x = thr-level net formed limit e bit K N (omega arith) (omega arith) X old-prices.0 old-prices.1

          none : (f (a N) ≡ 0) × (f (b N) ≡ 0)
          none =
              omega (
                arith,
                level net formed N (omega arith) limit e f X l_x,
                under net formed (suc N) (omega arith) limit e f Y (rise net N n f l_x.rising) new.choice,
                rest-next e f,
              )

          l_y : Level (up_to net (suc N)) limit e f 0 Y
          l_y =
              meets net formed (suc N) (omega arith) limit e f Y (rise net N n f l_x.rising) new.choice
              (omega (arith, level net formed N (omega arith) limit e f X l_x, rest-next e f))

          q : ℕ → ℕ
          q u = K * f u

          lq : Level (up_to net (suc N)) limit (heavy K e) q 1 Y
          lq = times net formed limit e bit K (suc N) (omega arith) m Y f l_y

          r₁ : ℕ → ℕ
          r₁ = near side 0 p q

          r₂ : ℕ → ℕ
          r₂ = near side 1 r₁ q

          l₂ : Level (up_to net (suc N)) limit (heavy K e) r₂ 0 Y
          l₂ =
              near-level net formed limit e bit K (suc N) (omega arith) m Y (heavy K e) r₁ q 1 (omega arith)
              (near-level net formed limit e bit K (suc N) (omega arith) m Y (heavy K e) p q 0 (omega arith) lp lq) lq

      pub late : OneApart N e X Y
      late =
          elim (ℕ_discrete (Y N * e N) 0) [
            | yes z ↦ simple z
            | no z ↦ hard (ones (Y N) (e N) (new.choice.bits N (omega arith)) (bit N m) z)
          ]
        where
          ones : (x y : ℕ) → x ≤ 1 → y ≤ 1 → x * y ≢ 0 → (x ≡ 1) × (y ≡ 1)
          ones x y h k z =
              elim (ℕ_discrete x 0) [
                | yes d ↦ absurd (z (ap (λ t. t * y) d ∙ omega arith))
                | no d ↦
                    elim (ℕ_discrete y 0) [
                      | yes g ↦ absurd (z (ap (λ t. x * t) g ∙ omega arith))
                      | no g ↦ (omega arith, omega arith)
                    ]
              ]

          there :
              (earned (suc N) e X < earned (suc N) e Y)
              ⊎ ((earned (suc N) e X ≡ earned (suc N) e Y) × (sum (suc N) X ≤ sum (suc N) Y))
          there = new.most X (longer N m X out old.choice)

          back : (earned N e Y < earned N e X) ⊎ ((earned N e Y ≡ earned N e X) × (sum N Y ≤ sum N X))
          back = old.most Y (shorter N m Y new.choice)

          -- the new row is left out, or it is ordinary
          simple : Y N * e N ≡ 0 → OneApart N e X Y
          simple z =
              elim there [
                | inl s ↦
                    elim back [
                      | inl t ↦ absurd (omega (arith, earned-old, earned-next Y))
                      | inr t ↦ absurd (omega (arith, earned-old, earned-next Y, t.0))
                    ]
                | inr s ↦
                    elim back [
                      | inl t ↦ absurd (omega (arith, earned-old, earned-next Y, s.0))
                      | inr t ↦
                          record {
                            earned_keeps = omega (arith, earned-old, s.0);
                            earned_one = omega (arith, earned-old, s.0);
                            kept_loses = omega (arith, s.1, sum-suc X);
                            kept_gains = omega (arith, t.1, sum-suc Y, new.choice.bits N (omega arith));
                            kept_stays = λ h. omega (arith, s.1, sum-suc X);
                          }
                    ]
              ]

          -- the new row is kept and earned
          hard : (Y N ≡ 1) × (e N ≡ 1) → OneApart N e X Y
          hard z =
              elim there [
                | inl s ↦
                    elim back [
                      | inl t ↦ absurd (omega (arith, earned-old, earned-next Y, one z))
                      | inr t ↦
                          record {
                            earned_keeps = omega (arith, earned-old);
                            earned_one = omega (arith, earned-next Y, one z, t.0);
                            kept_loses = rises (omega (arith, earned-next Y, one z, t.0)) z.0 z.1;
                            kept_gains = omega (arith, t.1, sum-suc Y, z.0);
                            kept_stays = λ h. absurd (omega (arith, earned-old));
                          }
                    ]
                | inr s ↦
                    record {
                      earned_keeps = omega (arith, earned-old, s.0);
                      earned_one = omega (arith, earned-old, s.0);
                      kept_loses = omega (arith, s.1, sum-suc X);
                      kept_gains = stays (omega (arith, earned-old, s.0)) z.0 z.1;
                      kept_stays = λ h. omega (arith, s.1, sum-suc X);
                    }
              ]
            where
              one : (Y N ≡ 1) × (e N ≡ 1) → Y N * e N ≡ 1
              one z = ap₂ ◌*◌ z.0 z.1
