-- Laws of the two tables that are filled from the first group on: the prices of the groups, and their limits.
--   zeros                  a table at the start
--   priced-none priced-more priced-at  no price, one more, and the price of any node once all are there
--   limit-step             a group's limit from the front, by its node
--   lowers-none lowers-value lowers-more   no limit, the next one, and one more
--   product_small          a limit × a mark has at most 48 bits
use mathlib.Core.Path.{◌≡◌, sym, ap, ◌∙◌}
use mathlib.Core.List.{List}
use mathlib.Core.Logic.{◌⊎◌, inl, inr, ◌≢◌}
use Prim.Native.Nat.{ℕ, ◌+◌, ◌*◌, min, ◌≤◌, ◌<◌}
use native.Mathlib.Nat.{mul-le-mul}
use native.Mathlib.Decide.{ℕ_discrete, dec_lt}
use native.Mathlib.Omega.{arith}
use lib.ListN.{length, set, replicate, length-set, length-replicate}
use lib.Seq.{get_or-set_same, get_or-set_other}
use Rattle.theory.specs.Bounds.{max_limit, cell_bound}
use Rattle.theory.specs.Lowered.{lesser}
use Rattle.theory.specs.Matroid.{row}
use Rattle.theory.proofs.ForestLaws.{path-in, path-out}
use Rattle.theory.proofs.LoweredLaws.{lesser-top, lowered-step}
use Rattle.claimfile.specs.Day.{groups_of}
use Rattle.claimfile.specs.Day.{parent_of, written_of, limit_of}
use Rattle.claimfile.specs.Sound.{Sound}
use Rattle.claimfile.specs.declared.Layout.{Layout}
use Rattle.claimfile.proofs.DayLaws.{day-down}
use Rattle.instance.specs.Meaning.{nodes}
use Rattle.instance.proofs.NodeLaws.{groups-few}
use Rattle.sides.proofs.CountLaws.{zero-cell}
use Rattle.closing.specs.Settle.{mark_of}
use Rattle.sheets.specs.Judge.{most_product, Zeros, price_of, Priced, Lowers}

pub zeros : (n : ℕ) → nodes ≤ n → Zeros (replicate n 0)
zeros n h = record { long = omega (arith, length-replicate {A = ℕ} n 0); zero = zero-cell n }

-- a cell after a store
stored :
    (t : List ℕ) (i x : ℕ) → i < length t → (v : ℕ) →
    ((v ≡ i) × (row (set t i x) v ≡ x)) ⊎ ((v ≢ i) × (row (set t i x) v ≡ row t v))
stored t i x l v =
    elim (ℕ_discrete v i) [
      | yes e ↦ inl (e, rw e (get_or-set_same t i x 0 l))
      | no n ↦ inr (n, get_or-set_other t i v x 0 n)
    ]

pub product_small : (a b : ℕ) → a < 65536 → b < cell_bound → a * b ≤ most_product
product_small a b h k = omega (arith, mul-le-mul {n₁ = a} {m₁ = b} {n₂ = 65536} {m₂ = cell_bound} (omega arith) (omega arith))

module _ (s : List ℕ) (l : Layout) (sound : Sound s l) where
  ------------------------------------------------------------------------------
  -- Prices

  module _ (sheet : List ℕ) where
    pub priced-none : (t : List ℕ) → Zeros t → Priced s l sheet t 0
    priced-none t z = record { long = z.long; here = λ v h. absurd (omega arith); zero = λ v h. z.zero v }

    -- a root has the price 0
    root-price : (u : ℕ) → groups_of l ≤ u → price_of s l sheet u ≡ 0
    root-price u h = path-out (groups_of l) (parent_of s l) (day-down s l) (mark_of sheet) u h

    -- any node's cell, a root's too
    pub priced-at :
        (t : List ℕ) → Priced s l sheet t (groups_of l) → (u : ℕ) → row t u ≡ min (price_of s l sheet u) max_limit
    priced-at t p u =
        elim (dec_lt u (groups_of l)) [
          | yes h ↦ p.here u h
          | no h ↦ omega (arith, p.zero u (omega arith), root-price u (omega arith))
        ]

    module _ (t : List ℕ) (n : ℕ) (inside : n < groups_of l) (p : Priced s l sheet t n) where
      above-cell : row t (parent_of s l n) ≡ min (price_of s l sheet (parent_of s l n)) max_limit
      above-cell =
          elim (day-down s l n inside) [
            | inl q ↦ p.here (parent_of s l n) q
            | inr q ↦ omega (arith, p.zero (parent_of s l n) (omega arith), root-price (parent_of s l n) q)
          ]

      pub priced-more :
          (up x : ℕ) → up ≡ parent_of s l n → x ≡ min (mark_of sheet n + row t up) max_limit → Priced s l sheet (set t n x) (n + 1)
      priced-more up x e is = record {
        long = omega (arith, p.long, length-set t n x);
        here = λ v h.
            elim (stored t n x in_table v) [
              | inl q ↦ q.1 ∙ value ∙ ap (λ u. min (price_of s l sheet u) max_limit) (sym q.0)
              | inr q ↦ q.1 ∙ p.here v (omega (arith, q.0))
            ];
        zero = λ v h.
            elim (stored t n x in_table v) [
              | inl q ↦ absurd (omega (arith, q.0))
              | inr q ↦ q.1 ∙ p.zero v (omega arith)
            ];
      }
        where
          in_table : n < length t
          in_table = omega (arith, p.long, groups-few sound)

          -- what is over 65535 above the group makes its own price so
          value : x ≡ min (price_of s l sheet n) max_limit
          value =
              omega (
                arith,
                is,
                ap (row t) e,
                above-cell,
                path-in (groups_of l) (parent_of s l) (day-down s l) (mark_of sheet) n inside,
              )

  ------------------------------------------------------------------------------
  -- Limits

  pub limit-step :
      (v : ℕ) → v < groups_of l →
      limit_of s l v ≡ lesser (groups_of l) (parent_of s l v) (written_of s l v) (limit_of s l (parent_of s l v))
  unfolding limit_of
  limit-step v h = lowered-step (groups_of l) (parent_of s l) (day-down s l) (written_of s l) v h

  pub lowers-none : (t : List ℕ) → nodes ≤ length t → Lowers s l t 0
  lowers-none t h = record { long = h; here = λ v k. absurd (omega arith) }

  module _ (t : List ℕ) (n : ℕ) (inside : n < groups_of l) (p : Lowers s l t n) where
    pub lowers-value :
        (up limit x : ℕ) → up ≡ parent_of s l n → limit ≡ written_of s l n → x ≡ lesser (groups_of l) up limit (row t up) →
        x ≡ limit_of s l n
    lowers-value up limit x e w is =
        is
        ∙ ap (λ u. lesser (groups_of l) u limit (row t u)) e
        ∙ ap (λ m. lesser (groups_of l) (parent_of s l n) m (row t (parent_of s l n))) w
        ∙ step
        ∙ sym (limit-step n inside)
      where
        step :
            lesser (groups_of l) (parent_of s l n) (written_of s l n) (row t (parent_of s l n))
            ≡ lesser (groups_of l) (parent_of s l n) (written_of s l n) (limit_of s l (parent_of s l n))
        step =
            elim (day-down s l n inside) [
              | inl q ↦ ap (lesser (groups_of l) (parent_of s l n) (written_of s l n)) (p.here (parent_of s l n) q)
              | inr q ↦
                  lesser-top (groups_of l) (parent_of s l n) (written_of s l n) (row t (parent_of s l n)) q
                  ∙ sym (lesser-top (groups_of l) (parent_of s l n) (written_of s l n) (limit_of s l (parent_of s l n)) q)
            ]

    pub lowers-more : (x : ℕ) → x ≡ limit_of s l n → Lowers s l (set t n x) (n + 1)
    lowers-more x is = record {
      long = omega (arith, p.long, length-set t n x);
      here = λ v h.
          elim (stored t n x (omega (arith, p.long, groups-few sound)) v) [
            | inl q ↦ q.1 ∙ is ∙ ap (limit_of s l) (sym q.0)
            | inr q ↦ q.1 ∙ p.here v (omega (arith, q.0))
          ];
    }
