-- Laws of the kept counts by kind, and of what four counts weigh.
--   product-most           a count times a weight is small
--   four-worth             with four kinds, the kept counts give what the kept rows weigh
--   counted-kinds          the counts of all kinds, their sum and their weight are those of the choice
use mathlib.Core.Path.{◌≡◌, ap}
use mathlib.Core.List.{List}
use Prim.Native.Nat.{ℕ, zero, suc, ◌+◌, ◌*◌, ◌^◌, ◌≤◌, ◌<◌}
use native.Mathlib.Nat.{pow-zero, mul-le-mul}
use native.Mathlib.Omega.{arith}
use Rattle.theory.specs.Sum.{sum}
use Rattle.theory.specs.Incidence.{size, worth}
use Rattle.theory.specs.Matroid.{row}
use Rattle.theory.specs.Bounds.{max_rows}
use Rattle.theory.specs.Network.{Instance}
use Rattle.theory.specs.Priority.{kept, weight_of}
use Rattle.theory.proofs.PriorityLaws.{value, worth-kept, kept-total}
use Rattle.claimfile.specs.File.{second_terms}
use Rattle.instance.specs.Meaning.{heaviest}
use Rattle.kinds.specs.declared.KindTotals.{KindTotals}
use Rattle.closing.specs.Close.{CountedIn}
use Rattle.kinds.specs.Settle.{count_of}

pub product-most : (n w : ℕ) → n ≤ max_rows → w ≤ heaviest → n * w ≤ 69122916864
product-most n w h k = omega (arith, mul-le-mul {n₁ = n} {m₁ = w} {n₂ = max_rows} {m₂ = heaviest} h k)

pub four-worth :
    (N : ℕ) (kind : ℕ → ℕ) → ((c : ℕ) → c < N → kind c < second_terms) → (X : ℕ → ℕ) →
    kept N kind X 0 + kept N kind X 1 * (N + 1) ^ 1 + kept N kind X 2 * (N + 1) ^ 2 + kept N kind X 3 * (N + 1) ^ 3
    ≡ worth N (weight_of N kind) X
unfolding value sum
four-worth N kind ranged X =
    omega (
      arith,
      worth-kept N second_terms kind ranged X,
      ap (λ (x : ℕ). kept N kind X 0 * x) (pow-zero (N + 1)),
    )

four-size :
    (N : ℕ) (kind : ℕ → ℕ) → ((c : ℕ) → c < N → kind c < second_terms) → (X : ℕ → ℕ) →
    kept N kind X 0 + kept N kind X 1 + kept N kind X 2 + kept N kind X 3 ≡ size N X
unfolding sum
four-size N kind ranged X = omega (arith, kept-total N second_terms kind ranged X)

module _
    (i : Instance) (four : (c : ℕ) → c < i.net.rows → i.kind c < second_terms) (ch : List ℕ) (a : KindTotals)
    (zeros : a.kind0 ≡ kept i.net.rows i.kind (row ch) 0) (ones : a.kind1 ≡ kept i.net.rows i.kind (row ch) 1)
    (twos : a.kind2 ≡ kept i.net.rows i.kind (row ch) 2) (threes : a.kind3 ≡ kept i.net.rows i.kind (row ch) 3)
  where
    abbrev N : ℕ
    N = i.net.rows

    counts-are : (k : ℕ) → k < second_terms → count_of a k ≡ kept i.net.rows i.kind (row ch) k
    counts-are zero h = zeros
    counts-are (suc zero) h = ones
    counts-are (suc (suc zero)) h = twos
    counts-are (suc (suc (suc zero))) h = threes
    counts-are (suc (suc (suc (suc k)))) h = absurd (omega arith)

    pub counted-kinds :
        a.kept ≡ a.kind0 + a.kind1 + a.kind2 + a.kind3 →
        a.total ≡ a.kind0 + a.kind1 * (N + 1) ^ 1 + a.kind2 * (N + 1) ^ 2 + a.kind3 * (N + 1) ^ 3 →
        CountedIn second_terms i ch (count_of a) a.kept a.total
    counted-kinds all sum = record {
      counts = counts-are;
      kept = omega (arith, all, zeros, ones, twos, threes, four-size N i.kind four (row ch));
      total =
          omega (
            arith,
            sum,
            zeros,
            ap (λ (x : ℕ). x * (N + 1) ^ 1) ones,
            ap (λ (x : ℕ). x * (N + 1) ^ 2) twos,
            ap (λ (x : ℕ). x * (N + 1) ^ 3) threes,
            four-worth N i.kind four (row ch),
          );
    }
