-- Weights for the earned rows and all rows at once, as proofs need them. e c is 1 where row c is earned, else 0.
--   earned N e X           how many of the first N rows of X are earned
--   Most net N limit e X   X is a choice of the first N rows with the most earned rows and, with that number, the most rows
--   OneApart N e X Y       each count of Y, a choice of N + 1 rows, is at most one from that of X, a choice of N rows: the earned count is not
--                          lower, and where it is the same the kept count is not lower either
--   heavy K e c            the weight of row c: K + 1 where it is earned, else 1. For K above the number of rows, a heaviest choice is a
--                          choice with the most earned rows and then the most rows, of the first N rows for every N below K
--   threshold side K p     prices for the weights e, made of prices p for the weights heavy K: 1 where p pays for an earned row, else 0
--   near side t p q        the prices p, on side t lowered to q + 1 where they are higher, on the other side raised to q where they are lower
use Rattle.std.specs.Prelude.{◌≡◌, ◌⊎◌, ℕ, suc, ◌+◌, ◌*◌, ◌-◌, min, max, ◌≤◌, ◌<◌}
use Rattle.theory.specs.Sum.{sum}
use Rattle.theory.specs.Network.{Network, Choice}
use Rattle.duality.specs.Prices.{up_to, blend}

unfoldable pub earned : ℕ → (ℕ → ℕ) → (ℕ → ℕ) → ℕ
earned N e X = sum N (λ c. X c * e c)

pub record Most (net : Network) (N : ℕ) (limit e X : ℕ → ℕ) : Type 0 where
  pub choice : Choice (up_to net N) limit X
  pub most :
      (Y : ℕ → ℕ) → Choice (up_to net N) limit Y →
      (earned N e Y < earned N e X) ⊎ ((earned N e Y ≡ earned N e X) × (sum N Y ≤ sum N X))

pub record OneApart (N : ℕ) (e X Y : ℕ → ℕ) : Type 0 where
  pub earned_keeps : earned N e X ≤ earned (suc N) e Y
  pub earned_one : earned (suc N) e Y ≤ earned N e X + 1
  pub kept_loses : sum N X ≤ sum (suc N) Y + 1
  pub kept_gains : sum (suc N) Y ≤ sum N X + 1
  pub kept_stays : earned (suc N) e Y ≡ earned N e X → sum N X ≤ sum (suc N) Y

unfoldable pub heavy : ℕ → (ℕ → ℕ) → ℕ → ℕ
heavy K e c = K * e c + 1

unfoldable pub threshold : (ℕ → ℕ) → ℕ → (ℕ → ℕ) → ℕ → ℕ
threshold side K p = blend side 0 (λ u. min 1 (p u - 1)) (λ u. min 1 (p u - (K - 1)))

unfoldable pub near : (ℕ → ℕ) → ℕ → (ℕ → ℕ) → (ℕ → ℕ) → ℕ → ℕ
near side t p q = blend side t (λ u. min (p u) (q u + 1)) (λ u. max (p u) (q u))
