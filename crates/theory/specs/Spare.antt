-- How many further rows like one row fit beside a selection X (document 02, E2), for a network d with its limits.
--   least n t f most       the smallest f v over the numbers v below n that pass the test t, and at most `most`
--   places_left d limit X v limit minus rows counted, of group v
--   spare_places d limit X x    the smallest of these, over all groups that row x counts in; 0 where X does not fit both sides
--   HasPlaces d limit X x k    each group that row x counts in has k places left
--   again d x k            the network with k further rows like row x: each hangs at the two nodes where row x hangs
--   along N X              X, a selection of N rows, with all rows behind them
--   Spares d limit X x n   n is the number of spare places, and what that means
-- "The one-more call becomes a number: the smallest, over all groups that the row counts in on both sides, of limit minus rows counted.
-- It is 0 if the selection itself does not fit both sides. For a row outside the selection the old yes is now a number of 1 or more."
use Rattle.std.specs.Prelude.{◌≡◌, Bool, ◌↔◌, ℕ, zero, suc, ◌+◌, ◌-◌, min, ◌≤◌, ◌<◌, ltb, eqb}
use Rattle.theory.specs.Bounds.{max_limit}
use Rattle.theory.specs.Sum.{pick}
use Rattle.theory.specs.Incidence.{load, plus}
use Rattle.theory.specs.Network.{Network, on_both, FitsBoth, fits_both}

unfoldable pub least : ℕ → (ℕ → Bool) → (ℕ → ℕ) → ℕ → ℕ
least zero t f most = most
least (suc n) t f most = pick (t n) (min (f n) (least n t f most)) (least n t f most)

abbrev pub places_left : Network → (ℕ → ℕ) → (ℕ → ℕ) → ℕ → ℕ
places_left d limit X v = limit v - load d.rows (on_both d) X v

-- no limit is over 65535, so this bound decides only for a row that counts in no group at all
unfoldable pub spare_places : Network → (ℕ → ℕ) → (ℕ → ℕ) → ℕ → ℕ
spare_places d limit X x =
    pick (fits_both d limit X) (least d.groups (λ v. eqb (on_both d x v) 1) (places_left d limit X) max_limit) 0

abbrev pub HasPlaces : Network → (ℕ → ℕ) → (ℕ → ℕ) → ℕ → ℕ → Type 0
HasPlaces d limit X x k =
    (v : ℕ) → v < d.groups → on_both d x v ≡ 1 → load d.rows (on_both d) X v + k ≤ limit v

abbrev pub again : Network → ℕ → ℕ → Network
again d x k = record {
  cards = d.cards;
  groups = d.groups;
  rows = d.rows + k;
  parent = d.parent;
  card = λ c. pick (ltb c d.rows) (d.card c) (d.card x);
  shop = λ c. pick (ltb c d.rows) (d.shop c) (d.shop x);
}

abbrev pub along : ℕ → (ℕ → ℕ) → ℕ → ℕ
along N X c = pick (ltb c N) (X c) 1

pub record Spares (d : Network) (limit X : ℕ → ℕ) (x n : ℕ) : Type 0 where
  pub is : n ≡ spare_places d limit X x
  pub unfit : ¬ FitsBoth d limit X → n ≡ 0
  -- over the counts
  pub places : FitsBoth d limit X → (k : ℕ) → (k ≤ n) ↔ HasPlaces d limit X x k
  -- "how many further claims like this one would fit"
  pub further : FitsBoth d limit X → (k : ℕ) → (k ≤ n) ↔ FitsBoth (again d x k) limit (along d.rows X)
  -- "For a row outside the selection the old yes is now a number of 1 or more"
  pub one : X x ≡ 0 → (1 ≤ n) ↔ FitsBoth d limit (plus X x)
