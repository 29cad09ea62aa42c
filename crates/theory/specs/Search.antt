-- Rank and best choice by a search through all selections. They are never run on a large file: they make the worked days one computed
-- table and every answer a definition over the input. Laws say that they are document 000's rank and document 01's kept choice (`Rank`,
-- `Kept`), so a reader need not believe them.
--   selections n           all selections of n rows as lists of 0 and 1, the first in row order first
--   greatest t f ls        the greatest f of the lists that pass the test t, or 0
--   rank N t X             the greatest size of a selection within X that passes the test t
--   more K d e             whether d is greater than e, compared from the highest of K places down
--   nothing n              the empty choice of n rows as a list
--   search t better b ls   goes through the lists and keeps the first of the best that pass the test t, b where none is better
--   best N K kind t        the best choice, as a list of 0 and 1
--   best_choice d limit K kind    the best choice of a network's rows, of those that fit both sides
use Rattle.std.specs.Prelude.{Bool, true, false, ◌&&◌, List, [], ◌∷◌, ◌++◌, map, ℕ, zero, suc, max, ltb, leb, eqb}
use Rattle.theory.specs.Sum.{pick, every}
use Rattle.theory.specs.Incidence.{size}
use Rattle.theory.specs.Matroid.{row}
use Rattle.theory.specs.Network.{Network, fits_both}
use Rattle.theory.specs.Priority.{kept}

unfoldable pub selections : ℕ → List (List ℕ)
selections zero = [] ∷ []
selections (suc n) = map (λ (l : List ℕ). 1 ∷ l) (selections n) ++ map (λ (l : List ℕ). 0 ∷ l) (selections n)

unfoldable pub greatest : (List ℕ → Bool) → (List ℕ → ℕ) → List (List ℕ) → ℕ
greatest t f [] = 0
greatest t f (l ∷ ls) = max (pick (t l) (f l) 0) (greatest t f ls)

unfoldable pub rank : ℕ → ((ℕ → ℕ) → Bool) → (ℕ → ℕ) → ℕ
rank N t X = greatest (λ l. t (row l) && every N (λ c. leb (row l c) (X c))) (λ l. size N (row l)) (selections N)

unfoldable pub more : ℕ → (ℕ → ℕ) → (ℕ → ℕ) → Bool
more zero d e = false
more (suc k) d e = pick (ltb (e k) (d k)) true (pick (eqb (d k) (e k)) (more k d e) false)

-- no row of n
unfoldable pub nothing : ℕ → List ℕ
nothing zero = []
nothing (suc n) = 0 ∷ nothing n

unfoldable pub search : (List ℕ → Bool) → (List ℕ → List ℕ → Bool) → List ℕ → List (List ℕ) → List ℕ
search t better b [] = b
search t better b (l ∷ ls) = search t better (pick (t l && better l b) l b) ls

unfoldable pub best : ℕ → ℕ → (ℕ → ℕ) → ((ℕ → ℕ) → Bool) → List ℕ
best N K kind t =
    search (λ l. t (row l)) (λ l b. more K (kept N kind (row l)) (kept N kind (row b))) (nothing N) (selections N)

unfoldable pub best_choice : Network → (ℕ → ℕ) → ℕ → (ℕ → ℕ) → List ℕ
best_choice d limit K kind = best d.rows K kind (fits_both d limit)
