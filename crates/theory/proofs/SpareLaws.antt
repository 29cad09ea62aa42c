-- Laws of the spare places.
--   least-most least-each le-least     the smallest of some numbers: at most each of them, and no less than a number that is
--   again-load again-both      k further rows like row x count k times where row x counts
--   again-formed               they hang at nodes of their side
--   again-fits fits-again      they fit exactly where each group that row x counts in has k places left
--   plus-places places-plus fits-less      the same of row x itself, where it is not in the selection
--   spare-unfit spare-fits     the number of spare places, where the selection does not fit and where it does
--   spare-most                 it is at most 65535
--   spare-places places-spare  a number of rows is at most that exactly where there are places for them
--   spare-greatest                   so the greatest number with places is the number of spare places
--   spares                     what the number means
use mathlib.Core.Path.{◌≡◌, refl, sym, ap, ap₂, ◌∙◌, subst}
use mathlib.Core.Bool.{Bool, true, false}
use mathlib.Core.Logic.{inl, inr}
use Prim.Native.Nat.{ℕ, zero, suc, ◌+◌, ◌*◌, min, ◌≤◌, ◌<◌}
use native.Mathlib.Nat.{le_refl}
use native.Mathlib.Decide.{ℕ_discrete, dec_lt}
use native.Mathlib.Omega.{arith}
use lib.Dec.{eqb}
use borrow.Author.Tests.{lt-ltb, le-ltb, eq-eqb, eqb-true}
use Rattle.theory.specs.Bounds.{max_limit}
use Rattle.theory.specs.Sum.{sum}
use Rattle.theory.specs.Forest.{chain}
use Rattle.theory.specs.Incidence.{load, plus}
use Rattle.theory.specs.Network.{Network, node, on_side, on_both, FitsSide, FitsBoth, fits_both}
use Rattle.theory.specs.Formed.{CardNode, ShopNode, Formed}
use Rattle.theory.specs.Spare.{least, places_left, spare_places, HasPlaces, again, along, Spares}
use Rattle.theory.proofs.SumLaws.{sum-cong}
use Rattle.theory.proofs.IncidenceLaws.{fits_le, plus-within, load-plus, fits-plus}
use Rattle.theory.proofs.NetworkLaws.{load-both, fits_both_lem, both-fits}
use Rattle.theory.proofs.FillLaws.{on-both-small}
use Rattle.theory.proofs.TestLaws.{either, both_true, true-both}

--------------------------------------------------------------------------------
-- The smallest of some numbers

module _ (t : ℕ → Bool) (f : ℕ → ℕ) (most : ℕ) where
  -- with the next number, which passes the test or not
  least-in : (n : ℕ) → t n ≡ true → least (suc n) t f most ≡ min (f n) (least n t f most)
  unfolding least
  least-in n e = rw e

  least-out : (n : ℕ) → t n ≡ false → least (suc n) t f most ≡ least n t f most
  unfolding least
  least-out n e = rw e

  pub le-least :
      (k n : ℕ) → k ≤ most → ((v : ℕ) → v < n → t v ≡ true → k ≤ f v) → k ≤ least n t f most
  unfolding least
  le-least k zero h each = h
  le-least k (suc n) h each =
      let before = le-least k n h (λ v l. each v (omega arith)) in
      elim (either (t n)) [
        | inl e ↦ omega (arith, least-in n e, before, each n (omega arith) e)
        | inr e ↦ omega (arith, least-out n e, before)
      ]

  pub least-most : (n : ℕ) → least n t f most ≤ most
  unfolding least
  least-most zero = le_refl most
  least-most (suc n) =
      elim (either (t n)) [
        | inl e ↦ omega (arith, least-in n e, least-most n)
        | inr e ↦ omega (arith, least-out n e, least-most n)
      ]

  pub least-each : (n v : ℕ) → v < n → t v ≡ true → least n t f most ≤ f v
  least-each zero v l e = absurd (omega arith)
  least-each (suc n) v l e =
      elim (ℕ_discrete v n) [
        | yes q ↦ omega (arith, least-in n (ap t (sym q) ∙ e), ap f q)
        | no q ↦
            elim (either (t n)) [
              | inl i ↦ omega (arith, least-in n i, least-each n v (omega arith) e)
              | inr i ↦ omega (arith, least-out n i, least-each n v (omega arith) e)
            ]
      ]

--------------------------------------------------------------------------------
-- Further rows like one row

-- a sum of n terms and k more that are all y
sum-behind :
    (n k y : ℕ) {f g : ℕ → ℕ} → ((i : ℕ) → i < n → g i ≡ f i) → ((i : ℕ) → n ≤ i → g i ≡ y) → sum (n + k) g ≡ sum n f + k * y
unfolding sum
sum-behind n zero y {f} {g} below behind =
    let none : n + 0 ≡ n = omega arith in
    rw none (omega (arith, sum-cong n below))
sum-behind n (suc k) y {f} {g} below behind =
    let one : n + suc k ≡ suc (n + k) = omega arith in
    rw one (omega (arith, sum-behind n k y below behind, behind (n + k) (omega arith)))

module _ (d : Network) (x k : ℕ) where
  -- a further row hangs where row x hangs, the others where they hung
  node-old : (side c : ℕ) → c < d.rows → node (again d x k) side c ≡ node d side c
  node-old zero c l = rw (lt-ltb _ _ l)
  node-old (suc n) c l = rw (lt-ltb _ _ l)

  node-new : (side c : ℕ) → d.rows ≤ c → node (again d x k) side c ≡ node d side x
  node-new zero c l = rw (le-ltb _ _ l)
  node-new (suc n) c l = rw (le-ltb _ _ l)

  on-old : (side c v : ℕ) → c < d.rows → on_side (again d x k) side c v ≡ on_side d side c v
  unfolding on_side
  on-old side c v l = ap (λ u. chain d.groups d.parent u v) (node-old side c l)

  on-new : (side c v : ℕ) → d.rows ≤ c → on_side (again d x k) side c v ≡ on_side d side x v
  unfolding on_side
  on-new side c v l = ap (λ u. chain d.groups d.parent u v) (node-new side c l)

  along-old : (X : ℕ → ℕ) (c : ℕ) → c < d.rows → along d.rows X c ≡ X c
  along-old X c l = rw (lt-ltb _ _ l)

  along-new : (X : ℕ → ℕ) (c : ℕ) → d.rows ≤ c → along d.rows X c ≡ 1
  along-new X c l = rw (le-ltb _ _ l)

  again-load :
      (X : ℕ → ℕ) (side v : ℕ) →
      load (d.rows + k) (on_side (again d x k) side) (along d.rows X) v
      ≡ load d.rows (on_side d side) X v + k * on_side d side x v
  unfolding load
  again-load X side v =
      sum-behind d.rows k (on_side d side x v)
      (λ c l. ap₂ ◌*◌ (along-old X c l) (on-old side c v l))
      (λ c l. ap₂ ◌*◌ (along-new X c l) (on-new side c v l) ∙ omega arith)

  again-both :
      (X : ℕ → ℕ) (v : ℕ) →
      load (d.rows + k) (on_both (again d x k)) (along d.rows X) v
      ≡ load d.rows (on_both d) X v + k * on_both d x v
  unfolding on_both
  again-both X v =
      load-both (again d x k) (along d.rows X) v
      ∙ omega (arith, again-load X 0 v, again-load X 1 v, load-both d X v)

  pub again-formed : Formed d → x < d.rows → Formed (again d x k)
  again-formed f inside =
      record {
        sides = f.sides;
        card_parent = f.card_parent;
        shop_parent = f.shop_parent;
        card_node = λ c l.
            elim (dec_lt c d.rows) [
              | yes h ↦ subst (CardNode d) (sym (node-old 0 c h)) (f.card_node c h)
              | no h ↦ subst (CardNode d) (sym (node-new 0 c (omega arith))) (f.card_node x inside)
            ];
        shop_node = λ c l.
            elim (dec_lt c d.rows) [
              | yes h ↦ subst (ShopNode d) (sym (node-old 1 c h)) (f.shop_node c h)
              | no h ↦ subst (ShopNode d) (sym (node-new 1 c (omega arith))) (f.shop_node x inside)
            ];
      }

--------------------------------------------------------------------------------
-- The number

module _ (d : Network) (limit X : ℕ → ℕ) (x : ℕ) where
  abbrev counted : ℕ → Bool
  counted v = eqb (on_both d x v) 1

  pub spare-none : fits_both d limit X ≡ false → spare_places d limit X x ≡ 0
  unfolding spare_places
  spare-none e = rw e

  pub spare-unfit : ¬ FitsBoth d limit X → spare_places d limit X x ≡ 0
  spare-unfit unfit =
      elim (either (fits_both d limit X)) [
        | inl e ↦ absurd (unfit (both_true d limit X e))
        | inr e ↦ spare-none e
      ]

  spare-fits : FitsBoth d limit X → spare_places d limit X x ≡ least d.groups counted (places_left d limit X) max_limit
  unfolding spare_places
  spare-fits fits = rw (true-both d limit X fits)

  pub spare-most : spare_places d limit X x ≤ max_limit
  spare-most =
      elim (either (fits_both d limit X)) [
        | inl e ↦
            omega (
              arith,
              spare-fits (both_true d limit X e),
              least-most counted (places_left d limit X) max_limit d.groups,
            )
        | inr e ↦ omega (arith, spare-none e)
      ]

--------------------------------------------------------------------------------
-- What the number means

module _ (d : Network) (formed : Formed d) (limit X : ℕ → ℕ) (x : ℕ) (inside : x < d.rows) where
  module _ (fits : FitsBoth d limit X) (k : ℕ) where
    pub again-fits : HasPlaces d limit X x k → FitsBoth (again d x k) limit (along d.rows X)
    again-fits places =
        both-fits (again d x k) limit (along d.rows X)
        (λ v l.
        elim (ℕ_discrete (on_both d x v) 1) [
          | yes e ↦ omega (arith, again-both d x k X v, ap (λ y. k * y) e, places v l e)
          | no e ↦
              let none : on_both d x v ≡ 0 = omega (arith, on-both-small d formed x inside v) in
              omega (arith, again-both d x k X v, ap (λ y. k * y) none, fits_both_lem d limit X formed fits v l)
        ])

    pub fits-again : FitsBoth (again d x k) limit (along d.rows X) → HasPlaces d limit X x k
    fits-again further v l e =
        omega (
          arith,
          again-both d x k X v,
          ap (λ y. k * y) e,
          fits_both_lem (again d x k) limit (along d.rows X) (again-formed d x k formed inside) further v l,
        )

  -- one row more
  plus-places : X x ≡ 0 → FitsBoth d limit X → HasPlaces d limit X x 1 → FitsBoth d limit (plus X x)
  plus-places out fits places =
      both-fits d limit (plus X x)
      (fits-plus X x d.rows d.groups (on_both d) limit inside out (fits_both_lem d limit X formed fits) (on-both-small d formed x inside)
      (λ v l e. omega (arith, places v l e)))

  places-plus : X x ≡ 0 → FitsBoth d limit (plus X x) → HasPlaces d limit X x 1
  places-plus out more v l e =
      omega (arith, load-plus X x d.rows (on_both d) inside out v, fits_both_lem d limit (plus X x) formed more v l)

  -- what fits with a row more fits without it
  fits-less : FitsBoth d limit (plus X x) → FitsBoth d limit X
  fits-less more = (side 0 more.0, side 1 more.1)
    where
      side : (t : ℕ) → FitsSide d limit t (plus X x) → FitsSide d limit t X
      side t = fits_le d.rows (on_side d t) d.groups limit X (plus X x) (plus-within X x d.rows)

  -- a number is at most that of the spare places exactly where it is at most 65535 and the groups have places for it
  pub spare-places : FitsBoth d limit X → (k : ℕ) → k ≤ spare_places d limit X x → HasPlaces d limit X x k
  spare-places fits k h v l e =
      omega (
        arith,
        spare-fits d limit X x fits,
        least-each (counted d limit X x) (places_left d limit X) max_limit d.groups v l (eq-eqb _ _ e),
        fits_both_lem d limit X formed fits v l,
      )

  pub places-spare : FitsBoth d limit X → (k : ℕ) → k ≤ max_limit → HasPlaces d limit X x k → k ≤ spare_places d limit X x
  places-spare fits k h places =
      rw (spare-fits d limit X x fits)
      (le-least (counted d limit X x) (places_left d limit X) max_limit k d.groups h
      (λ v l e. omega (arith, places v l (eqb-true _ _ e))))

  -- the number that is found by these
  pub spare-greatest :
      FitsBoth d limit X → (n : ℕ) → n ≤ max_limit → HasPlaces d limit X x n →
      ((k : ℕ) → k ≤ max_limit → HasPlaces d limit X x k → k ≤ n) → n ≡ spare_places d limit X x
  spare-greatest fits n most places greatest =
      omega (
        arith,
        places-spare fits n most places,
        greatest (spare_places d limit X x) (spare-most d limit X x) (spare-places fits (spare_places d limit X x) (le_refl _)),
      )

  -- group v, which the row counts in, bounds the places
  pub spares : (v : ℕ) → v < d.groups → on_both d x v ≡ 1 → limit v ≤ max_limit → Spares d limit X x (spare_places d limit X x)
  spares v l e most =
      record {
        is = refl;
        unfit = spare-unfit d limit X x;
        places = λ fits k. (spare-places fits k, λ places. places-spare fits k (bound k places) places);
        further = λ fits k. (
          λ h. again-fits fits k (spare-places fits k h),
          λ further. let places = fits-again fits k further in places-spare fits k (bound k places) places,
        );
        one = λ out. (
          λ h.
              elim (either (fits_both d limit X)) [
                | inl e ↦
                    let fits = both_true d limit X e in
                    plus-places out fits (spare-places fits 1 h)
                | inr e ↦ absurd (omega (arith, spare-none d limit X x e))
              ],
          λ more.
              let fits = fits-less more in
              let places = places-plus out more in
              places-spare fits 1 (bound 1 places) places,
        );
      }
    where
      bound : (k : ℕ) → HasPlaces d limit X x k → k ≤ max_limit
      bound k places = omega (arith, places v l e)
