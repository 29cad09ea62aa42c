-- Laws of lowered limits.
--   lesser-top                 a node under a root keeps its limit
--   lowered-step               from the front: a node's own limit, or its parent's, already lowered, where that is less
--   lowered-top lowered-below  the same, one law a case
--   lowered-le lowered-mono    it is at most the node's own, and at most its parent's
--   lowered-least lowered_is   it is the least limit on the way from the node to the top
--   lowered-only               numbers that are so from the front are the lowered limits
--   lowered-same               limits that are nowhere above their parent's stay
--   load-parent                every row that counts in a node counts in its parent
--   fits-lowered lowered-fits  the same lists of rows fit
-- In a network:
--   side-lowered lowered-side  the same lists of rows fit a side
--   lowered-lists              so ranks, kept choice and best choice are the same (ListsLaws.antt)
--   spare-lowered              and so are spare places
use mathlib.Core.Path.{◌≡◌, refl, sym, ap, ◌∙◌}
use mathlib.Core.Bool.{true≢false}
use mathlib.Core.Logic.{◌⊎◌, inl, inr}
use Prim.Native.Nat.{ℕ, min, ◌≤◌, ◌<◌}
use native.Mathlib.Nat.{le_refl, mul-le-mul_left}
use native.Mathlib.Decide.{ℕ_discrete, dec_lt}
use native.Mathlib.Omega.{arith}
use borrow.Author.Tests.{lt-ltb, le-ltb}
use Rattle.theory.specs.Forest.{Down, chain, hung}
use Rattle.theory.specs.Incidence.{load, Fits}
use Rattle.theory.specs.Network.{Network, node, on_side, FitsSide, FitsBoth, fits_both}
use Rattle.theory.specs.Formed.{Formed}
use Rattle.theory.specs.Spare.{spare_places, HasPlaces, again, along}
use Rattle.theory.specs.Lowered.{lesser, lowered}
use Rattle.theory.proofs.SumLaws.{sum-le, same_self, same-ne}
use Rattle.theory.proofs.ForestLaws.{forest-ind, walk-in, chain-out, chain-in, chain-small}
use Rattle.theory.proofs.NetworkLaws.{formed-down}
use Rattle.theory.proofs.SpareLaws.{again-formed, again-fits, fits-again}
use Rattle.theory.proofs.SpareLaws.{spare-unfit, spare-most, spare-places, places-spare, spare-greatest}
use Rattle.theory.proofs.ListsLaws.{SameLists}
use Rattle.theory.proofs.TestLaws.{either, both_true, true-both}

--------------------------------------------------------------------------------
-- The lesser of two limits

pub lesser-top : (G above limit x : ℕ) → G ≤ above → lesser G above limit x ≡ limit
lesser-top G above limit x h = rw (le-ltb _ _ h)

module _ (G : ℕ) (parent : ℕ → ℕ) (down : Down G parent) (limit : ℕ → ℕ) where
  pub lowered-step : (v : ℕ) → v < G → lowered G parent limit v ≡ lesser G (parent v) (limit v) (lowered G parent limit (parent v))
  unfolding lowered
  lowered-step v l = walk-in G parent down (λ r. 0) (λ n x. lesser G (parent n) (limit n) x) v l

  pub lowered-top : (v : ℕ) → v < G → G ≤ parent v → lowered G parent limit v ≡ limit v
  lowered-top v l h = lowered-step v l ∙ rw (le-ltb _ _ h)

  pub lowered-below : (v : ℕ) → v < G → parent v < G → lowered G parent limit v ≡ min (limit v) (lowered G parent limit (parent v))
  lowered-below v l h = lowered-step v l ∙ rw (lt-ltb _ _ h)

  pub lowered-le : (v : ℕ) → v < G → lowered G parent limit v ≤ limit v
  lowered-le v l =
      elim (dec_lt (parent v) G) [
        | yes h ↦ omega (arith, lowered-below v l h)
        | no h ↦ omega (arith, lowered-top v l (omega arith))
      ]

  pub lowered-mono : (v : ℕ) → v < G → parent v < G → lowered G parent limit v ≤ lowered G parent limit (parent v)
  lowered-mono v l h = omega (arith, lowered-below v l h)

  -- "the minimum over the chain": no limit on the chain is less
  pub lowered-least : (u v : ℕ) → v < G → chain G parent v u ≡ 1 → lowered G parent limit v ≤ limit u
  lowered-least u =
      forest-ind G parent down (λ v. v < G → chain G parent v u ≡ 1 → lowered G parent limit v ≤ limit u)
      (λ v h l e. absurd (omega arith))
      (λ v h i l e.
      elim (ℕ_discrete v u) [
        | yes q ↦ omega (arith, lowered-le v l, ap limit q)
        | no q ↦
            let on : chain G parent (parent v) u ≡ 1 = omega (arith, chain-in G parent down v u l, same-ne v u q) in
            elim (dec_lt (parent v) G) [
              | yes m ↦ omega (arith, lowered-mono v l m, i m on)
              | no m ↦ absurd (omega (arith, on, chain-out G parent down (parent v) u (omega arith)))
            ]
      ])

  -- and one of them is it
  pub lowered_is : (v : ℕ) → v < G → (u : ℕ) × (u < G) × (chain G parent v u ≡ 1) × (lowered G parent limit v ≡ limit u)
  lowered_is =
      forest-ind G parent down
      (λ v. v < G → (u : ℕ) × (u < G) × (chain G parent v u ≡ 1) × (lowered G parent limit v ≡ limit u))
      (λ v h l. absurd (omega arith))
      (λ v h i l.
      elim (dec_lt (parent v) G) [
        | yes m ↦
            elim (dec_lt (lowered G parent limit (parent v)) (limit v)) [
              | yes less ↦
                  let r = i m in (
                    r.0,
                    r.1,
                    omega (
                      arith,
                      chain-in G parent down v r.0 l,
                      r.2,
                      chain-small G parent down v r.0,
                    ),
                    omega (arith, lowered-below v l m, r.3),
                  )
              | no more ↦ (v, l, self v l, omega (arith, lowered-below v l m))
            ]
        | no m ↦ (v, l, self v l, lowered-top v l (omega arith))
      ])
    where
      self : (v : ℕ) → v < G → chain G parent v v ≡ 1
      self v l = omega (arith, chain-in G parent down v v l, same_self v, chain-small G parent down v v)

  pub lowered-only :
      (x : ℕ → ℕ) → ((v : ℕ) → v < G → x v ≡ lesser G (parent v) (limit v) (x (parent v))) →
      (v : ℕ) → v < G → x v ≡ lowered G parent limit v
  lowered-only x step =
      forest-ind G parent down (λ v. v < G → x v ≡ lowered G parent limit v) (λ v h l. absurd (omega arith))
      (λ v h i l.
      elim (dec_lt (parent v) G) [
        | yes m ↦ step v l ∙ ap (lesser G (parent v) (limit v)) (i m) ∙ sym (lowered-step v l)
        | no m ↦ step v l ∙ lesser-top G (parent v) (limit v) (x (parent v)) (omega arith) ∙ sym (lowered-top v l (omega arith))
      ])

  pub lowered-same :
      ((v : ℕ) → v < G → (G ≤ parent v) ⊎ (limit v ≤ limit (parent v))) → (v : ℕ) → v < G → lowered G parent limit v ≡ limit v
  lowered-same fit =
      forest-ind G parent down (λ v. v < G → lowered G parent limit v ≡ limit v) (λ v h l. absurd (omega arith))
      (λ v h i l.
      elim (fit v l) [
        | inl top ↦ lowered-top v l top
        | inr le ↦
            elim (dec_lt (parent v) G) [
              | yes m ↦ omega (arith, lowered-below v l m, i m)
              | no m ↦ lowered-top v l (omega arith)
            ]
      ])

module _ (G : ℕ) (parent : ℕ → ℕ) (down : Down G parent) where
  -- a chain that passes a node passes its parent
  pub chain-parent : (v : ℕ) → v < G → parent v < G → (w : ℕ) → chain G parent w v ≤ chain G parent w (parent v)
  chain-parent v l m =
      forest-ind G parent down (λ w. chain G parent w v ≤ chain G parent w (parent v))
      (λ w h. omega (arith, chain-out G parent down w v h))
      (λ w h i.
      elim (ℕ_discrete w v) [
        | yes e ↦
            rw e
            (omega (
              arith,
              chain-small G parent down v v,
              chain-in G parent down v (parent v) l,
              chain-in G parent down (parent v) (parent v) m,
              same_self (parent v),
            ))
        | no e ↦
            omega (arith, chain-in G parent down w v h, same-ne w v e, chain-in G parent down w (parent v) h, i)
      ])

  module _ (N : ℕ) (a : ℕ → ℕ) where
    pub load-parent :
        (X : ℕ → ℕ) (v : ℕ) → v < G → parent v < G →
        load N (hung G parent a) X v ≤ load N (hung G parent a) X (parent v)
    unfolding load
    load-parent X v l m = sum-le N (λ c h. mul-le-mul_left (X c) (chain-parent v l m (a c)))

    module _ (limit : ℕ → ℕ) where
      pub lowered-fits : (X : ℕ → ℕ) → Fits N G (hung G parent a) (lowered G parent limit) X → Fits N G (hung G parent a) limit X
      lowered-fits X f v l = omega (arith, f v l, lowered-le G parent down limit v l)

      pub fits-lowered : (X : ℕ → ℕ) → Fits N G (hung G parent a) limit X → Fits N G (hung G parent a) (lowered G parent limit) X
      fits-lowered X f =
          forest-ind G parent down (λ v. v < G → load N (hung G parent a) X v ≤ lowered G parent limit v)
          (λ v h l. absurd (omega arith))
          (λ v h i l.
          elim (dec_lt (parent v) G) [
            | yes m ↦ omega (arith, f v l, lowered-below G parent down limit v l m, load-parent X v l m, i m)
            | no m ↦ omega (arith, f v l, lowered-top G parent down limit v l (omega arith))
          ])

--------------------------------------------------------------------------------
-- A network with lowered limits

module _ (d : Network) (formed : Formed d) (limit : ℕ → ℕ) where
  abbrev low : ℕ → ℕ
  low = lowered d.groups d.parent limit

  pub side-lowered : (side : ℕ) (X : ℕ → ℕ) → FitsSide d limit side X → FitsSide d low side X
  unfolding on_side
  side-lowered side = fits-lowered d.groups d.parent (formed-down d formed) d.rows (node d side) limit

  pub lowered-side : (side : ℕ) (X : ℕ → ℕ) → FitsSide d low side X → FitsSide d limit side X
  unfolding on_side
  lowered-side side = lowered-fits d.groups d.parent (formed-down d formed) d.rows (node d side) limit

  pub lowered-lists :
      (kind : ℕ → ℕ) →
      SameLists (record { net = d; limit = limit; kind = kind }) (record { net = d; limit = low; kind = kind })
  lowered-lists kind =
      record { rows = refl; kinds = λ c h. refl; there = side-lowered; home = lowered-side }

-- a number of further rows fits beside X by lowered limits exactly where it does by those that were lowered
module _ (d : Network) (formed : Formed d) (limit X : ℕ → ℕ) (x : ℕ) (inside : x < d.rows) where
  abbrev low-limits : ℕ → ℕ
  low-limits = lowered d.groups d.parent limit

  both-lowered : FitsBoth d limit X → FitsBoth d low-limits X
  both-lowered fits = (side-lowered d formed limit 0 X fits.0, side-lowered d formed limit 1 X fits.1)

  module _ (fits : FitsBoth d limit X) (k : ℕ) where
    abbrev more : Network
    more = again d x k

    abbrev formed-more : Formed more
    formed-more = again-formed d x k formed inside

    places-lowered : HasPlaces d limit X x k → HasPlaces d low-limits X x k
    places-lowered places =
        let all = along d.rows X in
        let further = again-fits d formed limit X x inside fits k places in
        fits-again d formed low-limits X x inside (both-lowered fits) k
        (side-lowered more formed-more limit 0 all further.0, side-lowered more formed-more limit 1 all further.1)

    lowered-places : HasPlaces d low-limits X x k → HasPlaces d limit X x k
    lowered-places places v l e =
        omega (arith, places v l e, lowered-le d.groups d.parent (formed-down d formed) limit v l)

  spare-fitting : FitsBoth d limit X → spare_places d low-limits X x ≡ spare_places d limit X x
  spare-fitting fits =
      let low_fits = both-lowered fits in
      let n = spare_places d low-limits X x in
      spare-greatest d formed limit X x inside fits n (spare-most d low-limits X x)
      (lowered-places fits n (spare-places d formed low-limits X x inside low_fits n (le_refl n)))
      (λ k most places. places-spare d formed low-limits X x inside low_fits k most (places-lowered fits k places))

  spare-failing : ¬ FitsBoth d limit X → spare_places d low-limits X x ≡ spare_places d limit X x
  spare-failing unfit =
      spare-unfit d low-limits X x
      (λ f. unfit (lowered-side d formed limit 0 X f.0, lowered-side d formed limit 1 X f.1))
      ∙ sym (spare-unfit d limit X x unfit)

  pub spare-lowered : spare_places d low-limits X x ≡ spare_places d limit X x
  spare-lowered =
      elim (either (fits_both d limit X)) [
        | inl e ↦ spare-fitting (both_true d limit X e)
        | inr e ↦ spare-failing (λ f. absurd (true≢false (sym (true-both d limit X f) ∙ e)))
      ]
