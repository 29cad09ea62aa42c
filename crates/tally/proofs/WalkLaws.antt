-- Laws of the walks through the tables of a tally, whatever the tables are.
--   in-down                the parents make a forest
--   up-out up_above up_small   where a way up has no node, and that it has none twice
--   up_top up_next up-self     the nodes from u up, by the next of them
--   at_set                 a cell after a store
--   place_none place-full place-top place_up       what asking for places promises, case by case
--   one-full both-places       what asking for the places of a row promises
--   counted_none counted-top counted-up            what counting promises, case by case
--   counted-row                what counting a row promises
use mathlib.Core.Path.{◌≡◌, refl, sym, ap, ◌∙◌, subst}
use mathlib.Core.Bool.{Bool, true, false, false≢true, true≢false}
use mathlib.Core.Logic.{◌⊎◌, inl, inr, ◌≢◌}
use mathlib.Core.List.{List}
use Prim.Native.Nat.{ℕ, zero, suc, ◌+◌, ◌<◌, ◌≤◌}
use native.Mathlib.Decide.{ℕ_discrete, dec_lt}
use native.Mathlib.Omega.{arith}
use lib.ListN.{length, get_or, set, length-set}
use lib.Seq.{get_or-set_same, get_or-set_other}
use borrow.Author.Tests.{lt-ltb, le-ltb}
use Rattle.theory.specs.Sum.{same}
use Rattle.theory.specs.Forest.{Down}
use Rattle.theory.proofs.SumLaws.{same_self, same-ne}
use Rattle.theory.proofs.ForestLaws.{chain-out, chain-in, chain-above, chain-small}
use Rattle.tally.specs.Cells.{nodes}
use Rattle.tally.specs.Walks.{above_in, up_in, limit_in, node_in, HasPlace, HasPlaces, stepped, Counted, CountedRow}

-- a cell after a store
pub at_set :
    (k : List ℕ) (u x v : ℕ) → u < length k →
    ((v ≡ u) × (get_or (set k u x) v 0 ≡ x)) ⊎ ((v ≢ u) × (get_or (set k u x) v 0 ≡ get_or k v 0))
at_set k u x v h =
    elim (ℕ_discrete v u) [
      | yes e ↦ inl (e, ap (λ i. get_or (set k u x) i 0) e ∙ get_or-set_same k u x 0 h)
      | no e ↦ inr (e, get_or-set_other k u v x 0 e)
    ]

module _ (tb : List ℕ) where
  pub in-down : Down nodes (above_in tb)
  in-down v h =
      elim (dec_lt (get_or tb v 0) v) [
        | yes small ↦ inl (rw (lt-ltb _ _ small) small)
        | no large ↦
            let past : v ≤ get_or tb v 0 = omega arith in
            inr (rw (le-ltb _ _ past) (omega arith))
      ]

  pub up-out : (u v : ℕ) → nodes ≤ u → up_in tb u v ≡ 0
  up-out u v h = chain-out nodes (above_in tb) in-down u v h

  pub up_small : (u v : ℕ) → up_in tb u v ≤ 1
  up_small u v = chain-small nodes (above_in tb) in-down u v

  up_above : (u v : ℕ) → u < v → up_in tb u v ≡ 0
  up_above u v h = chain-above nodes (above_in tb) in-down u v h

  module _ (u : ℕ) (h : u < nodes) where
    -- a node without a smaller parent is the last
    up_top : u ≤ get_or tb u 0 → (v : ℕ) → up_in tb u v ≡ same u v
    up_top top v =
        chain-in nodes (above_in tb) in-down u v h
        ∙ ap (λ x. same u v + x) (ap (λ w. up_in tb w v) (rw (le-ltb _ _ top)) ∙ up-out nodes v (omega arith))
        ∙ omega arith

    up_next : (p : ℕ) → p ≡ get_or tb u 0 → p < u → (v : ℕ) → up_in tb u v ≡ same u v + up_in tb p v
    up_next p is small v =
        let below : get_or tb u 0 < u = omega arith in
        chain-in nodes (above_in tb) in-down u v h
        ∙ ap (λ x. same u v + x) (ap (λ w. up_in tb w v) (rw (lt-ltb _ _ below) (sym is)))

    up-self : up_in tb u u ≡ 1
    up-self =
        elim (dec_lt (get_or tb u 0) u) [
          | yes small ↦ omega (arith, up_next _ refl small u, same_self u, up_above (get_or tb u 0) u small)
          | no large ↦ omega (arith, up_top (omega arith) u, same_self u)
        ]

    -- a node on the way is u itself, or stands on the way from the node above
    on-top : u ≤ get_or tb u 0 → (v : ℕ) → up_in tb u v ≡ 1 → v ≡ u
    on-top top v one =
        elim (ℕ_discrete u v) [
          | yes e ↦ sym e
          | no e ↦ absurd (omega (arith, up_top top v, same-ne u v e))
        ]

    module _ (p : ℕ) (is : p ≡ get_or tb u 0) (small : p < u) where
      up-other : (v : ℕ) → u ≢ v → up_in tb u v ≡ up_in tb p v
      up-other v e = omega (arith, up_next p is small v, same-ne u v e)

      up-own : up_in tb p u ≡ 0
      up-own = up_above p u small

      -- the way from the node above stays on the way
      up_more : (v : ℕ) → up_in tb p v ≡ 1 → up_in tb u v ≡ 1
      up_more v one = omega (arith, up_next p is small v, up_small u v)

--------------------------------------------------------------------------------
-- Asking for places

module _ (tb k : List ℕ) (u : ℕ) where
  pub place_none : nodes ≤ u → HasPlace tb k u true
  place_none h = record {
    places = λ e v one. absurd (omega (arith, up-out tb u v h));
    full = λ e. absurd (true≢false e);
  }

  module _ (h : u < nodes) where
    pub place-full : limit_in tb u ≤ get_or k u 0 → HasPlace tb k u false
    place-full full = record {
      places = λ e. absurd (false≢true e);
      full = λ e. (u, h, up-self tb u h, full);
    }

    module _ (room : get_or k u 0 < limit_in tb u) (most : limit_in tb u ≤ 65535) where
      here : (v : ℕ) → v ≡ u → (get_or k v 0 < limit_in tb v) × (limit_in tb v ≤ 65535)
      here v e = (omega (arith, ap (λ i. get_or k i 0) e, ap (limit_in tb) e), omega (arith, ap (limit_in tb) e))

      pub place-top : u ≤ get_or tb u 0 → HasPlace tb k u true
      place-top top = record {
        places = λ e v one. here v (on-top tb u h top v one);
        full = λ e. absurd (true≢false e);
      }

      pub place_up : (p : ℕ) → p ≡ get_or tb u 0 → p < u → (r : Bool) → HasPlace tb k p r → HasPlace tb k u r
      place_up p is small r P = record {
        places = λ e v one.
            elim (ℕ_discrete u v) [
              | yes q ↦ here v (sym q)
              | no q ↦ P.places e v (omega (arith, up-other tb u h p is small v q))
            ];
        full = λ e. let f = P.full e in (f.0, f.1, up_more tb u h p is small f.0 f.2, f.3);
      }

--------------------------------------------------------------------------------
-- The places of a row

module _ (tb k : List ℕ) (c : ℕ) where
  -- what is said of a node is said of the row's node on a side
  place_at : (side u : ℕ) → u ≡ node_in tb side c → (r b : Bool) → r ≡ b → HasPlace tb k u r → HasPlace tb k (node_in tb side c) b
  place_at side u at r b is P = subst (HasPlace tb k (node_in tb side c)) is (subst (λ v. HasPlace tb k v r) at P)

  pub one-full :
      (side : ℕ) → side < 2 → (u : ℕ) → u ≡ node_in tb side c → (r : Bool) → r ≡ false → HasPlace tb k u r →
      HasPlaces tb k c false
  one-full side h u at r is P = record {
    places = λ e. absurd (false≢true e);
    full = λ e. (side, h, place_at side u at r false is P);
  }

  pub both-places :
      (a : ℕ) → a ≡ node_in tb 0 c → (r : Bool) → r ≡ true → HasPlace tb k a r →
      (b : ℕ) → b ≡ node_in tb 1 c → (q : Bool) → HasPlace tb k b q → HasPlaces tb k c q
  both-places a card r is P b shop q Q = record {
    places = each;
    full = λ e. (1, omega arith, place_at 1 b shop q false e Q);
  }
    where
      each : q ≡ true → (side : ℕ) → side < 2 → HasPlace tb k (node_in tb side c) true
      each e zero h = place_at 0 a card r true is P
      each e (suc zero) h = place_at 1 b shop q true e Q
      each e (suc (suc side)) h = absurd (omega arith)

--------------------------------------------------------------------------------
-- Counting

module _ (more : Bool) (tb k : List ℕ) (u : ℕ) where
  pub counted_none : nodes ≤ u → Counted more tb k k u
  counted_none h = record {
    long = refl;
    on = λ w v one. absurd (omega (arith, up-out tb u v h));
    off = λ v z. refl;
  }

  module _ (h : u < nodes) (x : ℕ) (is : x ≡ stepped more (get_or k u 0)) where
    -- the count of u itself, and those of the others
    own : nodes ≤ length k → (v : ℕ) → v ≡ u → get_or (set k u x) v 0 ≡ stepped more (get_or k v 0)
    own w v e =
        ap (λ i. get_or (set k u x) i 0) e
        ∙ get_or-set_same k u x 0 (omega arith)
        ∙ is
        ∙ ap (λ i. stepped more (get_or k i 0)) (sym e)

    others : (v : ℕ) → u ≢ v → get_or (set k u x) v 0 ≡ get_or k v 0
    others v e = get_or-set_other k u v x 0 (λ q. e (sym q))

    apart : (v : ℕ) → up_in tb u v ≡ 0 → u ≢ v
    apart v z e = omega (arith, up-self tb u h, ap (up_in tb u) e)

    pub counted-top : u ≤ get_or tb u 0 → Counted more tb k (set k u x) u
    counted-top top = record {
      long = length-set k u x;
      on = λ w v one. own w v (on-top tb u h top v one);
      off = λ v z. others v (apart v z);
    }

    pub counted-up :
        (k' : List ℕ) (p : ℕ) → p ≡ get_or tb u 0 → p < u → Counted more tb (set k u x) k' p → Counted more tb k k' u
    counted-up k' p next small C = record {
      long = C.long ∙ length-set k u x;
      on = λ w v one.
          elim (ℕ_discrete u v) [
            | yes e ↦ C.off v (ap (up_in tb p) (sym e) ∙ up-own tb u h p next small) ∙ own w v (sym e)
            | no e ↦
                C.on (omega (arith, length-set k u x)) v (omega (arith, up-other tb u h p next small v e))
                ∙ ap (stepped more) (others v e)
          ];
      off = λ v z.
          C.off v (omega (arith, up-other tb u h p next small v (apart v z))) ∙ others v (apart v z);
    }

pub counted-row :
    (more : Bool) (tb k k₁ k' : List ℕ) (c a b : ℕ) → a ≡ node_in tb 0 c → b ≡ node_in tb 1 c → Counted more tb k k₁ a →
    Counted more tb k₁ k' b → CountedRow more tb k k' c
counted-row more tb k k₁ k' c a b card shop C D = record {
  between = k₁;
  card = subst (Counted more tb k k₁) card C;
  shop = subst (Counted more tb k₁ k') shop D;
}
