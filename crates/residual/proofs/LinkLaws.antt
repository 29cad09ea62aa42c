-- Laws of the item lists in the buffer.
--   hung-first             where the item is not listed, the first ones are as they were
--   linked-still           other places left, where what was not listed is not to be
--   hung-only only-residual only-spare links-keep    what linking leaves alone, and what leaves the lists alone
--   links-of               the lists that stand after linking
--   parent-node card-node shop-node    the nodes of a child and of a row
--   hangs-even hangs-room      whether a child is listed
--   child-linked row-linked    a child, and a row at both its nodes, or at none
--   dropped-placed         a row leaves its lists
--   item-shop              a row that does not hang at its card node hangs at its shop node
--   after-child after-card after-shop    the next item
use mathlib.Core.Path.{◌≡◌, refl, sym, ap, ◌∙◌}
use mathlib.Core.Logic.{◌≢◌, inr, ⊎_elim}
use mathlib.Core.Bool.{Bool, true, false, ◌&&◌}
use mathlib.Core.List.{List}
use Prim.Native.Nat.{ℕ, ◌+◌, ◌-◌, ◌≤◌, ◌<◌}
use native.Mathlib.Omega.{arith}
use lib.Dec.{eqb}
use borrow.Author.Tests.{eqb-true, eqb-false}
use Rattle.theory.specs.Residual.{Residual, dues}
use Rattle.theory.specs.Turn.{Puts}
use Rattle.theory.proofs.ResidualLaws.{card-below, shop-below, parent-below, sides_apart}
use Rattle.theory.proofs.TestLaws.{either, and-true, and-false}
use Rattle.theory.proofs.TurnLaws.{puts-at}
use Rattle.scratch.specs.declared.Shape.{Shape}
use Rattle.scratch.specs.Map.{first_of, after_child_of, after_card_of, after_shop_of, card_of, shop_of, parent_of, price_of, weight_of, spare_of, spares, firsts, child_afters, card_afters, shop_afters, parents, Keeps, OnlyLists}
use Rattle.scratch.specs.View.{net_of, residual_of}
use Rattle.residual.specs.Items.{Item, Unlisted, Least, Linked, Hangs, Links, Linkable, Hung, LinkOf, Dropped, Placed}
use Rattle.scratch.proofs.MapLaws.{keeps_then, residual-same}
use Rattle.residual.proofs.ListLaws.{child-of, row_of, linked-more, child-even, link-child, link-unlisted, link_row, drop-row}

pub hung-only :
    {sh : Shape} {t t' : List ℕ} {k i u j : ℕ} {b : Bool} → firsts < k → k < parents → Hung sh t t' k i u j b → OnlyLists sh t t'
hung-only a b H = record {
  long = H.long;
  rest = λ l n. H.rest l (λ e. n (omega arith, omega arith)) (λ e. n (omega arith, omega arith));
}

-- where the item is not listed, the first ones are as they were
pub hung-first : {sh : Shape} {t t' : List ℕ} {k i u j : ℕ} → Hung sh t t' k i u j false → (v : ℕ) → first_of sh t' v ≡ first_of sh t v
hung-first {sh} {t} H v = ⊎_elim (λ w. w.1 ∙ ap (first_of sh t) (sym w.0)) (λ w. w.1) (puts-at H.first v)

-- lists over the same network and the same places
linked-as :
    {r r' : Residual} {spare spare' first child card shop : ℕ → ℕ} {lo : ℕ} → r' ≡ r → spare' ≡ spare →
    Linked r spare first child card shop lo → Linked r' spare' first child card shop lo
linked-as e p L = rw (e, p) L

-- over other places, where what was not listed is not to be
module _
    {r : Residual} {spare spare' : ℕ → ℕ} (still : (u j : ℕ) → Item r u j → Unlisted r spare u j → Unlisted r spare' u j)
  where
    least-still : {u lo k : ℕ} → Least r spare u lo k → Least r spare' u lo k
    least-still {u} L =
        record { low = L.low; high = L.high; item = L.item; none = λ i l m h. still u i h (L.none i l m h) }

    pub linked-still :
        {first child card shop : ℕ → ℕ} {lo : ℕ} → Linked r spare first child card shop lo → Linked r spare' first child card shop lo
    linked-still L = record {
      at_first = λ u l. least-still (L.at_first u l);
      at_child = λ v l m e. least-still (L.at_child v l m e);
      at_card = λ c l m e. least-still (L.at_card c l m e);
      at_shop = λ c l m e. least-still (L.at_shop c l m e);
    }

pub only-spare : {sh : Shape} {t t' : List ℕ} → OnlyLists sh t t' → spare_of sh t' ≡ spare_of sh t
only-spare A = A.rest spares (λ p. omega (arith, p.0))

module _ {sh : Shape} (sheet : List ℕ) {t t' : List ℕ} where
  pub only-residual : OnlyLists sh t t' → residual_of sh sheet t' ≡ residual_of sh sheet t
  only-residual A = residual-same sheet (λ k l p. omega (arith, p.1)) A

  -- lists that nothing touched
  pub links-keep :
      {P : ℕ → Type 0} {lo : ℕ} → ((k : ℕ) → spares ≤ k → P k → ⊥) → Keeps sh P t t' → Links sh sheet t lo → Links sh sheet t' lo
  links-keep n A L =
      rw (
        A.rest firsts (n firsts (omega arith)),
        A.rest child_afters (n child_afters (omega arith)),
        A.rest card_afters (n card_afters (omega arith)),
        A.rest shop_afters (n shop_afters (omega arith)),
      )
      (linked-as (residual-same sheet (λ k l. n k (omega arith)) A) (A.rest spares (n spares (omega arith))) L)

pub links-of : {sh : Shape} {sheet t t' : List ℕ} {lo : ℕ} → LinkOf sh sheet t t' lo → Links sh sheet t' lo
links-of {sheet = sheet} L = linked-as (only-residual sheet L.only) (only-spare L.only) L.linked

module _ {sh : Shape} {sheet t : List ℕ} (R : Linkable sh sheet t) where
  abbrev Res : Residual
  Res = residual_of sh sheet t

  pub parent-node : {u v : ℕ} → v < sh.groups → u ≡ parent_of sh t v → u < sh.groups + 2
  parent-node {v = v} l e = rw e (parent-below (net_of sh t) R.formed v l)

  module _ {v : ℕ} (l : v < sh.groups) (L : Links sh sheet t (sh.rows + v + 1)) where
    pub child-linked :
        {t' : List ℕ} {b : Bool} → Hangs Res (spare_of sh t) (parent_of sh t v) (sh.rows + v) b →
        Hung sh t t' child_afters v (parent_of sh t v) (sh.rows + v) b → LinkOf sh sheet t t' (sh.rows + v)
    child-linked {t'} {b} W H = record {
      only = hung-only (omega arith) (omega arith) H;
      linked =
          rw (H.rest card_afters (λ e. omega arith) (λ e. omega arith), H.rest shop_afters (λ e. omega arith) (λ e. omega arith))
          (⊎_elim yes no (either b));
    }
      where
        To : Type 0
        To = Linked Res (spare_of sh t) (first_of sh t') (after_child_of sh t') (after_card_of sh t) (after_shop_of sh t) (sh.rows + v)

        yes : b ≡ true → To
        yes e =
            let K : Hung sh t t' child_afters v (parent_of sh t v) (sh.rows + v) true = rw e at H in
            link-child Res v l (parent-node l refl) (child-even Res v l (W.yes e)) L K.first K.after

        no : b ≡ false → To
        no e =
            let K : Hung sh t t' child_afters v (parent_of sh t v) (sh.rows + v) false = rw e at H in
            link-unlisted Res v l (parent-node l refl) (W.no e) L (hung-first K) K.after

  -- a child of u that has its price is listed there; at the source, while there is a toll, only where it has a place left
  module _
      {u v x y : ℕ} (l : v < sh.groups) (at : u ≡ parent_of sh t v) (p : x ≡ price_of sh sheet u) (q : y ≡ price_of sh sheet v)
    where
      pub hangs-even : Hangs Res (spare_of sh t) u (sh.rows + v) (eqb x y)
      hangs-even = record {
        yes = λ e.
            inr (record {
              v = v;
              group = l;
              code = refl;
              at = sym at;
              even = sym (p ∙ ap (price_of sh sheet) at) ∙ eqb-true x y e ∙ q;
            });
        no = λ e h. absurd (eqb-false x y e (p ∙ ap (price_of sh sheet) at ∙ child-even Res v l h ∙ sym q));
      }

      pub hangs-room :
          {some : Bool} → u ≡ sh.groups → 0 < sh.toll → (some ≡ false → spare_of sh t v ≡ 0) →
          Hangs Res (spare_of sh t) u (sh.rows + v) (eqb x y && some)
      hangs-room {some} source tolled full = record {
        yes = λ e. hangs-even.yes (and-true (eqb x y) some e).0;
        no = λ e h.
            ⊎_elim
            (λ i. hangs-even.no i h)
            (λ o. record { tolled = tolled; source = source; v = v; code = refl; full = full o })
            (and-false (eqb x y) some e);
      }

  module _ {c : ℕ} (l : c < sh.rows) where
    pub card-node : {u : ℕ} → u ≡ card_of sh t c → u < sh.groups + 2
    card-node e = rw e (card-below (net_of sh t) R.formed c l)

    pub shop-node : {u : ℕ} → u ≡ shop_of sh t c → u < sh.groups + 2
    shop-node e = rw e (shop-below (net_of sh t) R.formed c l)

    apart : shop_of sh t c ≢ card_of sh t c
    apart = sides_apart (net_of sh t) R.formed c l

    module _ (L : Links sh sheet t (c + 1)) where
      pub row-linked :
          {t' t'' : List ℕ} {x y : ℕ} → x ≡ dues Res c → y ≡ weight_of sh t c → Hung sh t t' card_afters c (card_of sh t c) c (eqb x y) →
          Hung sh t' t'' shop_afters c (shop_of sh t c) c (eqb x y) → LinkOf sh sheet t t'' c
      row-linked {t'} {t''} {x} {y} p q A B = record {
        only = keeps_then O (hung-only (omega arith) (omega arith) B);
        linked = rw (kc, kv) (⊎_elim yes no (either (eqb x y)));
      }
        where
          O : OnlyLists sh t t'
          O = hung-only (omega arith) (omega arith) A

          kc : after_card_of sh t'' ≡ after_card_of sh t'
          kc = B.rest card_afters (λ e. omega arith) (λ e. omega arith)

          ks : after_shop_of sh t' ≡ after_shop_of sh t
          ks = A.rest shop_afters (λ e. omega arith) (λ e. omega arith)

          kv : after_child_of sh t'' ≡ after_child_of sh t
          kv =
              B.rest child_afters (λ e. omega arith) (λ e. omega arith)
              ∙ A.rest child_afters (λ e. omega arith) (λ e. omega arith)

          To : Type 0
          To = Linked Res (spare_of sh t) (first_of sh t'') (after_child_of sh t) (after_card_of sh t') (after_shop_of sh t'') c

          yes : eqb x y ≡ true → To
          yes e =
              let A' : Hung sh t t' card_afters c (card_of sh t c) c true = rw e at A in
              let B' : Hung sh t' t'' shop_afters c (shop_of sh t c) c true = rw e at B in
              let shops : Puts (after_shop_of sh t) (after_shop_of sh t'') c (first_of sh t' (shop_of sh t c)) = rw (← ks) B'.after in
              link_row Res c l (card-node refl) (shop-node refl) apart (sym p ∙ eqb-true x y e ∙ q) L A'.first A'.after
              B'.first shops

          no : eqb x y ≡ false → To
          no e =
              let A' : Hung sh t t' card_afters c (card_of sh t c) c false = rw e at A in
              let B' : Hung sh t' t'' shop_afters c (shop_of sh t c) c false = rw e at B in
              linked-more Res c (λ u h. eqb-false x y e (p ∙ (row_of Res l h).even ∙ sym q)) (λ u. hung-first B' u ∙ hung-first A' u)
              (λ v n. refl) A'.after.else (λ k n. B'.after.else k n ∙ ap (λ (f : ℕ → ℕ). f k) ks) L

    -- row c leaves its lists
    pub dropped-placed :
        {t' t'' : List ℕ} {a b x y : ℕ} → Links sh sheet t c → a ≡ card_of sh t c → b ≡ shop_of sh t c → x ≡ after_card_of sh t c →
        y ≡ after_shop_of sh t' c → Dropped sh t t' a c x → Dropped sh t' t'' b c y → Placed sh sheet t t'' c
    dropped-placed {t'} {t''} L ca sb xa yb A B =
        let K : Keeps sh (λ k. k ≡ firsts) t t'' = keeps_then A.only B.only in
        let ys : after_shop_of sh t' c ≡ after_shop_of sh t c = ap (λ (f : ℕ → ℕ). f c) (A.only.rest shop_afters (λ e. omega arith)) in
        let A' : Dropped sh t t' (card_of sh t c) c (after_card_of sh t c) = rw (ca, xa) at A in
        let B' : Dropped sh t' t'' (shop_of sh t c) c (after_shop_of sh t c) = rw (sb, yb ∙ ys) at B in
        record {
          only = K;
          lists =
              rw (
                K.rest child_afters (λ e. omega arith),
                K.rest card_afters (λ e. omega arith),
                K.rest shop_afters (λ e. omega arith),
              )
              (linked-as (residual-same sheet (λ k l e. omega arith) K) (K.rest spares (λ e. omega arith))
              (drop-row Res c l (card-node refl) (shop-node refl) apart L (A'.here, A'.else) (B'.here, B'.else)));
        }

--------------------------------------------------------------------------------
-- Empty lists

--------------------------------------------------------------------------------
-- One node of a row that leaves its lists

--------------------------------------------------------------------------------
-- Item j at node u, and the item after it

module _ (r : Residual) (u j : ℕ) (h : Item r u j) where
  pub item-shop : j < r.net.rows → r.net.card j ≢ u → r.net.shop j ≡ u
  item-shop l n = ⊎_elim (λ z. absurd (n z)) (λ z. z) (row_of r l h).at

  module _ {spare first child card shop : ℕ → ℕ} {lo : ℕ} (L : Linked r spare first child card shop lo) (m : lo ≤ j) where
    pub after-child : r.net.rows ≤ j → Least r spare u (j + 1) (child (j - r.net.rows))
    after-child l =
        let C = child-of r l h in
        let k : r.net.rows + C.v + 1 ≡ j + 1 = omega (arith, C.code) in
        let q : C.v ≡ j - r.net.rows = omega (arith, C.code) in
        rw (← q) (rw (C.at, k) at (L.at_child C.v C.group (omega (arith, C.code)) C.even))

    pub after-card : j < r.net.rows → r.net.card j ≡ u → Least r spare u (j + 1) (card j)
    after-card l a = rw a at (L.at_card j l m (row_of r l h).even)

    pub after-shop : j < r.net.rows → r.net.card j ≢ u → Least r spare u (j + 1) (shop j)
    after-shop l n = rw (item-shop l n) at (L.at_shop j l m (row_of r l h).even)
