-- Laws of one step in the buffers: a node is reached, or the other end's is met.
--   base-most spot-low rise-small fall-small    bounds on what is picked by the direction
--   base-other             the labels of the other direction
--   tried-reached tried-joins tried-past    a step is taken: to a fresh node, to one that the other end reached, or to another
--   looked-tried looked-by looked-none looked-as    an arc is looked along that is a step, or that is none
--   side-told side-shop side-card row_ends item-leads    the side of a node, and the rows that hang there
use mathlib.Core.Path.{◌≡◌, refl, sym, ap, ◌∙◌}
use mathlib.Core.Logic.{◌≢◌, inl, inr, ⊎_elim}
use mathlib.Core.Bool.{Bool, true, false, not, ◌&&◌, true≢false}
use mathlib.Core.List.{List, []}
use Prim.Native.Nat.{ℕ, ◌+◌, ◌≤◌, ◌<◌}
use native.Mathlib.Decide.{dec_lt}
use native.Mathlib.Omega.{arith}
use lib.Dec.{leb, eqb}
use borrow.Author.Tests.{leb-true, leb-false, eqb-true, eqb-false, not-true, not-false}
use Rattle.theory.specs.Sum.{pick}
use Rattle.theory.specs.Network.{Network}
use Rattle.theory.specs.Formed.{CardNode, ShopNode, Formed}
use Rattle.theory.proofs.TestLaws.{and-true, and-false}
use Rattle.scratch.specs.declared.Shape.{Shape}
use Rattle.scratch.specs.Map.{span, arc_in, label_of, queue_of, card_of, shop_of, kept_of, labels, queues, Few, Put}
use Rattle.scratch.specs.View.{net_of, residual_of}
use Rattle.scratch.proofs.MapLaws.{keeps_then, put_keeps}
use Rattle.residual.specs.Items.{AtItem, rise_at, fall_at}
use Rattle.residual.proofs.ListLaws.{row_of}
use Rattle.look.specs.Look.{Leads, Ends}
use Rattle.look.proofs.LookLaws.{row-leads}
use Rattle.meet.specs.Ends.{base, spot}
use Rattle.meet.specs.Meet.{seen_by, byte_from, SideOf, Tried, Looked}

pub base-most : (back : Bool) (f : ℕ) {x : ℕ} → x ≡ base back f → x ≤ f + span
base-most true f e = omega arith
base-most false f e = omega arith

pub spot-low : (g : ℕ) (back : Bool) (n : ℕ) {x : ℕ} → x ≡ spot g back n → n ≤ g + 2 → x < g + 3
spot-low g true n e l = omega arith
spot-low g false n e l = omega arith

-- the number of the arc between a group and its parent, in either direction
module _ (sh : Shape) (F : Few sh) (v : ℕ) (l : v < sh.groups) {e : ℕ} where
  pub rise-small : (back : Bool) → e ≡ rise_at (net_of sh []) back v → e + 1 < span
  rise-small true i = omega (arith, F.groups, F.rows)
  rise-small false i = omega (arith, F.groups, F.rows)

  pub fall-small : (back : Bool) → e ≡ fall_at (net_of sh []) back v → e + 1 < span
  fall-small true i = omega (arith, F.groups, F.rows)
  fall-small false i = omega (arith, F.groups, F.rows)

pub base-other : (back : Bool) (f : ℕ) → pick back f (f + span) ≡ base (not back) f
base-other true f = refl
base-other false f = refl

module _ (sh : Shape) (back : Bool) (t : List ℕ) (v e n : ℕ) {was : ℕ} (at : was ≡ label_of sh t v) where
  pub tried-reached :
      {m t' : List ℕ} {b i : ℕ} → was ≡ sh.fresh → b ≡ base back sh.fresh → Put sh t m labels v (b + e + 1) →
      i ≡ spot sh.groups back n → Put sh m t' queues i v → Tried sh back t t' v e n (n + 1) 0
  tried-reached {m} {t'} new named P placed Q =
      let p : label_of sh t' ≡ label_of sh m = Q.rest labels (λ k. omega arith) in
      let q : queue_of sh m ≡ queue_of sh t = P.rest queues (λ k. omega arith) in
      inl (
        record {
          new = sym at ∙ new;
          only = keeps_then (put_keeps (omega arith) P) (put_keeps (omega arith) Q);
          label = rw (p, sym named) P.puts;
          queue = rw (q, placed) at Q.puts;
          more = refl;
        },
        refl,
      )

  -- what the label says of the other direction
  told : {a b : ℕ} → b ≡ pick back sh.fresh (sh.fresh + span) → a ≡ arc_in b was → a ≡ seen_by sh (not back) t v
  told {a} {b} is says =
      says ∙ ap (λ (x : ℕ). arc_in x was) (is ∙ base-other back sh.fresh) ∙ ap (arc_in (base (not back) sh.fresh)) at

  pub tried-joins :
      {a b : ℕ} → b ≡ pick back sh.fresh (sh.fresh + span) → a ≡ arc_in b was → 0 < a → Tried sh back t t v e n n (e + 1)
  tried-joins is says some = inr (inl (record { same = refl; count = refl }, (refl, omega (arith, told is says))))

  pub tried-past :
      {a b : ℕ} → b ≡ pick back sh.fresh (sh.fresh + span) → a ≡ arc_in b was → was ≢ sh.fresh → a ≤ 0 →
      Tried sh back t t v e n n 0
  tried-past is says old none =
      inr (inr (record { same = refl; count = refl }, (refl, (λ z. old (at ∙ z), omega (arith, told is says)))))

module _ {sh : Shape} {back : Bool} {ch sheet t : List ℕ} {u v e n : ℕ} {b : Bool} (L : Leads sh back ch sheet t e u v b) where
  pub looked-tried :
      {t' : List ℕ} {n' hit : ℕ} → v < sh.groups + 2 → e + 1 < span → b ≡ true → Tried sh back t t' v e n n' hit →
      Looked sh back ch sheet t t' u e n n' hit
  looked-tried l m leads T = record {
    step =
        elim T [
          | inl w ↦
              let R = w.0 in
              inl (
                (R.only, record { v = v; node = l; arc = L.yes leads; new = R.new; small = m; label_puts = R.label; queue_puts = R.queue }),
                (R.more, w.1),
              )
          | inr w ↦
              inr (elim w [
                | inl h ↦ inl (h.0, (record { v = v; arc = L.yes leads; met = h.1.1 }, h.1.0))
                | inr h ↦
                    inr (
                      h.0,
                      (
                        λ x A.
                            let same : v ≡ x = sym (L.only x A).1 in
                            (rw same at h.1.1.0, rw same at h.1.1.1),
                        h.1.0,
                      ),
                    )
              ])
        ];
  }

  pub looked-none : b ≡ false → Looked sh back ch sheet t t u e n n 0
  looked-none stops = record {
    step = inr (inr (record { same = refl; count = refl }, (λ x A. absurd (true≢false (sym (L.only x A).0 ∙ stops)), refl)));
  }

-- where the number of the arc was picked by the direction
pub looked-by :
    {sh : Shape} {back : Bool} {ch sheet t t' : List ℕ} {u v e f n n' hit : ℕ} {b : Bool} → e ≡ f → Leads sh back ch sheet t f u v b →
    v < sh.groups + 2 → e + 1 < span → b ≡ true → Tried sh back t t' v e n n' hit → Looked sh back ch sheet t t' u f n n' hit
looked-by i L l m leads T = looked-tried L l (rw i at m) leads (rw i at T)

pub looked-as :
    {sh : Shape} {back : Bool} {ch sheet t t' : List ℕ} {u e f n n' hit : ℕ} → e ≡ f → Looked sh back ch sheet t t' u e n n' hit →
    Looked sh back ch sheet t t' u f n n' hit
looked-as i L = rw i at L

--------------------------------------------------------------------------------
-- The side of a node

-- by the tests of the code
pub side-told :
    (d : Network) (u : ℕ) → u < d.groups + 2 → SideOf d u (leb d.cards u && not (eqb u d.groups))
side-told d u l = record {
  yes = λ h.
      let w = and-true (leb d.cards u) (not (eqb u d.groups)) h in
      let low = leb-true d.cards u w.0 in
      let away = eqb-false u d.groups (not-true (eqb u d.groups) w.1) in
      elim (dec_lt u d.groups) [ yes k ↦ inl (low, k) | no k ↦ inr (omega (arith, away)) ];
  no = λ h. ⊎_elim
      (λ z. inl (leb-false d.cards u z))
      (λ z. inr (eqb-true u d.groups (not-false (eqb u d.groups) z)))
      (and-false (leb d.cards u) (not (eqb u d.groups)) h);
}

sides-differ : (d : Network) → d.cards ≤ d.groups → {u v : ℕ} → CardNode d u → ShopNode d v → u ≢ v
sides-differ d s C S e =
    ⊎_elim
    (λ c. ⊎_elim (λ h. omega (arith, c, h.0, e)) (λ h. omega (arith, c, h, e)) S)
    (λ c. ⊎_elim (λ h. omega (arith, c, h.1, e)) (λ h. omega (arith, c, h, e)) S)
    C

module _
    {sh : Shape} {sheet t : List ℕ} {u j : ℕ} {b : Bool} (A : AtItem sh sheet t u j) (F : Formed (net_of sh t)) (D : SideOf (net_of sh t) u b)
    (l : j < sh.rows)
  where
    pub side-shop : b ≡ true → card_of sh t j ≢ u
    side-shop shops e = sides-differ (net_of sh t) F.sides (F.card_node j l) (D.yes shops) e

    pub side-card : b ≡ false → card_of sh t j ≡ u
    side-card cards =
        ⊎_elim (λ e. e) (λ e. absurd (sides-differ (net_of sh t) F.sides (D.no cards) (F.shop_node j l) (sym e)))
        (row_of (residual_of sh sheet t) l A.item).at

    shop-here : b ≡ true → shop_of sh t j ≡ u
    shop-here shops = ⊎_elim (λ e. absurd (side-shop shops e)) (λ e. e) (row_of (residual_of sh sheet t) l A.item).at

-- row j as a step from u to v
pub row_ends :
    {sh : Shape} {sheet t : List ℕ} (back b : Bool) {u j v x : ℕ} → AtItem sh sheet t u j → Formed (net_of sh t) → SideOf (net_of sh t) u b →
    j < sh.rows → v ≡ pick b (card_of sh t j) (shop_of sh t j) → x ≡ byte_from back b → Ends sh back t j u v x
row_ends back true A F D l node byte = record { row = l; ends = inr (byte, (sym (shop-here A F D l refl), node)) }
row_ends back false A F D l node byte = record { row = l; ends = inl (byte, (sym (side-card A F D l refl), node)) }

pub item-leads :
    {sh : Shape} {ch sheet t : List ℕ} (back b : Bool) {u j v x y : ℕ} → Formed (net_of sh t) → AtItem sh sheet t u j → SideOf (net_of sh t) u b →
    j < sh.rows → v ≡ pick b (card_of sh t j) (shop_of sh t j) → x ≡ byte_from back b → y ≡ kept_of ch j →
    Leads sh back ch sheet t (sh.groups + j) u v (eqb y x)
item-leads {sh} {ch} {sheet} {t} back b {u} {j} F A D l node byte kept =
    row-leads sh ch sheet t back F (row_ends back b A F D l node byte) A.live (row_of (residual_of sh sheet t) l A.item) kept
