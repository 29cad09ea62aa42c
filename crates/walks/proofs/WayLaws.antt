-- Laws of the ways on from a node.
--   leads-room leads-shut  the arc up, by its tests one after the other
--   goes-fresh goes-stale goes-open goes-shut goes-as goes-is leads-as    whether an arc leads to a fresh node
--   rise-leads rise-shut fall-leads child-leads goes-child child-arc row-arc card-leads shop-leads
--                          the arcs up and down, and the arc of an item
--   onto-of onto-ways ways-none    the way along an arc, and no way
--   standing-item standing-point chosen-half   what looking along an item asks, and its number
--   opening-first opening-next opening-found opening-end    the items, one after another
--   card-group shop-group ways-up     a card or a shop is a group; of a card that has no item left, the way up
--   put-standing put-chosen        the cell of a node is moved
--   went_on went_up went-both      a way past items, a way up alone, and the one where there is not the other
use mathlib.Core.Path.{◌≡◌, refl, sym, ap, ◌∙◌}
use mathlib.Core.Logic.{◌≢◌, inl, inr, ⊎_elim}
use mathlib.Core.Bool.{Bool, true, false, ◌&&◌, ◌||◌, not, true≢false}
use mathlib.Core.List.{List}
use Prim.Native.Nat.{ℕ, ◌+◌, ◌-◌, ◌≤◌, ◌<◌}
use native.Mathlib.Decide.{ℕ_discrete, dec_lt}
use native.Mathlib.Omega.{arith}
use lib.Dec.{ltb, leb, eqb}
use borrow.Author.Tests.{ltb-true, lt-ltb, le-leb, eqb-true, eqb-false}
use Rattle.theory.specs.Residual.{Residual}
use Rattle.theory.proofs.TurnLaws.{puts-at}
use Rattle.theory.proofs.TestLaws.{and-true, true-and}
use Rattle.scratch.specs.declared.Shape.{Shape}
use Rattle.scratch.specs.Map.{label_of, labels, queue_of, spare_of, parent_of, card_of, shop_of, kept_of, price_of, queues, half, Put, OnlySearch}
use Rattle.scratch.specs.View.{net_of, residual_of}
use Rattle.scratch.proofs.MapLaws.{keeps-none, put_keeps}
use Rattle.residual.specs.State.{Ready}
use Rattle.residual.specs.Items.{AtItem, ChildItem, ItemArc, Least, rise_at, fall_at, arc_at}
use Rattle.look.specs.Look.{Leads}
use Rattle.look.proofs.LookLaws.{up-leads, down-leads, row-leads}
use Rattle.look.proofs.ReachLaws.{arc-row, arc-child, unlisted-step}
use Rattle.look.proofs.StepLaws.{same_tables, tables-same, same-ready, same_lists, item-down, item-row, ends-card, ends-shop, at_shop}
use Rattle.search.specs.Search.{Rising}
use Rattle.walks.specs.Walk.{Pointed, Ahead, Fresh, Goes, Ways, FreshOf, GoesOf, BarrenOf, WaysOf, Beyond, Onto, Standing, Chosen}
use Rattle.walks.specs.Walk.{Opened, Went}

--------------------------------------------------------------------------------
-- One arc

module _ {sh : Shape} {ch sheet t : List ℕ} {e u v : ℕ} where
  -- the two tests of the arc up, the second one first
  pub leads-room : {a b : Bool} → b ≡ true → Leads sh false ch sheet t e u v (a && b) → Leads sh false ch sheet t e u v a
  leads-room {a} {b} h L = record {
    yes = λ k. L.yes (true-and a b k h);
    only = λ w A. let o = L.only w A in ((and-true a b o.0).0, o.1);
  }

  pub leads-shut : (a : Bool) {b : Bool} → b ≡ false → Leads sh false ch sheet t e u v (a && b) → GoesOf sh ch sheet t e u false
  leads-shut a {b} h L = record {
    yes = λ k. absurd (true≢false (sym k));
    no = λ k F. true≢false (sym (and-true a b (L.only F.v F.arc).0).1 ∙ h);
  }

  module _ {b : Bool} (L : Leads sh false ch sheet t e u v b) where
    pub goes-fresh : label_of sh t v ≡ sh.fresh → GoesOf sh ch sheet t e u b
    goes-fresh z = record {
      yes = λ h. record { v = v; arc = L.yes h; new = z };
      no = λ h F. true≢false (sym (L.only F.v F.arc).0 ∙ h);
    }

    pub goes-stale : label_of sh t v ≢ sh.fresh → GoesOf sh ch sheet t e u false
    goes-stale z = record {
      yes = λ h. absurd (true≢false (sym h));
      no = λ h F. z (ap (label_of sh t) (sym (L.only F.v F.arc).1) ∙ F.new);
    }

    pub goes-open : {x : Bool} → b ≡ true → x ≡ eqb (label_of sh t v) sh.fresh → GoesOf sh ch sheet t e u x
    goes-open h i = record {
      yes = λ k. record { v = v; arc = L.yes h; new = eqb-true (label_of sh t v) sh.fresh (sym i ∙ k) };
      no = λ k F.
          eqb-false (label_of sh t v) sh.fresh (sym i ∙ k)
          (ap (label_of sh t) (sym (L.only F.v F.arc).1) ∙ F.new);
    }

    pub goes-shut : b ≡ false → GoesOf sh ch sheet t e u false
    goes-shut h = record {
      yes = λ k. absurd (true≢false (sym k));
      no = λ k F. true≢false (sym (L.only F.v F.arc).0 ∙ h);
    }

    -- the arc that leads to a fresh node leads to v
    pub onto-of : {f : ℕ} → f ≡ e → label_of sh t u ≢ sh.fresh → FreshOf sh ch sheet t e u → Onto sh ch sheet t u f v
    onto-of {f} i stale F =
        let j : F.v ≡ v = (L.only F.v F.arc).1 in
        let new : label_of sh t v ≡ sh.fresh = ap (label_of sh t) (sym j) ∙ F.new in
        record {
          away = λ z. stale (ap (label_of sh t) (sym z) ∙ new);
          arc = rw (i, sym j) F.arc;
          new = new;
        }

pub goes-as :
    {r : Residual} {S spare label : ℕ → ℕ} {b e f u : ℕ} {x : Bool} → e ≡ f → Goes r S spare b label e u x →
    Goes r S spare b label f u x
goes-as i G = rw i at G

pub goes-is :
    {r : Residual} {S spare label : ℕ → ℕ} {b e u : ℕ} {x y : Bool} → x ≡ y → Goes r S spare b label e u x →
    Goes r S spare b label e u y
goes-is i G = rw i at G

pub leads-as :
    {sh : Shape} {ch sheet t : List ℕ} {e f u w v : ℕ} {x : Bool} → e ≡ f → u ≡ w → Leads sh false ch sheet t e u v x →
    Leads sh false ch sheet t f w v x
leads-as i j L = rw (i, j) at L

module _ {sh : Shape} {ch sheet t : List ℕ} {u : ℕ} {P : ℕ → Type 0} where
  pub onto-ways : {by to : ℕ} → Onto sh ch sheet t u by to → WaysOf sh ch sheet t u P by to
  onto-ways O = record { on = λ z. (O.arc, O.new); none = λ z. absurd (O.away z) }

pub ways-none :
    {r : Residual} {S spare label : ℕ → ℕ} {b u by to : ℕ} {P : ℕ → Type 0} → to ≡ u →
    ((e : ℕ) → P e → Fresh r S spare b label e u → ⊥) → Ways r S spare b label u P by to
ways-none i f = record { on = λ z. absurd (z i); none = λ z. f }

--------------------------------------------------------------------------------
-- The arcs of a node

module _ {sh : Shape} {ch sheet t : List ℕ} (R : Ready sh ch sheet t) {u : ℕ} where
  pub rise-leads :
      {v pu pv sp : ℕ} → pu ≡ price_of sh sheet u → pv ≡ price_of sh sheet v → sp ≡ spare_of sh t u → u < sh.groups → v ≡ parent_of sh t u →
      Leads sh false ch sheet t (rise_at (net_of sh t) false u) u v (eqb pu pv && (ltb u sh.cards || not (eqb sp 0)))
  rise-leads p q s l i = up-leads sh ch sheet t false p q l i refl s

  -- with no place there is no way up
  pub rise-shut :
      {v sp : ℕ} → sp ≡ spare_of sh t u → u < sh.groups → v ≡ parent_of sh t u → (ltb u sh.cards || not (eqb sp 0)) ≡ false →
      GoesOf sh ch sheet t (rise_at (net_of sh t) false u) u false
  rise-shut {v} s l i h = leads-shut (eqb (price_of sh sheet u) (price_of sh sheet v)) h (rise-leads refl refl s l i)

  pub fall-leads :
      {v sp : ℕ} → ChildItem (residual_of sh sheet t) u (sh.rows + v) → sp ≡ spare_of sh t v →
      Leads sh false ch sheet t (fall_at (net_of sh t) false v) u v (leb sh.cards v || not (eqb sp 0))
  fall-leads C s = down-leads sh ch sheet t false C refl s

  module _ {j : ℕ} (A : AtItem sh sheet t u j) where
    pub child-leads :
        sh.rows ≤ j →
        Leads sh false ch sheet t (arc_at (net_of sh t) false j) u (j - sh.rows)
        (leb sh.cards (j - sh.rows) || not (eqb (spare_of sh t (j - sh.rows)) 0))
    child-leads l =
        leads-as (arc-child (net_of sh t) false l) refl (fall-leads (item-down A l) refl)

    pub goes-child :
        {S spare label : ℕ → ℕ} {b : ℕ} {x : Bool} → sh.rows ≤ j →
        Goes (residual_of sh sheet t) S spare b label (fall_at (net_of sh t) false (j - sh.rows)) u x →
        Goes (residual_of sh sheet t) S spare b label (arc_at (net_of sh t) false j) u x
    goes-child l G = goes-as (arc-child (net_of sh t) false l) G

    pub child-arc : sh.rows ≤ j → j - sh.rows ≡ arc_at (net_of sh t) false j
    child-arc l = arc-child (net_of sh t) false l

    pub row-arc : j < sh.rows → sh.groups + j ≡ arc_at (net_of sh t) false j
    row-arc l = arc-row (net_of sh t) false l

    module _ (l : j < sh.rows) {a : ℕ} (ca : a ≡ card_of sh t j) {y : ℕ} (k : y ≡ kept_of ch j) where
      pub card-leads : a ≡ u → {b : ℕ} → b ≡ shop_of sh t j → Leads sh false ch sheet t (arc_at (net_of sh t) false j) u b (eqb y 0)
      card-leads i sb =
          let w = item-row A l (inl (sym ca)) in
          leads-as (arc-row (net_of sh t) false l) i
          (row-leads sh ch sheet t false R.formed (ends-card A l ca sb refl) w.0 w.1 k)

      pub shop-leads : a ≢ u → Leads sh false ch sheet t (arc_at (net_of sh t) false j) u a (eqb y 1)
      shop-leads n =
          let w = item-row A l (inr refl) in
          leads-as (arc-row (net_of sh t) false l) (at_shop A l ca refl n)
          (row-leads sh ch sheet t false R.formed (ends-shop A l ca refl refl) w.0 w.1 k)

--------------------------------------------------------------------------------
-- The items of a node

module _ {sh : Shape} {ch sheet t : List ℕ} {u : ℕ} (W : Standing sh ch sheet t u) where
  pub standing-item : {i : ℕ} → Pointed (residual_of sh sheet t) u i → i < sh.rows + sh.groups → AtItem sh sheet t u i
  standing-item P l = record {
    room = W.ready.buffers.room;
    lists = W.lists;
    item = P.item l;
    live = P.live;
    low = l;
  }

  -- the item of its cell
  pub standing-point : {j : ℕ} → j ≡ queue_of sh t u → Pointed (residual_of sh sheet t) u j
  standing-point i = rw i (W.ahead u W.node)

  pub chosen-half : {j : ℕ} → Chosen sh ch sheet t u j → j < half
  chosen-half C =
      let few = W.ready.buffers.room.few in
      omega (arith, C.point.high, few.groups, few.rows)

-- the items of u from j on and before i are looked along
pub record Opening (sh : Shape) (ch sheet t : List ℕ) (u j i : ℕ) : Type 0 where
  pub point : Pointed (residual_of sh sheet t) u i
  pub barren : BarrenOf sh ch sheet t u j i

module _ {sh : Shape} {ch sheet t : List ℕ} {u j : ℕ} where
  pub opening-first : Pointed (residual_of sh sheet t) u j → Opening sh ch sheet t u j j
  opening-first P = record { point = P; barren = λ e w l m F. omega arith }

  module _ {i : ℕ} (O : Opening sh ch sheet t u j i) where
    pub opening-next :
        {k : ℕ} → Standing sh ch sheet t u → GoesOf sh ch sheet t (arc_at (net_of sh t) false i) u false →
        Least (residual_of sh sheet t) (spare_of sh t) u (i + 1) k → Opening sh ch sheet t u j k
    opening-next {k} W G M = record {
      point = record { live = omega (arith, O.point.live, M.low); high = M.high; item = M.item };
      barren = λ e w l m F.
          elim (dec_lt w.j i) [
            | yes h ↦ O.barren e w l h F
            | no h ↦
                elim (ℕ_discrete w.j i) [
                  | yes z ↦
                      let q : e ≡ arc_at (net_of sh t) false i = w.code ∙ ap (arc_at (net_of sh t) false) z in
                      G.no refl (rw q at F)
                  | no z ↦
                      unlisted-step false (residual_of sh sheet t) (kept_of ch) (spare_of sh t) W.ready.formed F.v
                      (λ x. absurd (true≢false (sym x))) w.item
                      (M.none w.j (omega arith) m w.item) w.code F.arc
                ]
          ];
    }

    pub opening-found : {x : Bool} → x ≡ true → GoesOf sh ch sheet t (arc_at (net_of sh t) false i) u x → Opened sh ch sheet t u j i
    opening-found h G = record { chosen = record { point = O.point; goes = λ l. G.yes h }; barren = O.barren }

    pub opening-end : sh.rows + sh.groups ≤ i → Opened sh ch sheet t u j i
    opening-end l = record { chosen = record { point = O.point; goes = λ m. absurd (omega arith) }; barren = O.barren }

--------------------------------------------------------------------------------
-- The way on

module _ {sh : Shape} {ch sheet t : List ℕ} {u : ℕ} (W : Standing sh ch sheet t u) where
  pub card-group : ltb u sh.cards ≡ true → u < sh.groups
  card-group h = omega (arith, ltb-true u sh.cards h, W.ready.formed.sides)

  pub shop-group : (leb sh.cards u && ltb u sh.groups) ≡ true → u < sh.groups
  shop-group h = ltb-true u sh.groups (and-true (leb sh.cards u) (ltb u sh.groups) h).1

  -- past all items there is the way up alone
  pub ways-up :
      {j by to : ℕ} {b : Bool} → sh.rows + sh.groups ≤ j → WaysOf sh ch sheet t u (Rising sh false u b) by to →
      WaysOf sh ch sheet t u (Beyond (residual_of sh sheet t) u j b) by to
  ways-up l A = record {
    on = A.on;
    none = λ z e P F. ⊎_elim
        (λ r. A.none z e r F)
        (λ w. ⊎_elim (λ R. omega (arith, R.row, w.1)) (λ C. omega (arith, C.group, C.code, w.1)) w.0.item)
        P;
  }

put-search : {sh : Shape} {t t' : List ℕ} {u j : ℕ} → Put sh t t' queues u j → OnlySearch sh t t'
put-search Q = put_keeps (omega arith) Q

put-label : {sh : Shape} {t t' : List ℕ} {u j : ℕ} → Put sh t t' queues u j → label_of sh t' ≡ label_of sh t
put-label Q = Q.rest labels (λ e. omega arith)

module _ {sh : Shape} {ch sheet t : List ℕ} {u : ℕ} where
  -- the cell is moved to item j
  module _ {j : ℕ} {t' : List ℕ} (Q : Put sh t t' queues u j) where
    pub put-standing : Standing sh ch sheet t u → Chosen sh ch sheet t u j → Standing sh ch sheet t' u
    put-standing W C = record {
      ready = same-ready sheet (put-search Q) W.ready;
      free = W.free;
      lists = same_lists sheet (put-search Q) W.lists;
      ahead =
          same_tables sheet (put-search Q) (λ r f. Ahead r (queue_of sh t'))
          (λ v l.
          ⊎_elim
          (λ h. rw (h.1, h.0) C.point)
          (λ h. rw h.1 (W.ahead v l))
          (puts-at Q.puts v));
      node = W.node;
      stale = rw (put-label Q) W.stale;
    }

    pub put-chosen : Chosen sh ch sheet t u j → Chosen sh ch sheet t' u j
    put-chosen C = record {
      point = same_tables sheet (put-search Q) (λ r f. Pointed r u j) C.point;
      goes = λ l.
          same_tables sheet (put-search Q)
          (λ r f. Fresh r (kept_of ch) f sh.fresh (label_of sh t') (arc_at r.net false j) u)
          (rw (put-label Q) (C.goes l));
    }

    -- the items from the old cell on are looked along
    pub went_on :
        {at by to : ℕ} {b : Bool} → at ≡ queue_of sh t u → Opened sh ch sheet t u at j →
        WaysOf sh ch sheet t' u (Beyond (residual_of sh sheet t') u j b) by to → Went sh ch sheet t t' u b by to
    went_on {at} {by} {to} {b} i O B = record {
      only = put_keeps refl Q;
      advanced = record {
        else = λ v n. Q.puts.else v n;
        point = rw Q.puts.here O.chosen.point;
        barren = λ e w l m F. O.barren e w (omega arith) (omega (arith, Q.puts.here)) F;
      };
      ways = record {
        on = A.on;
        none = λ z e P F. ⊎_elim
            (λ r. A.none z e (inl r) F)
            (λ (w : (x : ItemArc (residual_of sh sheet t) false u e) × (queue_of sh t u ≤ x.j)).
            elim (dec_lt w.0.j j) [
              | yes l ↦ O.barren e w.0 (omega (arith, w.1)) l F
              | no l ↦ A.none z e (inr (w.0, omega arith)) F
            ])
            P;
      };
    }
      where
        A : WaysOf sh ch sheet t u (Beyond (residual_of sh sheet t) u j b) by to
        A =
            rw (put-label Q) at
            (tables-same sheet (put-search Q)
            (λ r f. Ways r (kept_of ch) f sh.fresh (label_of sh t') u (Beyond r u j b) by to) B)

  -- a way up before the items
  pub went_up :
      {by to : ℕ} {b c : Bool} → Standing sh ch sheet t u → to ≢ u → WaysOf sh ch sheet t u (Rising sh false u c) by to →
      Went sh ch sheet t t u b by to
  went_up W away A = record {
    only = keeps-none;
    advanced = record { else = λ v n. refl; point = W.ahead u W.node; barren = λ e w l m F. omega arith };
    ways = record { on = A.on; none = λ z. absurd (away z) };
  }

  -- where there is none, the items
  pub went-both :
      {by to x y : ℕ} {t' : List ℕ} → x ≡ u →
      WaysOf sh ch sheet t u (Rising sh false u (leb sh.cards u && ltb u sh.groups)) y x →
      Went sh ch sheet t t' u (ltb u sh.cards) by to → Went sh ch sheet t t' u (ltb u sh.groups) by to
  went-both z A B = record {
    only = B.only;
    advanced = B.advanced;
    ways = record {
      on = B.ways.on;
      none = λ w e P F. ⊎_elim
          (λ r.
          elim (dec_lt u sh.cards) [
            | yes l ↦ B.ways.none w e (inl (lt-ltb u sh.cards l, r.1)) F
            | no l ↦ A.none z e (true-and _ _ (le-leb sh.cards u (omega arith)) r.0, r.1) F
          ])
          (λ q. B.ways.none w e (inr q) F)
          P;
    };
  }
