-- Laws of the steps from one node, in the buffers.
--   scanned-none scanned-less scanned-every scanned-look scanned-more scanned-items    the arcs that were looked along
--   open-on open-look      what the scan asks, as it goes on
--   scanned-one            one arc
--   rising-told rising_none scanned-hit scanned-on scanned-all    the arc to the parent, and the items behind it
--   Along sh back ch sheet t₀ u n m t j k    the scan stands at item j
--   along-first along_look along-open along-side along-end    the items, one after another
--   along-hit along-item along-raw along-next-side along-next    when item j was looked along
use mathlib.Core.Path.{◌≡◌, refl, sym, ap, ◌∙◌}
use mathlib.Core.Logic.{◌⊎◌, inl, inr, ⊎_elim}
use mathlib.Core.Bool.{Bool}
use mathlib.Core.List.{List}
use Prim.Native.Nat.{ℕ, ◌+◌, ◌-◌, ◌≤◌, ◌<◌}
use native.Mathlib.Nat.{le_refl}
use native.Mathlib.Decide.{ℕ_discrete, dec_lt}
use native.Mathlib.Omega.{arith}
use Rattle.theory.specs.Residual.{Residual}
use Rattle.scratch.specs.declared.Shape.{Shape}
use Rattle.scratch.specs.Map.{label_of, queue_of, spare_of, first_of, kept_of, OnlySearch}
use Rattle.scratch.specs.View.{net_of, residual_of}
use Rattle.scratch.proofs.MapLaws.{keeps-none, keeps_then, room-keeps}
use Rattle.residual.specs.Items.{Raw, AtItem, Item, ItemArc, Unlisted, Least, arc_at, rise_at}
use Rattle.look.specs.Reach.{Step}
use Rattle.look.proofs.ReachLaws.{step-item, step-head}
use Rattle.look.proofs.StepLaws.{same_tables, tables-same, same-ready, same_lists}
use Rattle.meet.specs.Ends.{Both, Joins, Free}
use Rattle.meet.specs.Meet.{SideOf, LookedTook, LookedJoins, Looked, Scanned, Looking}
use Rattle.meet.specs.Meet.{Open, Rising, Every}
use Rattle.meet.proofs.EndsLaws.{both-few, spread_none, spread-then, free-stale, spread-took, took-both, took-keep, took-rest}
use Rattle.meet.proofs.EndsLaws.{seen-stale, took-free}

module _ {sh : Shape} {back : Bool} {ch sheet t₀ : List ℕ} {u n m : ℕ} where
  pub scanned-none : Open sh ch sheet t₀ back u n m → Scanned sh back ch sheet t₀ t₀ u n m n 0 (λ e. ⊥)
  scanned-none O = record {
    only = keeps-none;
    grow = le_refl n;
    keep = λ i l. refl;
    rest = λ i l. refl;
    spread = spread_none back sh.fresh (label_of sh t₀);
    both = O.both;
    done = λ z e v k A. absurd k;
    joins = λ l. absurd (omega arith);
  }

  -- an arc that is no step need not be looked along
  scanned-by :
      {t : List ℕ} {k hit : ℕ} {P Q : ℕ → Type 0} →
      ((e v : ℕ) → Q e → Step back (residual_of sh sheet t₀) (kept_of ch) (spare_of sh t₀) e u v → P e) →
      Scanned sh back ch sheet t₀ t u n m k hit P → Scanned sh back ch sheet t₀ t u n m k hit Q
  scanned-by f W = record {
    only = W.only;
    grow = W.grow;
    keep = W.keep;
    rest = W.rest;
    spread = W.spread;
    both = W.both;
    done = λ z e v i A. W.done z e v (f e v i A) A;
    joins = W.joins;
  }

  pub scanned-less :
      {t : List ℕ} {k hit : ℕ} {P Q : ℕ → Type 0} → ((e : ℕ) → Q e → P e) →
      Scanned sh back ch sheet t₀ t u n m k hit P → Scanned sh back ch sheet t₀ t u n m k hit Q
  scanned-less f W = scanned-by (λ e v i A. f e i) W

  module _ (O : Open sh ch sheet t₀ back u n m) {t : List ℕ} {k : ℕ} {P : ℕ → Type 0} (W : Scanned sh back ch sheet t₀ t u n m k 0 P) where
    -- the scan may go on from here
    pub open-on : Open sh ch sheet t back u k m
    open-on = record {
      ready = same-ready sheet W.only O.ready;
      free = O.free;
      lists = same_lists sheet W.only O.lists;
      paid = O.paid;
      node = O.node;
      seen = seen-stale back sh.fresh (label_of sh t₀) (label_of sh t) W.spread u O.seen;
      both =
          same_tables sheet W.only (λ x f. Both back x (kept_of ch) f sh.fresh (label_of sh t) (queue_of sh t) k m)
          W.both;
    }

    pub open-look : Looking sh ch sheet t k
    open-look = record { ready = open-on.ready; most = omega (arith, both-few W.both) }

    -- and then along other arcs
    pub scanned-more :
        {t' : List ℕ} {k' hit : ℕ} {Q : ℕ → Type 0} → Scanned sh back ch sheet t t' u k m k' hit Q →
        Scanned sh back ch sheet t₀ t' u n m k' hit (λ e. P e ⊎ Q e)
    scanned-more {t'} {k'} {hit} {Q} X =
        let r : Residual = residual_of sh sheet t₀ in
        let b : ℕ = sh.fresh in
        record {
          only = keeps_then W.only X.only;
          grow = omega (arith, W.grow, X.grow);
          keep = λ i l. X.keep i (omega (arith, W.grow)) ∙ W.keep i l;
          rest = λ i l. X.rest i l ∙ W.rest i l;
          spread = spread-then back b (label_of sh t₀) (label_of sh t) (label_of sh t') W.spread X.spread;
          both = tables-same sheet W.only (λ x f. Both back x (kept_of ch) f b (label_of sh t') (queue_of sh t') k' m) X.both;
          done = λ z e v i A. ⊎_elim
              (λ p.
              free-stale back back r (kept_of ch) (spare_of sh t₀) b (label_of sh t) (label_of sh t') X.spread v (W.done refl e v p A))
              (λ q.
              tables-same sheet W.only
              (λ x f. (e v : ℕ) → Q e → Step back x (kept_of ch) f e u v → Free back x (kept_of ch) f b (label_of sh t') v)
              (X.done z) e v q A)
              i;
          joins = λ l.
              tables-same sheet W.only (λ x f. Joins back x (kept_of ch) f b (label_of sh t') u (hit - 1)) (X.joins l);
        }

    -- and then along the items
    pub scanned-items :
        {t' : List ℕ} {k' hit : ℕ} → Scanned sh back ch sheet t t' u k m k' hit (ItemArc (residual_of sh sheet t) back u) →
        Scanned sh back ch sheet t₀ t' u n m k' hit (λ e. P e ⊎ ItemArc (residual_of sh sheet t₀) back u e)
    scanned-items {t'} {k'} {hit} X =
        scanned-more (tables-same sheet W.only (λ x f. Scanned sh back ch sheet t t' u k m k' hit (ItemArc x back u)) X)

-- one arc by itself
module _ {sh : Shape} {back : Bool} {ch sheet t t' : List ℕ} {u n m e : ℕ} (O : Open sh ch sheet t back u n m) where
  one-took : OnlySearch sh t t' → LookedTook sh back ch sheet t t' u e n → Scanned sh back ch sheet t t' u n m (n + 1) 0 (λ f. f ≡ e)
  one-took only T = record {
    only = only;
    grow = omega arith;
    keep = took-keep T O.both;
    rest = took-rest T O.both;
    spread = spread-took T;
    both = took-both T O.both O.node O.seen;
    done = λ z d v i A.
        let j : v ≡ T.v =
        step-head back (residual_of sh sheet t) (kept_of ch) (spare_of sh t) e u v T.v (rw i at A) T.arc in
        took-free T v j;
    joins = λ l. absurd (omega arith);
  }

  still_one :
      t' ≡ t → {hit : ℕ} →
      (hit ≡ 0 → (d v : ℕ) → d ≡ e → Step back (residual_of sh sheet t) (kept_of ch) (spare_of sh t) d u v →
      Free back (residual_of sh sheet t) (kept_of ch) (spare_of sh t) sh.fresh (label_of sh t) v) →
      (0 < hit → LookedJoins sh back ch sheet t t u (hit - 1)) → Scanned sh back ch sheet t t' u n m n hit (λ f. f ≡ e)
  still_one same done joins =
      rw same (record {
        only = keeps-none;
        grow = le_refl n;
        keep = λ i l. refl;
        rest = λ i l. refl;
        spread = spread_none back sh.fresh (label_of sh t);
        both = O.both;
        done = done;
        joins = joins;
      })

  pub scanned-one : {n' hit : ℕ} → Looked sh back ch sheet t t' u e n n' hit → Scanned sh back ch sheet t t' u n m n' hit (λ f. f ≡ e)
  scanned-one {hit = hit} L =
      elim L.step [
        | inl w ↦ rw (w.1.0, w.1.1) (one-took w.0.0 w.0.1)
        | inr w ↦
            elim w [
              | inl h ↦
                  let z : hit - 1 ≡ e = omega (arith, h.1.1) in
                  rw h.0.count (still_one h.0.same (λ z. absurd (omega (arith, h.1.1))) (λ l. rw z h.1.0))
              | inr h ↦
                  rw h.0.count
                  (still_one h.0.same (λ z d v i A. h.1.0 v (rw i at A)) (λ l. absurd (omega (arith, h.1.1))))
            ]
      ]

--------------------------------------------------------------------------------
-- The arc to the parent, and then the items

module _ {sh : Shape} {back : Bool} {ch sheet t₀ : List ℕ} {u n m : ℕ} (O : Open sh ch sheet t₀ back u n m) where
  pub rising-told :
      {t : List ℕ} {k hit : ℕ} → Looked sh back ch sheet t₀ t u (rise_at (net_of sh t₀) back u) n k hit →
      Scanned sh back ch sheet t₀ t u n m k hit (Rising sh back u)
  rising-told L = scanned-less (λ e i. i.1) (scanned-one O L)

  pub rising_none : sh.groups ≤ u → Scanned sh back ch sheet t₀ t₀ u n m n 0 (Rising sh back u)
  rising_none l = scanned-less (λ e i. omega (arith, i.0)) (scanned-none O)

  -- every step is by the arc to the parent or by that of an item
  every-step :
      {t : List ℕ} {k hit : ℕ} → Scanned sh back ch sheet t₀ t u n m k hit (λ e. Rising sh back u e ⊎ ItemArc (residual_of sh sheet t₀) back u e) →
      Scanned sh back ch sheet t₀ t u n m k hit Every
  every-step W =
      scanned-by (λ e v i A. step-item back (residual_of sh sheet t₀) (kept_of ch) (spare_of sh t₀) O.free e u v A) W

  module _ {t : List ℕ} {k hit : ℕ} (W : Scanned sh back ch sheet t₀ t u n m k hit (Rising sh back u)) where
    -- the arc to the parent leads to the other end
    pub scanned-hit : 0 < hit → Scanned sh back ch sheet t₀ t u n m k hit Every
    scanned-hit l = record {
      only = W.only;
      grow = W.grow;
      keep = W.keep;
      rest = W.rest;
      spread = W.spread;
      both = W.both;
      done = λ z. absurd (omega arith);
      joins = W.joins;
    }

    missed : hit ≤ 0 → Scanned sh back ch sheet t₀ t u n m k 0 (Rising sh back u)
    missed l = let z : hit ≡ 0 = omega arith in rw z at W

    pub scanned-on : hit ≤ 0 → Open sh ch sheet t back u k m
    scanned-on l = open-on O (missed l)

    pub scanned-all :
        {t' : List ℕ} {k' hit' : ℕ} → hit ≤ 0 →
        Scanned sh back ch sheet t t' u k m k' hit' (ItemArc (residual_of sh sheet t) back u) →
        Scanned sh back ch sheet t₀ t' u n m k' hit' Every
    scanned-all l X = every-step (scanned-items O (missed l) X)

--------------------------------------------------------------------------------
-- The items of a node

-- the scan stands at item j: those before it in the list of u are done
pub record Along (sh : Shape) (back : Bool) (ch sheet t₀ : List ℕ) (u n m : ℕ) (t : List ℕ) (j k : ℕ) : Type 0 where
  pub item : j < sh.rows + sh.groups → Item (residual_of sh sheet t₀) u j
  pub live : sh.free ≤ j
  pub scan : Scanned sh back ch sheet t₀ t u n m k 0 (λ e. (w : ItemArc (residual_of sh sheet t₀) back u e) × (w.j < j))

module _ {sh : Shape} {back : Bool} {ch sheet t₀ : List ℕ} {u n m : ℕ} (O : Open sh ch sheet t₀ back u n m) where
  -- with no toll left every item is listed
  listed : {j : ℕ} → Unlisted (residual_of sh sheet t₀) (spare_of sh t₀) u j → ⊥
  listed N = omega (arith, N.tolled, O.paid)

  pub along-first : {j : ℕ} → j ≡ first_of sh t₀ u → Along sh back ch sheet t₀ u n m t₀ j n
  along-first {j} i =
      let M : Least (residual_of sh sheet t₀) (spare_of sh t₀) u sh.free j = rw i (O.lists.at_first u O.node) in
      record {
        item = M.item;
        live = M.low;
        scan = scanned-by (λ e v w A. listed (M.none w.0.j w.0.live w.1 w.0.item)) (scanned-none O);
      }

  module _ {t : List ℕ} {j k : ℕ} (A : Along sh back ch sheet t₀ u n m t j k) where
    -- what looking along the item, and then the next one, asks
    at_item : {t' : List ℕ} → j < sh.rows + sh.groups → OnlySearch sh t₀ t' → AtItem sh sheet t' u j
    at_item l K = record {
      room = room-keeps K.long O.ready.buffers.room;
      lists = same_lists sheet K O.lists;
      item = same_tables sheet K (λ x f. Item x u j) (A.item l);
      live = A.live;
      low = l;
    }

    pub along_look : Looking sh ch sheet t k
    along_look = open-look O A.scan

    pub along-open : j < sh.rows + sh.groups → AtItem sh sheet t u j
    along-open l = at_item l A.scan.only

    pub along-side : {b : Bool} → SideOf (net_of sh t₀) u b → SideOf (net_of sh t) u b
    along-side {b} D = same_tables sheet A.scan.only (λ x f. SideOf x.net u b) D

    pub along-end : sh.rows + sh.groups ≤ j → Scanned sh back ch sheet t₀ t u n m k 0 (ItemArc (residual_of sh sheet t₀) back u)
    along-end l =
        scanned-less
        (λ e w. (w, ⊎_elim (λ R. omega (arith, R.row)) (λ C. omega (arith, C.group, C.code)) w.item))
        A.scan

    module _ {t' : List ℕ} {k' hit : ℕ} (L : Looked sh back ch sheet t t' u (arc_at (net_of sh t) back j) k k' hit) where
      looked : Scanned sh back ch sheet t₀ t' u n m k' hit (λ e. ((w : ItemArc (residual_of sh sheet t₀) back u e) × (w.j < j)) ⊎ (e ≡ arc_at (net_of sh t) back j))
      looked = scanned-more O A.scan (scanned-one (open-on O A.scan) L)

      pub along-hit : 0 < hit → Scanned sh back ch sheet t₀ t' u n m k' hit (ItemArc (residual_of sh sheet t₀) back u)
      along-hit l = record {
        only = looked.only;
        grow = looked.grow;
        keep = looked.keep;
        rest = looked.rest;
        spread = looked.spread;
        both = looked.both;
        done = λ z. absurd (omega arith);
        joins = looked.joins;
      }

      pub along-item : j < sh.rows + sh.groups → AtItem sh sheet t' u j
      along-item l = at_item l looked.only

      pub along-raw : Raw sh t'
      along-raw = record {
        room = room-keeps looked.only.long O.ready.buffers.room;
        formed = (same-ready sheet looked.only O.ready).formed;
      }

      pub along-next-side : {b : Bool} → SideOf (net_of sh t₀) u b → SideOf (net_of sh t') u b
      along-next-side {b} D = same_tables sheet looked.only (λ x f. SideOf x.net u b) D

      pub along-next :
          {j' : ℕ} → hit ≤ 0 → Least (residual_of sh sheet t') (spare_of sh t') u (j + 1) j' → Along sh back ch sheet t₀ u n m t' j' k'
      along-next {j'} none M =
          let z : hit ≡ 0 = omega arith in
          let N : Least (residual_of sh sheet t₀) (spare_of sh t₀) u (j + 1) j' =
          tables-same sheet looked.only (λ x f. Least x f u (j + 1) j') M in
          let same : arc_at (net_of sh t) back j ≡ arc_at (net_of sh t₀) back j =
          tables-same sheet A.scan.only (λ x f. arc_at (net_of sh t) back j ≡ arc_at x.net back j) refl in
          record {
            item = N.item;
            live = omega (arith, A.live, N.low);
            scan =
                scanned-by
                (λ e v w B.
                elim (dec_lt w.0.j j) [
                  | yes l ↦ inl (w.0, l)
                  | no l ↦
                      elim (ℕ_discrete w.0.j j) [
                        | yes i ↦ inr (w.0.code ∙ ap (arc_at (net_of sh t₀) back) i ∙ sym same)
                        | no i ↦ absurd (listed (N.none w.0.j (omega arith) w.1 w.0.item))
                      ]
                ])
                (rw z at looked);
          }
