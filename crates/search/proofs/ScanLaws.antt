-- Laws of the arcs out of a node and of its items, in the buffers.
--   scanned-none scanned-less scanned-look scanned-more scanned-items scanned-every open-on open-look    the arcs out of a node
--   rising-told rising_none rising-card rising-shop scanned-all    its up arc, before the items or after them
--   open-node along-first along-next along-open along-item along-end    the items, one after another
use mathlib.Core.Path.{◌≡◌, sym, ap, ◌∙◌}
use mathlib.Core.Logic.{◌⊎◌, ◌≢◌, inl, inr, ⊎_elim}
use mathlib.Core.Bool.{Bool, true, false, ◌&&◌, true≢false}
use mathlib.Core.List.{List}
use Prim.Native.Nat.{ℕ, ◌+◌, ◌≤◌, ◌<◌}
use native.Mathlib.Decide.{ℕ_discrete, dec_lt}
use native.Mathlib.Omega.{arith}
use lib.Dec.{ltb, leb}
use borrow.Author.Tests.{ltb-true, lt-ltb, le-leb}
use Rattle.theory.specs.Residual.{Residual}
use Rattle.theory.proofs.TestLaws.{and-true, true-and}
use Rattle.scratch.specs.declared.Shape.{Shape}
use Rattle.scratch.specs.Map.{label_of, pred_of, queue_of, spare_of, first_of, kept_of, OnlySearch}
use Rattle.scratch.specs.View.{net_of, residual_of}
use Rattle.residual.specs.Items.{AtItem, Item, ItemArc, Unlisted, Least, arc_at, rise_at}
use Rattle.look.specs.Reach.{Step, Reach, Grew, Took, Passed}
use Rattle.look.specs.Look.{Looking, Looked}
use Rattle.search.specs.Search.{Open, Scanned, Rising, Every}
use Rattle.scratch.proofs.MapLaws.{keeps-none, keeps_then, room-keeps}
use Rattle.look.proofs.LabelLaws.{spread-stale}
use Rattle.look.proofs.ReachLaws.{step-item, unlisted-step, step-head, grew_none, grew_then, took-grew, passed-grew}
use Rattle.look.proofs.StepLaws.{same_tables, tables-same, same-ready, same_lists}

--------------------------------------------------------------------------------
-- The arcs out of a node

module _ {sh : Shape} {back : Bool} {ch sheet t₀ : List ℕ} {u h n : ℕ} where
  pub scanned-none : Open sh back ch sheet t₀ u h n → Scanned sh back ch sheet t₀ t₀ u h n n (λ e. ⊥)
  scanned-none O = record {
    only = keeps-none;
    grew = grew_none back (residual_of sh sheet t₀) (kept_of ch) (spare_of sh t₀) sh.fresh O.reach;
    done = λ e v k A. absurd k;
  }

  -- an arc that is no step need not be looked along
  scanned-by :
      {t : List ℕ} {k : ℕ} {P Q : ℕ → Type 0} →
      ((e v : ℕ) → Q e → Step back (residual_of sh sheet t₀) (kept_of ch) (spare_of sh t₀) e u v → P e) →
      Scanned sh back ch sheet t₀ t u h n k P → Scanned sh back ch sheet t₀ t u h n k Q
  scanned-by f W = record { only = W.only; grew = W.grew; done = λ e v i A. W.done e v (f e v i A) A }

  pub scanned-less :
      {t : List ℕ} {k : ℕ} {P Q : ℕ → Type 0} → ((e : ℕ) → Q e → P e) →
      Scanned sh back ch sheet t₀ t u h n k P → Scanned sh back ch sheet t₀ t u h n k Q
  scanned-less f W = scanned-by (λ e v i A. f e i) W

  -- every open arc is the up arc or that of an item
  pub scanned-every :
      {t : List ℕ} {k : ℕ} {P : ℕ → Type 0} → sh.free ≤ sh.rows →
      ((e : ℕ) → ((u < sh.groups) × (e ≡ rise_at (net_of sh t₀) back u)) → P e) →
      ((e : ℕ) → ItemArc (residual_of sh sheet t₀) back u e → P e) → Scanned sh back ch sheet t₀ t u h n k P →
      Scanned sh back ch sheet t₀ t u h n k Every
  scanned-every free f g W = record {
    only = W.only;
    grew = W.grew;
    done = λ e v i A. ⊎_elim
        (λ d. W.done e v (f e d) A)
        (λ d. W.done e v (g e d) A)
        (step-item back (residual_of sh sheet t₀) (kept_of ch) (spare_of sh t₀) free e u v A);
  }

  module _ (O : Open sh back ch sheet t₀ u h n) {t : List ℕ} {k : ℕ} {P : ℕ → Type 0} (W : Scanned sh back ch sheet t₀ t u h n k P) where
    -- the scan may go on from here
    pub open-on : Open sh back ch sheet t u h k
    open-on = record {
      ready = same-ready sheet W.only O.ready;
      free = O.free;
      lists = same_lists sheet W.only O.lists;
      early = omega (arith, O.early, W.grew.grow);
      at = W.grew.keep h O.early ∙ O.at;
      aside = O.aside;
      reach = same_tables sheet W.only (λ x f. Reach back x (kept_of ch) f (pred_of sh t) (queue_of sh t) (h + 1) k) W.grew.reach;
    }

    pub open-look : Looking sh ch sheet t k
    open-look = record { ready = open-on.ready; count = W.grew.reach.size }

    pub scanned-look :
        {t' : List ℕ} {e k' : ℕ} → Looked sh back ch sheet t t' u e k k' → Scanned sh back ch sheet t₀ t' u h n k' (λ f. P f ⊎ (f ≡ e))
    scanned-look {t'} {e} {k'} L =
        let r : Residual = residual_of sh sheet t₀ in
        let b : ℕ = sh.fresh in
        ⊎_elim
        (λ (T : Took back r (kept_of ch) (spare_of sh t₀) b (label_of sh t) (queue_of sh t) k (label_of sh t') (queue_of sh t') k' u e).
        let g = took-grew back r (kept_of ch) (spare_of sh t₀) b W.grew.reach open-on.early open-on.at T in
        record {
          only = keeps_then W.only L.only;
          grew = grew_then back r (kept_of ch) (spare_of sh t₀) b W.grew g;
          done = λ f v i A. ⊎_elim
              (λ (p : P f). spread-stale b (label_of sh t) (label_of sh t') g.spread v (W.done f v p A))
              (λ (i : f ≡ e).
              let j : v ≡ T.v = step-head back r (kept_of ch) (spare_of sh t₀) e u v T.v (rw i at A) T.arc in
              λ z. omega (arith, ap (label_of sh t') j, T.label_puts.here))
              i;
        })
        (λ (T : Passed back r (kept_of ch) (spare_of sh t₀) b (label_of sh t) (queue_of sh t) k (label_of sh t') (queue_of sh t') k' u e).
        let g = passed-grew back r (kept_of ch) (spare_of sh t₀) b W.grew.reach T in
        record {
          only = keeps_then W.only L.only;
          grew = grew_then back r (kept_of ch) (spare_of sh t₀) b W.grew g;
          done = λ f v i A.
              spread-stale b (label_of sh t) (label_of sh t') g.spread v
              (⊎_elim (λ (p : P f). W.done f v p A) (λ (i : f ≡ e). T.none v (rw i at A)) i);
        })
        (tables-same sheet W.only
        (λ x f.
        Took back x (kept_of ch) f b (label_of sh t) (queue_of sh t) k (label_of sh t') (queue_of sh t') k' u e
        ⊎ Passed back x (kept_of ch) f b (label_of sh t) (queue_of sh t) k (label_of sh t') (queue_of sh t') k' u e)
        L.step)

    -- and then along other arcs
    pub scanned-more :
        {t' : List ℕ} {k' : ℕ} {Q : ℕ → Type 0} → Scanned sh back ch sheet t t' u h k k' Q →
        Scanned sh back ch sheet t₀ t' u h n k' (λ e. P e ⊎ Q e)
    scanned-more {t'} {k'} {Q} X =
        let b : ℕ = sh.fresh in
        let G = tables-same sheet W.only
        (λ x f. Grew back x (kept_of ch) f b (label_of sh t) (queue_of sh t) k (label_of sh t') (queue_of sh t') (h + 1) k') X.grew in
        let D = tables-same sheet W.only (λ x f. (e v : ℕ) → Q e → Step back x (kept_of ch) f e u v → label_of sh t' v ≢ b) X.done in
        record {
          only = keeps_then W.only X.only;
          grew = grew_then back (residual_of sh sheet t₀) (kept_of ch) (spare_of sh t₀) b W.grew G;
          done = λ e v i A. ⊎_elim
              (λ p. spread-stale b (label_of sh t) (label_of sh t') G.spread v (W.done e v p A))
              (λ p. D e v p A)
              i;
        }

    -- and then along the items
    pub scanned-items :
        {t' : List ℕ} {k' : ℕ} → Scanned sh back ch sheet t t' u h k k' (ItemArc (residual_of sh sheet t) back u) →
        Scanned sh back ch sheet t₀ t' u h n k' (λ e. P e ⊎ ItemArc (residual_of sh sheet t₀) back u e)
    scanned-items {t'} {k'} X =
        scanned-more (tables-same sheet W.only (λ x f. Scanned sh back ch sheet t t' u h k k' (ItemArc x back u)) X)

pub rising-shop : (sh : Shape) (u : ℕ) → (leb sh.cards u && ltb u sh.groups) ≡ true → u < sh.groups
rising-shop sh u h = ltb-true u sh.groups (and-true (leb sh.cards u) (ltb u sh.groups) h).1

module _ {sh : Shape} {back : Bool} {ch sheet t₀ : List ℕ} {u h n : ℕ} where
  pub rising-told :
      {t : List ℕ} {k : ℕ} {b : Bool} → Open sh back ch sheet t₀ u h n →
      Looked sh back ch sheet t₀ t u (rise_at (net_of sh t₀) back u) n k →
      Scanned sh back ch sheet t₀ t u h n k (Rising sh back u b)
  rising-told O L = scanned-less (λ e i. inr i.1) (scanned-look O (scanned-none O) L)

  pub rising_none :
      {b : Bool} → b ≡ false → Open sh back ch sheet t₀ u h n → Scanned sh back ch sheet t₀ t₀ u h n n (Rising sh back u b)
  rising_none z O = scanned-less (λ e i. true≢false (sym i.0 ∙ z)) (scanned-none O)

  pub rising-card : Open sh back ch sheet t₀ u h n → ltb u sh.cards ≡ true → u < sh.groups
  rising-card O y = omega (arith, ltb-true u sh.cards y, O.ready.formed.sides)

  -- the up arc is looked along at a card or at a shop
  pub scanned-all :
      {t : List ℕ} {k : ℕ} → sh.free ≤ sh.rows →
      Scanned sh back ch sheet t₀ t u h n k
      (λ e.
      (Rising sh back u (ltb u sh.cards) e ⊎ ItemArc (residual_of sh sheet t₀) back u e)
      ⊎ Rising sh back u (leb sh.cards u && ltb u sh.groups) e) →
      Scanned sh back ch sheet t₀ t u h n k Every
  scanned-all free W =
      scanned-every free
      (λ e i.
      elim (dec_lt u sh.cards) [
        | yes l ↦ inl (inl (lt-ltb u sh.cards l, i.1))
        | no l ↦ inr (true-and _ _ (le-leb sh.cards u (omega arith)) (lt-ltb u sh.groups i.0), i.1)
      ])
      (λ e i. inl (inr i)) W

--------------------------------------------------------------------------------
-- The items of a node

-- the scan stands at item j: those before it in the list of u are done
pub record Along (sh : Shape) (back : Bool) (ch sheet t₀ : List ℕ) (u h n : ℕ) (t : List ℕ) (j k : ℕ) : Type 0 where
  pub item : j < sh.rows + sh.groups → Item (residual_of sh sheet t₀) u j
  pub live : sh.free ≤ j
  pub scan : Scanned sh back ch sheet t₀ t u h n k (λ e. (w : ItemArc (residual_of sh sheet t₀) back u e) × (w.j < j))

module _ {sh : Shape} {back : Bool} {ch sheet t₀ : List ℕ} {u h n : ℕ} (O : Open sh back ch sheet t₀ u h n) where
  pub open-node : u < sh.groups + 2
  open-node = omega (arith, O.at, O.reach.node h O.early)

  -- an item that is not listed need not be looked along
  past :
      {e : ℕ} (v : ℕ) (w : ItemArc (residual_of sh sheet t₀) back u e) → Unlisted (residual_of sh sheet t₀) (spare_of sh t₀) u w.j →
      Step back (residual_of sh sheet t₀) (kept_of ch) (spare_of sh t₀) e u v → ⊥
  past v w N A =
      unlisted-step back (residual_of sh sheet t₀) (kept_of ch) (spare_of sh t₀) O.ready.formed v O.aside w.item N w.code A

  pub along-first : {j : ℕ} → j ≡ first_of sh t₀ u → Along sh back ch sheet t₀ u h n t₀ j n
  along-first {j} i =
      let M : Least (residual_of sh sheet t₀) (spare_of sh t₀) u sh.free j = rw i (O.lists.at_first u open-node) in
      record {
        item = M.item;
        live = M.low;
        scan = scanned-by (λ e v w A. past v w.0 (M.none w.0.j w.0.live w.1 w.0.item) A) (scanned-none O);
      }

  module _ {t : List ℕ} {j k : ℕ} (A : Along sh back ch sheet t₀ u h n t j k) where
    pub along-next :
        {t' : List ℕ} {k' j' : ℕ} → Looked sh back ch sheet t t' u (arc_at (net_of sh t) back j) k k' →
        Least (residual_of sh sheet t') (spare_of sh t') u (j + 1) j' → Along sh back ch sheet t₀ u h n t' j' k'
    along-next {j' = j'} L M =
        let W = scanned-look O A.scan L in
        let N : Least (residual_of sh sheet t₀) (spare_of sh t₀) u (j + 1) j' =
        tables-same sheet W.only (λ x f. Least x f u (j + 1) j') M in
        record {
          item = N.item;
          live = omega (arith, A.live, N.low);
          scan =
              scanned-by
              (λ e v w B.
              elim (dec_lt w.0.j j) [
                | yes l ↦ inl (w.0, l)
                | no l ↦
                    elim (ℕ_discrete w.0.j j) [
                      | yes i ↦ inr (w.0.code ∙ ap (arc_at (net_of sh t₀) back) i)
                      | no i ↦ absurd (past v w.0 (N.none w.0.j (omega arith) w.1 w.0.item) B)
                    ]
              ])
              W;
        }

    pub along-end : sh.rows + sh.groups ≤ j → Scanned sh back ch sheet t₀ t u h n k (ItemArc (residual_of sh sheet t₀) back u)
    along-end l =
        scanned-less
        (λ e w. (w, ⊎_elim (λ R. omega (arith, R.row)) (λ C. omega (arith, C.group, C.code)) w.item))
        A.scan

    -- what looking along the item, and then the next one, asks
    at_item : {t' : List ℕ} → j < sh.rows + sh.groups → OnlySearch sh t₀ t' → AtItem sh sheet t' u j
    at_item l K = record {
      room = room-keeps K.long O.ready.buffers.room;
      lists = same_lists sheet K O.lists;
      item = same_tables sheet K (λ x f. Item x u j) (A.item l);
      live = A.live;
      low = l;
    }

    pub along-open : j < sh.rows + sh.groups → AtItem sh sheet t u j
    along-open l = at_item l A.scan.only

    pub along-item :
        {t' : List ℕ} {k' : ℕ} → j < sh.rows + sh.groups → Looked sh back ch sheet t t' u (arc_at (net_of sh t) back j) k k' →
        AtItem sh sheet t' u j
    along-item l L = at_item l (keeps_then A.scan.only L.only)
