-- Laws of one step in the buffers: a node is reached, and one arc is looked along.
--   same_tables tables-same same-ready same_lists    a search leaves the residual network and the lists
--   reached-of             a node is reached
--   only-most label-fits tried_of    a node is looked at
--   looking-most looked-tried pick_yes pick_no looked-by looked-as up-node ends-below    one arc
--   item-down item-row ends-card ends-shop at_shop    an item, as looking along it asks
use mathlib.Core.Path.{◌≡◌, sym, ap, subst, ◌∙◌}
use mathlib.Core.Logic.{inl, inr, ⊎_elim, ◌⊎◌, ◌≢◌}
use mathlib.Core.Bool.{Bool, true, false, ◌&&◌, true≢false, not}
use mathlib.Core.List.{List}
use Prim.Native.Nat.{ℕ, ◌+◌, ◌≤◌, ◌<◌, ◌-◌}
use native.Mathlib.Omega.{arith}
use lib.Dec.{eqb}
use borrow.Author.Tests.{eqb-true, eq-eqb}
use Rattle.theory.specs.Bounds.{cell_bound}
use Rattle.theory.specs.Sum.{pick}
use Rattle.theory.specs.Formed.{Formed}
use Rattle.theory.specs.Residual.{Residual}
use Rattle.theory.proofs.ResidualLaws.{card-below, shop-below, parent-below}
use Rattle.theory.proofs.TestLaws.{either, picked, and-true, true-and}
use Rattle.theory.proofs.TurnLaws.{puts-same}
use Rattle.scratch.specs.declared.Shape.{Shape}
use Rattle.scratch.specs.Map.{label_of, pred_of, queue_of, spare_of, parent_of, kept_of, labels, queues, spares, span, Few, Put, OnlySearch, card_of, shop_of}
use Rattle.scratch.specs.View.{net_of, residual_of}
use Rattle.residual.specs.State.{Priced, Ready}
use Rattle.residual.specs.Items.{Lists, AtItem, RowItem, ChildItem}
use Rattle.look.specs.Look.{Looking, Looked, Ends, Reached, Tried, Leads}
use Rattle.scratch.proofs.MapLaws.{keeps_then, put_keeps, room-keeps, residual-same}
use Rattle.residual.proofs.LinkLaws.{links-keep, item-shop}
use Rattle.look.proofs.ReachLaws.{reached-most}
use Rattle.residual.proofs.ListLaws.{child-of, row_of}

--------------------------------------------------------------------------------
-- What a search leaves

module _ (sheet : List ℕ) {sh : Shape} {t t' : List ℕ} (A : OnlySearch sh t t') where
  pub search-residual : residual_of sh sheet t' ≡ residual_of sh sheet t
  search-residual = residual-same sheet (λ k l p. omega arith) A

  pub search-spare : spare_of sh t' ≡ spare_of sh t
  search-spare = A.rest spares (λ p. omega arith)

  -- what holds of the tables of t holds of those of t'
  pub same_tables : (P : Residual → (ℕ → ℕ) → Type 0) → P (residual_of sh sheet t) (spare_of sh t) → P (residual_of sh sheet t') (spare_of sh t')
  same_tables P h =
      subst (λ (x : Residual). P x (spare_of sh t')) (sym search-residual)
      (subst (λ (f : ℕ → ℕ). P (residual_of sh sheet t) f) (sym search-spare) h)

  -- and the other way round
  pub tables-same : (P : Residual → (ℕ → ℕ) → Type 0) → P (residual_of sh sheet t') (spare_of sh t') → P (residual_of sh sheet t) (spare_of sh t)
  tables-same P h =
      subst (λ (x : Residual). P x (spare_of sh t)) search-residual
      (subst (λ (f : ℕ → ℕ). P (residual_of sh sheet t') f) search-spare h)

  pub same-ready : {ch : List ℕ} → Ready sh ch sheet t → Ready sh ch sheet t'
  same-ready {ch} R = record {
    buffers = record {
      room = room-keeps A.long R.buffers.room;
      sheets = R.buffers.sheets;
      choices = R.buffers.choices;
    };
    formed = same_tables (λ x f. Formed x.net) R.formed;
    priced = same_tables (λ x f. Priced x (kept_of ch)) R.priced;
  }

  pub same_lists : Lists sh sheet t → Lists sh sheet t'
  same_lists = links-keep sheet (λ k l p. omega arith) A

--------------------------------------------------------------------------------
-- One arc

pub reached-of :
    {sh : Shape} {t m t' : List ℕ} {v e n : ℕ} → Put sh t m labels v (sh.fresh + e + 1) → Put sh m t' queues n v → Reached sh t t' v e n
reached-of {sh} {t} {m} {t'} P Q =
    let p : label_of sh t' ≡ label_of sh m = Q.rest labels (λ k. omega arith) in
    let q : queue_of sh m ≡ queue_of sh t = P.rest queues (λ k. omega arith) in
    record {
      only = keeps_then (put_keeps (omega arith) P) (put_keeps (omega arith) Q);
      label = rw p P.puts;
      queue = rw q at Q.puts;
    }

-- x where b holds, else 0
abbrev Only : Bool → ℕ → ℕ → Type 0
Only b x r = r ≡ pick b x 0

-- node v is looked at: its label was `was`, and k is put to it
module _
    (sh : Shape) (t : List ℕ) (v e : ℕ) (b : Bool) {was k : ℕ} (at : was ≡ label_of sh t v) (o : Only (b && eqb was sh.fresh) (e + 1) k)
  where
    pub label-fits : Few sh → e + 1 < span → was < cell_bound → was + k < cell_bound
    label-fits F l m =
        ⊎_elim
        (λ h. omega (arith, F.fresh, (picked _ o).0 h, eqb-true was sh.fresh (and-true b (eqb was sh.fresh) h).1))
        (λ h. omega (arith, (picked _ o).1 h, m))
        (either (b && eqb was sh.fresh))

    pub tried_of :
        {m t' : List ℕ} {n j : ℕ} → Put sh t m labels v (was + k) → Put sh m t' queues n v → Only (b && eqb was sh.fresh) 1 j →
        Tried sh t t' v e b n (n + j)
    tried_of {m} {t'} {n} {j} P Q i =
        let p : label_of sh t' ≡ label_of sh m = Q.rest labels (λ k. omega arith) in
        let q : queue_of sh m ≡ queue_of sh t = P.rest queues (λ k. omega arith) in
        record {
          only = keeps_then (put_keeps (omega arith) P) (put_keeps (omega arith) Q);
          queue = rw q at Q.puts;
          step =
              ⊎_elim
              (λ y.
              let w = and-true b (eqb was sh.fresh) y in
              let z : was ≡ sh.fresh = eqb-true was sh.fresh w.1 in
              let x : was + k ≡ sh.fresh + e + 1 = omega (arith, (picked _ o).0 y) in
              inl ((w.0, sym at ∙ z), (rw (p, sym x) P.puts, omega (arith, (picked _ i).0 y))))
              (λ y.
              let x : was + k ≡ label_of sh t v = omega (arith, (picked _ o).1 y) in
              inr (
                λ h z. true≢false (sym (true-and b (eqb was sh.fresh) h (eq-eqb was sh.fresh (at ∙ z))) ∙ y),
                (p ∙ puts-same P.puts x, omega (arith, (picked _ i).1 y)),
              ))
              (either (b && eqb was sh.fresh));
        }

module _ {sh : Shape} {ch sheet t : List ℕ} {n : ℕ} where
  pub looking-most : Looking sh ch sheet t n → n ≤ sh.groups + 2
  looking-most L = omega (arith, L.count, reached-most (pred_of sh t) (sh.groups + 2))

  pub looked-tried :
      {back : Bool} {t' : List ℕ} {u v e n' : ℕ} {b : Bool} → v < sh.groups + 2 → e + 1 < span → Leads sh back ch sheet t e u v b →
      Tried sh t t' v e b n n' → Looked sh back ch sheet t t' u e n n'
  looked-tried {v = v} l m L T = record {
    only = T.only;
    step =
        elim T.step [
          | inl w ↦
              inl (record {
                v = v;
                node = l;
                arc = L.yes w.0.0;
                new = w.0.1;
                small = m;
                label_puts = w.1.0;
                queue_puts = T.queue;
                more = w.1.1;
              })
          | inr w ↦
              inr (record {
                none = λ x A z. let o = L.only x A in w.0 o.0 (ap (label_of sh t) (sym o.1) ∙ z);
                label_same = w.1.0;
                queue_same = λ i k. T.queue.else i (λ d. omega arith);
                same = w.1.1;
              })
        ];
  }

-- what is picked
pub pick_yes : {b : Bool} (x y : ℕ) → b ≡ true → x ≡ pick b x y
pick_yes x y e = ap (λ (b : Bool). pick b x y) (sym e)

pub pick_no : {b : Bool} (x y : ℕ) → b ≡ false → y ≡ pick b x y
pick_no x y e = ap (λ (b : Bool). pick b x y) (sym e)

-- where the number of the arc is picked by the direction
pub looked-by :
    {sh : Shape} {back : Bool} {ch sheet t t' : List ℕ} {u v e f n n' : ℕ} {b : Bool} → e ≡ f → v < sh.groups + 2 → e + 1 < span →
    Leads sh back ch sheet t f u v b → Tried sh t t' v e b n n' → Looked sh back ch sheet t t' u f n n'
looked-by i l m L T = looked-tried l (rw i at m) L (rw i at T)

pub looked-as :
    {sh : Shape} {back : Bool} {ch sheet t t' : List ℕ} {u v e f n n' : ℕ} → u ≡ v → e ≡ f → Looked sh back ch sheet t t' u e n n' →
    Looked sh back ch sheet t t' v f n n'
looked-as p q L = rw (p, q) at L

-- where an arc leads
module _ {sh : Shape} {ch sheet t : List ℕ} {u v : ℕ} (R : Ready sh ch sheet t) where
  pub up-node : u < sh.groups → v ≡ parent_of sh t u → v < sh.groups + 2
  up-node l i = rw i (parent-below (net_of sh t) R.formed u l)

  pub ends-below : {back : Bool} {c x : ℕ} → Ends sh back t c u v x → v < sh.groups + 2
  ends-below {c = c} E =
      ⊎_elim
      (λ w. rw w.1.1 (shop-below (net_of sh t) R.formed c E.row))
      (λ w. rw w.1.1 (card-below (net_of sh t) R.formed c E.row))
      E.ends

--------------------------------------------------------------------------------
-- An item

module _ {sh : Shape} {sheet t : List ℕ} {u j : ℕ} (A : AtItem sh sheet t u j) where
  pub item-down : sh.rows ≤ j → ChildItem (residual_of sh sheet t) u (sh.rows + (j - sh.rows))
  item-down l =
      let e : sh.rows + (j - sh.rows) ≡ j = omega arith in
      rw e (child-of (residual_of sh sheet t) l A.item)

  -- at either of its nodes
  pub item-row :
      {w : ℕ} → j < sh.rows → (card_of sh t j ≡ w) ⊎ (shop_of sh t j ≡ w) → (sh.free ≤ j) × RowItem (residual_of sh sheet t) w j
  item-row l at = (A.live, record { row = l; at = at; even = (row_of (residual_of sh sheet t) l A.item).even })

  module _ {a b : ℕ} (l : j < sh.rows) (ca : a ≡ card_of sh t j) (sb : b ≡ shop_of sh t j) where
    pub ends-card : {back : Bool} {x : ℕ} → x ≡ pick back 1 0 → Ends sh back t j a b x
    ends-card i = record { row = l; ends = inl (i, (ca, sb)) }

    pub ends-shop : {back : Bool} {x : ℕ} → x ≡ pick (not back) 1 0 → Ends sh back t j b a x
    ends-shop i = record { row = l; ends = inr (i, (sb, ca)) }

    pub at_shop : a ≢ u → b ≡ u
    at_shop n = sb ∙ item-shop (residual_of sh sheet t) u j A.item l (λ z. n (ca ∙ z))
