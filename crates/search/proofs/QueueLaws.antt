-- Laws of the queue, of what stands before its first turn, and of labels that are given.
--   going-first going-most going-room going-open going_next going-found going_end    the queue
--   lit-seeded lit-searched    before the first turn
--   labels-none labels-read labels-more fresh-none fresh-more    labels are given
use mathlib.Core.Path.{◌≡◌, refl, sym, ap, ◌∙◌}
use mathlib.Core.Logic.{◌≢◌, ⊎_elim}
use mathlib.Core.Bool.{Bool, true}
use mathlib.Core.List.{List}
use Prim.Native.Nat.{ℕ, ◌+◌, ◌≤◌, ◌<◌}
use native.Mathlib.Decide.{ℕ_discrete}
use native.Mathlib.Omega.{arith}
use native.Mathlib.Nat.{le_refl}
use Rattle.theory.specs.Turn.{Puts}
use Rattle.theory.proofs.TurnLaws.{puts-at}
use Rattle.scratch.specs.declared.Shape.{Shape}
use Rattle.scratch.specs.Map.{arc_in, label_of, pred_of, queue_of, spare_of, kept_of, labels, queues, span, Room, Put, OnlySearch}
use Rattle.scratch.specs.View.{residual_of}
use Rattle.look.specs.Reach.{Step, Spread, Reach, Done, Grew}
use Rattle.look.specs.Look.{Reached}
use Rattle.search.specs.Search.{ReachBy, Open, Scanned, Seeded, Asked, SearchedBy, RelabelledIn, Refreshed, Every}
use Rattle.scratch.proofs.MapLaws.{keeps-none, keeps_then, put_keeps, room-keeps}
use Rattle.look.proofs.LabelLaws.{pred-puts, spread_none, spread-then, spread-puts, spread-stale}
use Rattle.look.proofs.ReachLaws.{reached-most, reach-later, reach-first}
use Rattle.look.proofs.StepLaws.{same_tables, tables-same, same-ready, same_lists}

--------------------------------------------------------------------------------
-- The queue

-- n nodes are reached, and the first h of them are done
pub record Going (sh : Shape) (back : Bool) (ch sheet t₀ t : List ℕ) (n h : ℕ) : Type 0 where
  pub only : OnlySearch sh t₀ t
  pub reach : ReachBy sh back ch sheet t₀ t h n
  pub begin : queue_of sh t 0 ≡ queue_of sh t₀ 0
  pub spread : Spread sh.fresh (label_of sh t₀) (label_of sh t)
  pub high : h ≤ n
  pub done : (i : ℕ) → i < h → Done back (residual_of sh sheet t₀) (kept_of ch) (spare_of sh t₀) sh.fresh (label_of sh t) (queue_of sh t i)

module _ {sh : Shape} {back : Bool} {ch sheet t₀ : List ℕ} {target : ℕ} (B : Seeded sh back ch sheet t₀ target) where
  pub going-first : Going sh back ch sheet t₀ t₀ 1 0
  going-first = record {
    only = keeps-none;
    reach = B.reach;
    begin = refl;
    spread = spread_none sh.fresh (label_of sh t₀);
    high = omega arith;
    done = λ i l. absurd (omega arith);
  }

  module _ {t : List ℕ} {n h : ℕ} (W : Going sh back ch sheet t₀ t n h) where
    pub going-most : n ≤ sh.groups + 2
    going-most = omega (arith, W.reach.size, reached-most (pred_of sh t) (sh.groups + 2))

    pub going-room : Room sh t
    going-room = room-keeps W.only.long B.ready.buffers.room

    pub going-open : {u : ℕ} → h < n → u ≡ queue_of sh t h → Open sh back ch sheet t u h n
    going-open l i = record {
      ready = same-ready sheet W.only B.ready;
      free = B.free;
      lists = same_lists sheet W.only B.lists;
      early = l;
      at = sym i;
      aside = λ b e.
          let w = B.aside b in
          ⊎_elim
          (λ (z : label_of sh t sh.groups ≡ label_of sh t₀ sh.groups).
          omega (arith, W.reach.seen h l, ap (pred_of sh t) (sym i ∙ e), ap (arc_in sh.fresh) z, w.1))
          (λ z. w.0 z.0)
          (W.spread sh.groups);
      reach =
          same_tables sheet W.only (λ x f. Reach back x (kept_of ch) f (pred_of sh t) (queue_of sh t) (h + 1) n)
          (reach-later back (residual_of sh sheet t₀) (kept_of ch) (spare_of sh t₀) (omega arith) W.reach);
    }

    pub going_next :
        {u n' : ℕ} {t' : List ℕ} → h < n → u ≡ queue_of sh t h → Scanned sh back ch sheet t t' u h n n' Every →
        Going sh back ch sheet t₀ t' n' (h + 1)
    going_next {u} {n'} {t'} l i X =
        let b : ℕ = sh.fresh in
        let G = tables-same sheet W.only
        (λ x f. Grew back x (kept_of ch) f b (label_of sh t) (queue_of sh t) n (label_of sh t') (queue_of sh t') (h + 1) n') X.grew in
        let D = tables-same sheet W.only (λ x f. (e v : ℕ) → Every e → Step back x (kept_of ch) f e u v → label_of sh t' v ≢ b) X.done in
        record {
          only = keeps_then W.only X.only;
          reach = G.reach;
          begin = G.keep 0 (omega arith) ∙ W.begin;
          spread = spread-then b (label_of sh t₀) (label_of sh t) (label_of sh t') W.spread G.spread;
          high = omega (arith, G.grow);
          done = λ j m e v A.
              elim (ℕ_discrete j h) [
                | yes k ↦ D e v (le_refl e) (rw (sym i) at (rw (ap (queue_of sh t') k ∙ G.keep h l) at A))
                | no k ↦
                    spread-stale b (label_of sh t) (label_of sh t') G.spread v
                    (W.done j (omega arith) e v (rw (G.keep j (omega (arith, W.high))) at A))
              ];
        }

    -- a target with another label than it had is reached
    aimed : label_of sh t target ≢ label_of sh t₀ target → pred_of sh t target ≢ 0
    aimed p z = ⊎_elim (λ (e : label_of sh t target ≡ label_of sh t₀ target). p e) (λ w. omega (arith, w.1)) (W.spread target)

    pub going-found : label_of sh t target ≢ label_of sh t₀ target → SearchedBy sh back ch sheet t₀ t (queue_of sh t₀ 0) target n
    going-found p = record {
      only = W.only;
      reach = reach-later back (residual_of sh sheet t₀) (kept_of ch) (spare_of sh t₀) W.high W.reach;
      begin = W.begin;
      spread = W.spread;
      closed = λ z. absurd (aimed p z);
    }

    pub going_end : n ≤ h → SearchedBy sh back ch sheet t₀ t (queue_of sh t₀ 0) target n
    going_end l = record {
      only = W.only;
      reach = reach-later back (residual_of sh sheet t₀) (kept_of ch) (spare_of sh t₀) W.high W.reach;
      begin = W.begin;
      spread = W.spread;
      closed = λ z u m q e v A.
          let w = W.reach.spot u m q in
          W.done w.0 (omega (arith, w.1)) e v (rw (sym w.2) at A);
    }

--------------------------------------------------------------------------------
-- Before the first turn

-- the start is reached by a number e that no arc has
module _
    {sh : Shape} {ch sheet t t' : List ℕ} {start target e : ℕ} (Q : Asked sh ch sheet t start target)
    (B : Reached sh t t' start e 0) (l : e + 1 < span)
  where
    more : Puts (pred_of sh t) (pred_of sh t') start (e + 1)
    more = pred-puts sh.fresh (label_of sh t) (label_of sh t') start e l B.label

    pub lit-seeded : {back : Bool} → (back ≡ true → label_of sh t sh.groups ≢ sh.fresh) → Seeded sh back ch sheet t' target
    lit-seeded {back} aside = record {
      ready = same-ready sheet B.only Q.ready;
      free = Q.free;
      lists = same_lists sheet B.only Q.lists;
      node = Q.target_node;
      reach =
          reach-first back (residual_of sh sheet t') (kept_of ch) (spare_of sh t') (pred_of sh t') (queue_of sh t') start Q.start_node
          (omega (arith, more.here)) (λ v m n. more.else v n ∙ Q.dark v m) B.queue.here;
      aside = λ b.
          let apart : sh.groups ≢ start = λ e. aside b (ap (label_of sh t) e ∙ Q.start_fresh) in (
            λ e. aside b (sym (B.label.else sh.groups apart) ∙ e),
            more.else sh.groups apart ∙ Q.dark sh.groups (omega arith),
          );
    }

    pub lit-searched :
        {back : Bool} {t'' : List ℕ} {n : ℕ} → SearchedBy sh back ch sheet t' t'' (queue_of sh t' 0) target n →
        SearchedBy sh back ch sheet t t'' start target n
    lit-searched {back} {t''} {n} W = record {
      only = keeps_then B.only W.only;
      reach = tables-same sheet B.only (λ x f. Reach back x (kept_of ch) f (pred_of sh t'') (queue_of sh t'') n n) W.reach;
      begin = W.begin ∙ B.queue.here;
      spread =
          spread-then sh.fresh (label_of sh t) (label_of sh t') (label_of sh t'')
          (spread-puts sh.fresh (label_of sh t) (label_of sh t') start e Q.start_fresh l B.label) W.spread;
      closed = λ z u m p. tables-same sheet B.only (λ x f. Done back x (kept_of ch) f sh.fresh (label_of sh t'') u) (W.closed z u m p);
    }

--------------------------------------------------------------------------------
-- Labels are given

pub labels-none : {sh : Shape} {queue : ℕ → ℕ} {t : List ℕ} {x : ℕ} → RelabelledIn sh queue t t 0 x
labels-none = record { only = keeps-none; given = λ i l. absurd (omega arith); else = λ v n. refl }

-- place j of the queue holds the node that it held
pub labels-read :
    {sh : Shape} {queue : ℕ → ℕ} {t t' : List ℕ} {i x : ℕ} → RelabelledIn sh queue t t' i x → (j : ℕ) → queue_of sh t' j ≡ queue_of sh t j
labels-read C j = ap (λ (f : ℕ → ℕ). f j) (C.only.rest queues (λ k. omega arith))

pub labels-more :
    {sh : Shape} {queue : ℕ → ℕ} {t t' t'' : List ℕ} {i v x : ℕ} → RelabelledIn sh queue t t' i x → v ≡ queue i → Put sh t' t'' labels v x →
    RelabelledIn sh queue t t'' (i + 1) x
labels-more {queue = queue} {i = i} {v = v} C w P = record {
  only = keeps_then C.only (put_keeps refl P);
  given = λ j l. ⊎_elim
      (λ z. z.1)
      (λ z.
      elim (ℕ_discrete j i) [
        | yes k ↦ absurd (z.0 (ap queue k ∙ sym w))
        | no k ↦ z.1 ∙ C.given j (omega arith)
      ])
      (puts-at P.puts (queue j));
  else = λ z n. P.puts.else z (λ k. n i (omega arith) (sym w ∙ sym k)) ∙ C.else z (λ j l. n j (omega arith));
}

pub fresh-none : {sh : Shape} {t : List ℕ} → Refreshed sh t t 0
fresh-none = record { only = keeps-none; fresh = λ v l. absurd (omega arith) }

pub fresh-more : {sh : Shape} {t t' t'' : List ℕ} {v : ℕ} → Refreshed sh t t' v → Put sh t' t'' labels v sh.fresh → Refreshed sh t t'' (v + 1)
fresh-more C P = record {
  only = keeps_then C.only (put_keeps refl P);
  fresh = λ i h. ⊎_elim (λ w. w.1) (λ w. w.1 ∙ C.fresh i (omega (arith, w.0))) (puts-at P.puts i);
}
