-- Laws of the search for the codes, in the buffers.
--   Going ..               paths were turned, round after round; going_start going_next going_less    its laws
--   sink-asked sink-aside sink-queued sink-labelled    the nodes that reach the sink have their label
--   named-yes named-no named_none named_more source-labelled   the nodes that are reached from the source have their label
use mathlib.Core.Path.{◌≡◌, refl, sym, ap, subst, ◌∙◌}
use mathlib.Core.Logic.{◌≢◌, inl, inr, ⊎_elim}
use mathlib.Core.Bool.{Bool, true, false, true≢false}
use mathlib.Core.List.{List}
use Prim.Native.Nat.{ℕ, suc, ◌+◌, ◌≤◌, ◌<◌}
use native.Mathlib.Decide.{ℕ_discrete, dec_lt}
use native.Mathlib.Omega.{arith}
use lib.ListN.{length}
use Rattle.theory.specs.Sum.{pick}
use Rattle.theory.specs.Incidence.{size}
use Rattle.theory.specs.Residual.{Arc}
use Rattle.theory.proofs.SumLaws.{sum-le, sum_one}
use Rattle.theory.proofs.TestLaws.{either}
use Rattle.theory.proofs.CutLaws.{tail-node, head-node}
use Rattle.exchange.specs.Plain.{Backward}
use Rattle.scratch.specs.declared.Shape.{Shape}
use Rattle.scratch.specs.Map.{OnlySearch, Put, arc_in, label_of, pred_of, spare_of, price_of, kept_of, labels}
use Rattle.scratch.specs.View.{residual_of}
use Rattle.search.specs.Search.{Asked, SearchedBy, Queued, Relabelled}
use Rattle.scratch.proofs.MapLaws.{keeps-none, keeps_then, keeps-more, put_keeps, room-keeps}
use Rattle.look.proofs.StepLaws.{same_lists}
use Rattle.prices.specs.State.{limit_of}
use Rattle.walks.specs.Walk.{Round}
use Rattle.solver.specs.Toll.{Running}
use Rattle.prices.proofs.ReadyLaws.{state-ready}
use Rattle.moves.proofs.LabelLaws.{arc-in-class}
use Rattle.moves.proofs.MoveLaws.{residual-keeps, unread-search, unread-keeps, spare-unread, limits-unread, state-unread, searched-reach, searched-rest, searched-fresh, searched-start, searched-closed}
use Rattle.moves.proofs.NameLaws.{queued-reach, renamed-reach}
use Rattle.walks.proofs.RoundLaws.{to_go}
use Rattle.solver.proofs.TollLaws.{stuck-cutting}
use Rattle.labels.specs.Label.{from_source, to_sink}
use Rattle.holders.specs.Find.{Onward, Ended, Augmented, NamedNode, Named, SourceSide, Sides, SourceLabelled, BothLabelled}
use Rattle.holders.proofs.LabelLaws.{source-same, sides-same, Changed, sides-of, reach-backward}

--------------------------------------------------------------------------------
-- Paths

pub record Going (sh : Shape) (ch₀ sheet t₀ ch t : List ℕ) (b : Bool) : Type 0 where
  pub long : length ch ≡ length ch₀
  pub more : b ≡ true → Onward sh ch₀ sheet t₀ ch t
  pub end : b ≡ false → Augmented sh ch₀ sheet t₀ ch t

pub going_start : {sh : Shape} {ch sheet t : List ℕ} {b : Bool} → b ≡ true → Running sh ch sheet t → Going sh ch sheet t ch t b
going_start i R = record {
  long = refl;
  more = λ z. record { running = R; keeps = keeps-none; limits = λ v l. refl };
  end = λ z. absurd (true≢false (sym i ∙ z));
}

module _
    {sh : Shape} {ch₀ sheet t₀ ch t : List ℕ} {b : Bool} (G : Going sh ch₀ sheet t₀ ch t b) (z : b ≡ true) {ch' t' : List ℕ} {m : Bool}
    (T : Round sh ch sheet t ch' t' m)
  where
    abbrev before : Onward sh ch₀ sheet t₀ ch t
    before = G.more z

    pub going_next : length ch' ≡ length ch → Going sh ch₀ sheet t₀ ch' t' m
    going_next long = record {
      long = long ∙ G.long;
      more = λ e.
          let X = T.path e in
          let B = X.begun in
          record {
            running = record { state = B.state; lists = B.lists; all = before.running.all; fresh = B.fresh };
            keeps = keeps_then before.keeps X.filled.keeps;
            limits = λ v l. X.filled.limits v l ∙ before.limits v l;
          };
      end = λ e.
          let X = T.none e in
          let only = X.0.0 in
          let same = X.0.1 in
          let unread = unread-search only in
          record {
            ended = record {
              state = (stuck-cutting before.running only same X.1).state;
              all = before.running.all;
              stuck = X.1;
              lists = same_lists sheet only before.running.lists;
            };
            keeps = keeps_then before.keeps (unread-keeps unread);
            limits = λ v l. ap (λ (x : List ℕ). limit_of sh x t' v) same ∙ limits-unread unread ch v ∙ before.limits v l;
          };
    }

    pub going_less : to_go sh ch' m < to_go sh ch b
    going_less =
        ⊎_elim
        (λ e.
        let X = T.path e in
        omega (
          arith,
          X.more,
          ap (λ (x : Bool). pick {A = ℕ} x 1 0) z,
          ap (λ (x : Bool). pick {A = ℕ} x 1 0) e,
          sum-le sh.rows {f = kept_of ch'} {g = λ c. 1} X.begun.state.level.choice.bits,
          sum_one sh.rows,
        ))
        (λ e.
        omega (
          arith,
          ap (λ (x : Bool). pick {A = ℕ} x 1 0) z,
          ap (λ (x : Bool). pick {A = ℕ} x 1 0) e,
          ap (λ (x : List ℕ). size sh.rows (kept_of x)) (T.none e).0.1,
        ))
        (either m)

--------------------------------------------------------------------------------
-- The nodes that reach the sink

module _ {sh : Shape} {ch sheet t : List ℕ} (A : SourceLabelled sh ch sheet t) where
  pub sink-asked : Asked sh ch sheet t (sh.groups + 1) sh.groups
  sink-asked = record {
    ready = state-ready A.based.state;
    free = omega (arith, A.based.all);
    lists = A.based.lists;
    start_node = omega arith;
    target_node = omega arith;
    start_fresh = A.front.sink ∙ sym A.based.fresh;
    dark = dark;
  }
    where
      dark : (w : ℕ) → w < sh.groups + 2 → pred_of sh t w ≡ 0
      dark w l =
          elim (A.front.named w l) [
            | inl e ↦ arc-in-class sh.fresh (label_of sh t w) 0 0 (omega (arith, A.based.fresh)) (omega arith)
            | inr p ↦ arc-in-class sh.fresh (label_of sh t w) 0 1 (omega (arith, A.based.fresh)) (omega (arith, p.0))
          ]

  -- the source has a label of its own
  pub sink-aside : label_of sh t sh.groups ≢ sh.fresh
  sink-aside e = omega (arith, A.front.source, A.based.fresh)

  module _ {t₁ : List ℕ} {n : ℕ} (X : SearchedBy sh true ch sheet t t₁ (sh.groups + 1) sh.groups n) where
    pub sink-queued : Queued sh t₁ n
    sink-queued = queued-reach sh ch sheet t₁ (searched-reach X) refl (room-keeps X.only.long A.based.state.room)

    was-fresh : (v : ℕ) → v < sh.groups + 2 → 0 < pred_of sh t₁ v → label_of sh t v ≡ 0
    was-fresh v l some = searched-fresh X v (sink-asked.dark v l) some ∙ A.based.fresh

    -- the source has another label than 0
    away : pred_of sh t₁ sh.groups ≡ 0
    away =
        elim (dec_lt 0 (pred_of sh t₁ sh.groups)) [
          | yes l ↦ absurd (omega (arith, was-fresh sh.groups (omega arith) l, A.front.source))
          | no l ↦ omega arith
        ]

    module _ {t₂ : List ℕ} (L : Relabelled sh t₁ t₂ n to_sink) where
      changed : Changed (residual_of sh sheet t) (pred_of sh t₁) (label_of sh t) (label_of sh t₂) to_sink
      changed v l =
          elim (renamed-reach sh ch sheet t₁ (searched-reach X) refl refl L v l) [
            | inl p ↦ inl (p.0, (was-fresh v l p.0, p.1))
            | inr p ↦ inr (p.0, p.1 ∙ searched-rest X v p.0)
          ]

      only₂ : OnlySearch sh t t₂
      only₂ = keeps_then X.only (keeps-more (λ l p. omega arith) L.only)

      sides₁ : Sides (residual_of sh sheet t) (kept_of ch) (spare_of sh t) (label_of sh t₂)
      sides₁ =
          sides-of A.based.state.formed A.front (pred_of sh t₁) (label_of sh t₂) changed (searched-start X)
          (λ v l some.
          let w = X.reach.spot v l some in
          subst (λ (u : ℕ). Backward (residual_of sh sheet t) (kept_of ch) (spare_of sh t) u) w.2
          (reach-backward X.reach X.begin (suc w.0) w.0 (omega arith) w.1))
          (λ e u v a some z.
          searched-closed X away e v u
          (head-node (residual_of sh sheet t) (kept_of ch) (spare_of sh t) A.based.state.formed e u v 0 a) a some
          (z ∙ sym A.based.fresh))

      pub sink-labelled : BothLabelled sh ch sheet t t₂
      sink-labelled = record {
        only = only₂;
        based = record {
          state = state-unread (unread-search only₂) A.based.state;
          lists = same_lists sheet only₂ A.based.lists;
          all = A.based.all;
          fresh = A.based.fresh;
          prices = A.based.prices;
        };
        sides = sides-same (residual-keeps (unread-keeps (unread-search only₂)) sheet) (spare-unread (unread-search only₂)) sides₁;
      }

--------------------------------------------------------------------------------
-- The nodes that are reached from the source

pub named-yes :
    {sh : Shape} {t t' : List ℕ} {v p : ℕ} → p ≡ pred_of sh t v → 0 < p → Put sh t t' labels v from_source → NamedNode sh t t' v
named-yes i l P = record {
  only = put_keeps refl P;
  name = inl (omega arith, P.puts.here);
  else = λ w n. P.puts.else w n;
}

pub named-no : {sh : Shape} {t : List ℕ} (v : ℕ) {p : ℕ} → p ≡ pred_of sh t v → p ≤ 0 → NamedNode sh t t v
named-no v i l = record { only = keeps-none; name = inr (omega arith, refl); else = λ w n. refl }

pub named_none : {sh : Shape} {t : List ℕ} → Named sh t t 0
named_none = record { only = keeps-none; name = λ v l. absurd (omega arith); else = λ w l. refl }

pub named_more :
    {sh : Shape} {t t' t'' : List ℕ} {v : ℕ} → Named sh t t' v → NamedNode sh t' t'' v → Named sh t t'' (v + 1)
named_more {sh} {t} {t'} {t''} {v} A N =
    let same : label_of sh t' v ≡ label_of sh t v = A.else v (omega arith) in
    let was : pred_of sh t' v ≡ pred_of sh t v = ap (arc_in sh.fresh) same in
    record {
      only = keeps_then A.only N.only;
      name = λ w l.
          elim (ℕ_discrete w v) [
            | yes k ↦
                rw k
                (⊎_elim
                (λ x. inl (omega (arith, was, x.0), x.1))
                (λ x. inr (omega (arith, was, x.0), x.1 ∙ same))
                N.name)
            | no k ↦
                ⊎_elim
                (λ x. inl (x.0, N.else w k ∙ x.1))
                (λ x. inr (x.0, N.else w k ∙ x.1))
                (A.name w (omega arith))
          ];
      else = λ w l. N.else w (λ k. omega arith) ∙ A.else w (omega arith);
    }

module _
    {sh : Shape} {ch sheet t : List ℕ} (E : Ended sh ch sheet t) (fresh : sh.fresh ≡ 0) {t' : List ℕ}
    (L : Named sh t t' (sh.groups + 2))
  where
    only : OnlySearch sh t t'
    only = keeps-more (λ l p. omega arith) L.only

    -- a reached node has the label, and another has none
    yes-label : (v : ℕ) → v < sh.groups + 2 → 0 < pred_of sh t v → label_of sh t' v ≡ from_source
    yes-label v l some = elim (L.name v l) [ inl w ↦ w.1 | inr w ↦ absurd (omega (arith, w.0)) ]

    no_label : (v : ℕ) → v < sh.groups + 2 → pred_of sh t v ≡ 0 → label_of sh t' v ≡ 0
    no_label v l none =
        elim (L.name v l) [
          | inl w ↦ absurd (omega (arith, w.0))
          | inr w ↦ w.1 ∙ E.stuck.rest v l none ∙ fresh
        ]

    from-label : (v : ℕ) → v < sh.groups + 2 → label_of sh t' v ≡ from_source → 0 < pred_of sh t v
    from-label v l e =
        elim (dec_lt 0 (pred_of sh t v)) [ yes h ↦ h | no h ↦ absurd (omega (arith, no_label v l (omega arith))) ]

    front₀ : SourceSide (residual_of sh sheet t) (kept_of ch) (spare_of sh t) (label_of sh t')
    front₀ = record {
      named = λ v l.
          elim (dec_lt 0 (pred_of sh t v)) [
            | no h ↦ inl (no_label v l (omega arith))
            | yes h ↦ inr (yes-label v l h, E.stuck.from v l h)
          ];
      source = yes-label sh.groups (omega arith) E.stuck.cut.start;
      sink = no_label (sh.groups + 1) (omega arith) E.stuck.cut.target;
      ahead = λ e u v a h.
          yes-label v (head e u v a) (E.stuck.cut.closed e u v a (from-label u (tail e u v a) h));
    }
      where
        head : (e u v : ℕ) → Arc (residual_of sh sheet t) (kept_of ch) (spare_of sh t) e u v 0 → v < sh.groups + 2
        head e u v a = head-node (residual_of sh sheet t) (kept_of ch) (spare_of sh t) E.state.formed e u v 0 a

        tail : (e u v : ℕ) → Arc (residual_of sh sheet t) (kept_of ch) (spare_of sh t) e u v 0 → u < sh.groups + 2
        tail e u v a = tail-node (residual_of sh sheet t) (kept_of ch) (spare_of sh t) E.state.formed e u v 0 a

    pub source-labelled : ((v : ℕ) → price_of sh sheet v ≡ 0) → SourceLabelled sh ch sheet t'
    source-labelled prices = record {
      based = record {
        state = state-unread (unread-search only) E.state;
        lists = same_lists sheet only E.lists;
        all = E.all;
        fresh = fresh;
        prices = prices;
      };
      front = source-same (residual-keeps (unread-keeps (unread-search only)) sheet) (spare-unread (unread-search only)) front₀;
    }
