-- Laws of a walk in the buffers.
--   tail-down tail-kept tail-left tail-up    where the arc leads from by which a node was reached
--   way-small way-node went-search good-went step-on step_end step_back    one step
--   Roam sh ch sheet t₀ t u i  the walk from the source has come to u by i steps, and not to the sink
--   Roams sh ch sheet t₀ t u i     so it has, or it is ended
--   roams-first roam-standing roam-returns roam-low roams-next     the start, what a step asks, the number of steps, and one step
--   source-small lit-set lit-walk      before the first step
use mathlib.Core.Path.{◌≡◌, refl, sym, ap, subst, ◌∙◌}
use mathlib.Core.Logic.{◌≢◌, inl, inr, ⊎_elim}
use mathlib.Core.Bool.{Bool, false}
use mathlib.Core.List.{List}
use Prim.Native.Nat.{ℕ, ◌+◌, ◌*◌, ◌-◌, ◌≤◌, ◌<◌}
use native.Mathlib.Decide.{dec_lt}
use native.Mathlib.Omega.{arith}
use lib.Dec.{ltb, eqb}
use borrow.Author.Tests.{eqb-true, eqb-false}
use Rattle.theory.specs.Residual.{Residual, Arc, Cut}
use Rattle.theory.specs.Residual.Arc.{down, up, puts, takes}
use Rattle.theory.specs.Walk.{place, Stands}
use Rattle.theory.proofs.ResidualLaws.{arc-down, arc-up, arc-row}
use Rattle.theory.proofs.CutLaws.{tail-node, head-node}
use Rattle.exchange.specs.Plain.{Forward}
use Rattle.scratch.specs.declared.Shape.{Shape}
use Rattle.scratch.specs.Map.{arc_in, label_of, pred_of, queue_of, spare_of, parent_of, card_of, shop_of, kept_of, labels, queues, span, Put}
use Rattle.scratch.specs.Map.{OnlySearch}
use Rattle.scratch.specs.View.{residual_of}
use Rattle.scratch.proofs.MapLaws.{keeps-none, keeps_then, keeps-more, put_keeps}
use Rattle.look.specs.Reach.{Step}
use Rattle.look.proofs.LabelLaws.{arc-in-fresh, arc-in-more, spread-puts}
use Rattle.look.proofs.StepLaws.{same_tables, tables-same, same_lists}
use Rattle.paths.specs.Flip.{Good, Path}
use Rattle.prices.specs.State.{limit_of, State}
use Rattle.prices.proofs.ReadyLaws.{state-ready}
use Rattle.moves.proofs.MoveLaws.{unread-search, state-unread}
use Rattle.walks.specs.Walk.{Ahead, Fresh, Swept, SweptOf, Stride, TailOf, Standing, Returns, Went, Stepped, Begun, Set, Stuck, Walk}
use Rattle.walks.proofs.StackLaws.{Walking, swept-spread, ahead-next, trail-node, trail-seen, trail-via, trail-begin, trail-most}
use Rattle.walks.proofs.StackLaws.{trail-place, trail-stands, walking-first, walking-next, walking-low, walking-stuck}

--------------------------------------------------------------------------------
-- The way back

module _ {sh : Shape} {ch sheet t : List ℕ} {u : ℕ} (G : Good sh ch sheet t u) {p : ℕ} (i : p ≡ pred_of sh t u) where
  pub tail-down : p - 1 < sh.groups → {x : ℕ} → x ≡ parent_of sh t (p - 1) → TailOf sh ch sheet t u x
  tail-down l {x} j y A =
      j ∙ sym (arc-down (residual_of sh sheet t) (kept_of ch) (spare_of sh t) (p - 1) y u 0 (rw i A) l).tail

  module _ (l : sh.groups ≤ p - 1) (m : p - 1 < sh.groups + sh.rows) where
    pub tail-kept : kept_of ch (p - 1 - sh.groups) ≡ 1 → {x : ℕ} → x ≡ shop_of sh t (p - 1 - sh.groups) → TailOf sh ch sheet t u x
    tail-kept k j y A =
        ⊎_elim
        (λ I. let z : p - 1 - sh.groups ≡ I.c = omega (arith, I.code) in absurd (omega (arith, I.byte, ap (kept_of ch) z)))
        (λ O. let z : p - 1 - sh.groups ≡ O.c = omega (arith, O.code) in j ∙ ap (shop_of sh t) z ∙ sym O.tail)
        (arc-row (residual_of sh sheet t) (kept_of ch) (spare_of sh t) (p - 1) y u 0 (rw i A) l m)

    pub tail-left : kept_of ch (p - 1 - sh.groups) ≢ 1 → {x : ℕ} → x ≡ card_of sh t (p - 1 - sh.groups) → TailOf sh ch sheet t u x
    tail-left k j y A =
        ⊎_elim
        (λ I. let z : p - 1 - sh.groups ≡ I.c = omega (arith, I.code) in j ∙ ap (card_of sh t) z ∙ sym I.tail)
        (λ O. let z : p - 1 - sh.groups ≡ O.c = omega (arith, O.code) in absurd (k (ap (kept_of ch) z ∙ O.byte)))
        (arc-row (residual_of sh sheet t) (kept_of ch) (spare_of sh t) (p - 1) y u 0 (rw i A) l m)

  pub tail-up : sh.groups + sh.rows ≤ p - 1 → TailOf sh ch sheet t u (p - 1 - sh.groups - sh.rows)
  tail-up l y A = omega (arith, (arc-up (residual_of sh sheet t) (kept_of ch) (spare_of sh t) (p - 1) y u 0 (rw i A) l).code)

--------------------------------------------------------------------------------
-- One step

-- an arc has a number below 2 groups + rows
arc-number : (r : Residual) (S spare : ℕ → ℕ) (e u v : ℕ) → Arc r S spare e u v 0 → e < 2 * r.net.groups + r.net.rows
arc-number r S spare e u v (down D) = omega (arith, D.group)
arc-number r S spare e u v (up U) = omega (arith, U.code, U.group)
arc-number r S spare e u v (puts I) = omega (arith, I.code, I.row)
arc-number r S spare e u v (takes O) = omega (arith, O.code, O.row)

module _ {sh : Shape} {ch sheet t : List ℕ} {u : ℕ} where
  module _ (W : Standing sh ch sheet t u) {by to : ℕ} (A : Step false (residual_of sh sheet t) (kept_of ch) (spare_of sh t) by u to) where
    pub way-small : by + 1 < span
    way-small =
        let few = W.ready.buffers.room.few in
        omega (arith, arc-number (residual_of sh sheet t) (kept_of ch) (spare_of sh t) by u to A, few.groups, few.rows)

    pub way-node : to < sh.groups + 2
    way-node = head-node (residual_of sh sheet t) (kept_of ch) (spare_of sh t) W.ready.formed by u to 0 A

  module _ {t₁ : List ℕ} {by to : ℕ} (N : Went sh ch sheet t t₁ u (ltb u sh.groups) by to) where
    pub went-search : OnlySearch sh t t₁
    went-search = keeps-more (λ l e. omega arith) N.only

    label-went : label_of sh t₁ ≡ label_of sh t
    label-went = N.only.rest labels (λ e. omega arith)

    pred-went : pred_of sh t₁ u ≡ pred_of sh t u
    pred-went = ap (λ (f : ℕ → ℕ). arc_in sh.fresh (f u)) label-went

    pub good-went : Good sh ch sheet t u → Good sh ch sheet t₁ u
    good-went G = record {
      u = G.u;
      by = G.by;
      is = pred-went ∙ G.is;
      arc = same_tables sheet went-search (λ x f. Arc x (kept_of ch) f G.by G.u u 0) G.arc;
    }

    pub step-on :
        {t₂ : List ℕ} → Standing sh ch sheet t u → to ≢ u → Put sh t₁ t₂ labels to (sh.fresh + by + 1) →
        Stepped sh ch sheet t t₂ u to
    step-on {t₂} W away P =
        let way = N.ways.on away in
        let same : queue_of sh t₂ ≡ queue_of sh t₁ = P.rest queues (λ e. omega arith) in
        record {
          only = keeps_then went-search (put_keeps (omega arith) P);
          stride = record {
            advanced = rw same N.advanced;
            step =
                inl (record {
                  by = by;
                  small = way-small W way.0;
                  arc = way.0;
                  new = way.1;
                  puts = rw label-went at P.puts;
                });
          };
        }

    module _ (here : to ≡ u) where
      pub step_end : u ≡ sh.groups → Stepped sh ch sheet t t₁ u (sh.groups + 2)
      step_end i = record {
        only = went-search;
        stride = record {
          advanced = N.advanced;
          step = inr (record { same = label-went; none = N.ways.none here; ends = inl (i, refl) });
        };
      }

      pub step_back : {x : ℕ} → u ≢ sh.groups → TailOf sh ch sheet t₁ u x → Stepped sh ch sheet t t₁ u x
      step_back {x} n T = record {
        only = went-search;
        stride = record {
          advanced = N.advanced;
          step =
              inr (record {
                same = label-went;
                none = N.ways.none here;
                ends =
                    inr (
                      n,
                      λ y A. T y
                          (same_tables sheet went-search
                          (λ r f. Step false r (kept_of ch) f (pred_of sh t₁ u - 1) y u) (rw pred-went A)),
                    );
              });
        };
      }

--------------------------------------------------------------------------------
-- From step to step

pub record Roam (sh : Shape) (ch sheet t₀ t : List ℕ) (u i : ℕ) : Type 0 where
  pub only : OnlySearch sh t₀ t
  pub walking :
      Walking (residual_of sh sheet t₀) (kept_of ch) (spare_of sh t₀) sh.fresh (label_of sh t₀) (queue_of sh t₀) (label_of sh t) (queue_of sh t)
      u i
  pub dark : pred_of sh t (sh.groups + 1) ≡ 0

-- so it has, or it is ended
pub record Roams (sh : Shape) (ch sheet t₀ t : List ℕ) (u i : ℕ) : Type 0 where
  pub on : u < sh.groups + 1 → Roam sh ch sheet t₀ t u i
  pub end : sh.groups + 1 ≤ u → Walk sh ch sheet t₀ t (eqb u (sh.groups + 1))

module _ {sh : Shape} {ch sheet t₀ : List ℕ} (B : Set sh ch sheet t₀) where
  abbrev Res : Residual
  Res = residual_of sh sheet t₀

  roam-first : Roam sh ch sheet t₀ t₀ sh.groups 0
  roam-first = record {
    only = keeps-none;
    walking =
        walking-first Res (kept_of ch) (spare_of sh t₀) sh.fresh (label_of sh t₀) (queue_of sh t₀) B.source B.else B.ahead;
    dark = ap (arc_in sh.fresh) (B.else (sh.groups + 1) (omega arith) (λ k. omega arith)) ∙ arc-in-fresh sh.fresh;
  }

  pub roams-first : Roams sh ch sheet t₀ t₀ sh.groups 0
  roams-first = record { on = λ l. roam-first; end = λ l. absurd (omega arith) }

  module _ {t : List ℕ} {u i : ℕ} (R : Roam sh ch sheet t₀ t u i) where
    roam-state : State sh ch sheet t
    roam-state = state-unread (unread-search R.only) B.state

    pub roam-standing : Standing sh ch sheet t u
    roam-standing =
        let T = R.walking.trail in
        record {
          ready = state-ready roam-state;
          free = B.free;
          lists = same_lists sheet R.only B.lists;
          ahead = same_tables sheet R.only (λ x f. Ahead x (queue_of sh t)) R.walking.ahead;
          node = trail-node Res (kept_of ch) (spare_of sh t₀) sh.fresh T;
          stale = λ z.
              omega (
                arith,
                trail-seen Res (kept_of ch) (spare_of sh t₀) sh.fresh T,
                ap (arc_in sh.fresh) z,
                arc-in-fresh sh.fresh,
              );
        }

    pub roam-returns : Returns sh ch sheet t u
    roam-returns away =
        let via = trail-via Res (kept_of ch) (spare_of sh t₀) sh.fresh R.walking.trail away in
        let x = R.walking.stack (R.walking.d - 1) in
        record {
          u = x;
          by = via.by;
          is = via.is;
          arc = same_tables sheet R.only (λ r f. Arc r (kept_of ch) f via.by x u 0) via.arc;
        }

    -- it makes fewer steps than twice the nodes
    pub roam-low : i + 2 ≤ 2 * (sh.groups + 2)
    roam-low = walking-low Res (kept_of ch) (spare_of sh t₀) sh.fresh R.walking

    module _ {t' : List ℕ} {x : ℕ} (P : Stepped sh ch sheet t t' u x) where
      only₂ : OnlySearch sh t₀ t'
      only₂ = keeps_then R.only P.only

      stride :
          Stride Res (kept_of ch) (spare_of sh t₀) sh.fresh (label_of sh t) (queue_of sh t) (label_of sh t') (queue_of sh t') u x
      stride =
          tables-same sheet R.only
          (λ r f. Stride r (kept_of ch) f sh.fresh (label_of sh t) (queue_of sh t) (label_of sh t') (queue_of sh t') u x) P.stride

      walking₂ :
          x < sh.groups + 2 →
          Walking Res (kept_of ch) (spare_of sh t₀) sh.fresh (label_of sh t₀) (queue_of sh t₀) (label_of sh t') (queue_of sh t') x (i + 1)
      walking₂ = walking-next Res (kept_of ch) (spare_of sh t₀) sh.fresh B.free B.state.formed R.walking stride

      roam-again : x < sh.groups + 1 → Roam sh ch sheet t₀ t' x (i + 1)
      roam-again l = record {
        only = only₂;
        walking = walking₂ (omega arith);
        dark =
            ⊎_elim
            (λ O. ap (arc_in sh.fresh) (O.puts.else (sh.groups + 1) (λ k. omega arith)) ∙ R.dark)
            (λ E. ap (λ (f : ℕ → ℕ). arc_in sh.fresh (f (sh.groups + 1))) E.same ∙ R.dark)
            stride.step;
      }

      -- it came to the sink
      path : x ≡ sh.groups + 1 → Path sh ch sheet t' sh.groups (sh.groups + 1)
      unfolding limit_of
      path here =
          let W = walking₂ (omega arith) in
          let T = W.trail in
          let most = trail-most Res (kept_of ch) (spare_of sh t₀) sh.fresh T in
          let J : State sh ch sheet t' = state-unread (unread-search only₂) B.state in
          let P : ℕ → ℕ = place W.stack (sh.groups + 2) in
          record {
            ready = state-ready J;
            place = P;
            few = omega (arith, most, ap P here, trail-place Res (kept_of ch) (spare_of sh t₀) sh.fresh T most);
            stands =
                same_tables sheet only₂ (λ r f. Stands r (kept_of ch) f (pred_of sh t') P sh.groups (sh.groups + 1))
                (subst (λ (y : ℕ). Stands Res (kept_of ch) (spare_of sh t₀) (pred_of sh t') P sh.groups y) here
                (trail-stands Res (kept_of ch) (spare_of sh t₀) sh.fresh T most));
            begin = trail-begin Res (kept_of ch) (spare_of sh t₀) sh.fresh T;
            node = omega arith;
            low = J.low;
          }

      -- it can go no further
      stuck : sh.groups + 2 ≤ x → SweptOf sh ch sheet t₀ → Stuck sh ch sheet t'
      stuck out H = record {
        cut =
            same_tables sheet only₂
            (λ r f. Cut r (kept_of ch) f (pred_of sh t') sh.groups (sh.groups + 1))
            (record { closed = closed; start = start; target = target });
        rest = rest;
        from = same_tables sheet only₂ (λ r f. (v : ℕ) → v < sh.groups + 2 → 0 < pred_of sh t' v → Forward r (kept_of ch) f v) from;
      }
        where
          ended :
              (label_of sh t' ≡ label_of sh t)
              × ((v : ℕ) → v < sh.groups + 2 → 0 < pred_of sh t v → (e : ℕ) →
              Fresh Res (kept_of ch) (spare_of sh t₀) sh.fresh (label_of sh t) e v → ⊥)
          ended =
              walking-stuck Res (kept_of ch) (spare_of sh t₀) sh.fresh B.free B.state.formed R.walking stride out H

          was : (v : ℕ) → pred_of sh t' v ≡ pred_of sh t v
          was v = ap (λ (f : ℕ → ℕ). arc_in sh.fresh (f v)) ended.0

          rest : (v : ℕ) → v < sh.groups + 2 → pred_of sh t' v ≡ 0 → label_of sh t' v ≡ sh.fresh
          rest v l none =
              ap (λ (f : ℕ → ℕ). f v) ended.0
              ∙ ⊎_elim (λ z. z) (λ p. absurd (omega (arith, p, was v))) (R.walking.trail.named v l)

          closed : (e a b : ℕ) → Arc Res (kept_of ch) (spare_of sh t₀) e a b 0 → 0 < pred_of sh t' a → 0 < pred_of sh t' b
          closed e a b A p =
              elim (dec_lt 0 (pred_of sh t' b)) [
                | yes l ↦ l
                | no l ↦
                    let node = tail-node Res (kept_of ch) (spare_of sh t₀) B.state.formed e a b 0 A in
                    let head = head-node Res (kept_of ch) (spare_of sh t₀) B.state.formed e a b 0 A in
                    absurd
                    (ended.1 a node (omega (arith, was a, p)) e
                    (record {
                      v = b;
                      arc = A;
                      new = ap (λ (f : ℕ → ℕ). f b) (sym ended.0) ∙ rest b head (omega arith);
                    }))
              ]

          start : 0 < pred_of sh t' sh.groups
          start = omega (arith, was sh.groups, trail-begin Res (kept_of ch) (spare_of sh t₀) sh.fresh R.walking.trail)

          target : pred_of sh t' (sh.groups + 1) ≡ 0
          target = was (sh.groups + 1) ∙ R.dark

          from : (v : ℕ) → v < sh.groups + 2 → 0 < pred_of sh t' v → Forward Res (kept_of ch) (spare_of sh t₀) v
          from v l p = R.walking.trail.from v l (omega (arith, p, was v))

      roam-end : sh.groups + 1 ≤ x → Walk sh ch sheet t₀ t' (eqb x (sh.groups + 1))
      roam-end l = record {
        only = only₂;
        ahead =
            same_tables sheet only₂ (λ r f. Ahead r (queue_of sh t'))
            (ahead-next Res (kept_of ch) (spare_of sh t₀) sh.fresh stride.advanced R.walking.ahead);
        path = λ h. path (eqb-true x (sh.groups + 1) h);
        none = λ h H. stuck (omega (arith, l, eqb-false x (sh.groups + 1) h)) H;
      }

      pub roams-next : Roams sh ch sheet t₀ t' x (i + 1)
      roams-next = record { on = roam-again; end = roam-end }

--------------------------------------------------------------------------------
-- The first label

-- the number by which the source is reached
pub source-small : {sh : Shape} {ch sheet t : List ℕ} → Begun sh ch sheet t → 2 * sh.groups + sh.rows + 1 < span
source-small B = let few = B.state.room.few in omega (arith, few.groups, few.rows)

module _
    {sh : Shape} {ch sheet t t₁ : List ℕ} (by : ℕ) (B : Begun sh ch sheet t)
    (P : Put sh t t₁ labels sh.groups (sh.fresh + by + 1))
  where
    lit-only : OnlySearch sh t t₁
    lit-only = put_keeps (omega arith) P

    module _ (small : by + 1 < span) where
      pub lit-set : Ahead (residual_of sh sheet t) (queue_of sh t) → Set sh ch sheet t₁
      lit-set A =
          let same : queue_of sh t₁ ≡ queue_of sh t = P.rest queues (λ e. omega arith) in
          record {
            state = state-unread (unread-search lit-only) B.state;
            lists = same_lists sheet lit-only B.lists;
            free = B.free;
            ahead = same_tables sheet lit-only (λ r f. Ahead r (queue_of sh t₁)) (rw same A);
            source = omega (arith, ap (arc_in sh.fresh) P.puts.here, arc-in-more sh.fresh by small);
            else = λ v l n. P.puts.else v n ∙ B.fresh v l;
          }

      pub lit-walk : {t' : List ℕ} {b : Bool} → Walk sh ch sheet t₁ t' b → Walk sh ch sheet t t' b
      lit-walk W = record {
        only = keeps_then lit-only W.only;
        ahead = W.ahead;
        path = W.path;
        none = λ h H. W.none h (lit-swept H);
      }
        where
          lit-swept : SweptOf sh ch sheet t → SweptOf sh ch sheet t₁
          lit-swept H =
              let same : queue_of sh t₁ ≡ queue_of sh t = P.rest queues (λ e. omega arith) in
              same_tables sheet lit-only
              (λ r f. Swept r (kept_of ch) f sh.fresh (label_of sh t₁) (queue_of sh t₁))
              (rw same
              (swept-spread (residual_of sh sheet t) (kept_of ch) (spare_of sh t) sh.fresh (label_of sh t) (label_of sh t₁) (queue_of sh t)
              (spread-puts sh.fresh (label_of sh t) (label_of sh t₁) sh.groups by (B.fresh sh.groups (omega arith)) small P.puts)
              H))
