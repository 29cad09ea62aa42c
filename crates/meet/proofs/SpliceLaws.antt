-- Laws of the splice. The nodes from the joining arc to the target have falling places in the queue of that end. Each gets the label of
-- the other direction, by the arc that leads to it; so the way from the start grows by one node, and the nodes nearer to the target are as
-- they were.
--   arc-low                the number of an arc
--   head-down head_in head-out head-up    where an arc leads, by its number
--   grown puts-grown       a queue with one node more
--   Ahead .. e             arc e leads from the way to a node that was reached from the target, and those nearer to it are as they were
--   Splicing .. e          the loop's invariant: the way from the start stands, and arc e leads on from it; or the target is reached
--   splicing-first splicing-ready splicing-node splicing-seen splicing-next splicing-less splicing-end    the loop
use mathlib.Core.Path.{◌≡◌, refl, sym, ap, ◌∙◌}
use mathlib.Core.Logic.{◌⊎◌, ◌≢◌, inl, inr, ⊎_elim}
use mathlib.Core.Bool.{true, false}
use mathlib.Core.List.{List}
use Prim.Native.Nat.{ℕ, ◌+◌, ◌*◌, ◌-◌, ◌≤◌, ◌<◌}
use native.Mathlib.Nat.{le_refl}
use native.Mathlib.Decide.{ℕ_discrete}
use native.Mathlib.Omega.{arith}
use Rattle.theory.specs.Residual.{Residual, Arc}
use Rattle.theory.specs.Residual.Arc.{down, up, puts, takes}
use Rattle.theory.specs.Turn.{Puts}
use Rattle.theory.specs.Walk.{place}
use Rattle.theory.proofs.ResidualLaws.{arc-down, arc-row, arc-up}
use Rattle.theory.proofs.CutLaws.{tail-node, head-node}
use Rattle.theory.proofs.TurnLaws.{puts-at, puts_back}
use Rattle.theory.proofs.WalkLaws.{place_at, place-first}
use Rattle.scratch.specs.declared.Shape.{Shape}
use Rattle.scratch.specs.Map.{span, arc_in, label_of, pred_of, spare_of, kept_of, labels, OnlyLabels, Put}
use Rattle.scratch.specs.View.{residual_of}
use Rattle.scratch.proofs.MapLaws.{keeps-none, keeps_then, keeps-more, put_keeps}
use Rattle.residual.specs.State.{Ready}
use Rattle.look.specs.Reach.{reached, Come, Reach}
use Rattle.look.proofs.LabelLaws.{pred-puts}
use Rattle.look.proofs.ReachLaws.{reached-more, reach-later, reach-more}
use Rattle.look.proofs.StepLaws.{tables-same, same-ready}
use Rattle.meet.specs.Meet.{seen_by, queue_by}
use Rattle.meet.specs.Splice.{HeadOf, Joined, Spliced}
use Rattle.meet.proofs.EndsLaws.{seen_apart}

--------------------------------------------------------------------------------
-- Where an arc leads

module _ (r : Residual) (S spare : ℕ → ℕ) where
  pub arc-low : {e u v : ℕ} → Arc r S spare e u v 0 → e < 2 * r.net.groups + r.net.rows
  arc-low (down D) = omega (arith, D.group)
  arc-low (up U) = omega (arith, U.code, U.group)
  arc-low (puts I) = omega (arith, I.code, I.row)
  arc-low (takes O) = omega (arith, O.code, O.row)

  pub head-down : (e : ℕ) → e < r.net.groups → HeadOf r S spare e e
  head-down e l u w A = (arc-down r S spare e u w 0 A l).head

  module _ (e c : ℕ) (code : c ≡ e - r.net.groups) (low : r.net.groups ≤ e) (l : e < r.net.groups + r.net.rows) where
    pub head_in : S c ≢ 1 → {v : ℕ} → v ≡ r.net.shop c → HeadOf r S spare e v
    head_in out is u w A =
        elim (arc-row r S spare e u w 0 A low l) [
          | inl I ↦
              let i : I.c ≡ c = omega (arith, I.code) in
              I.head ∙ ap r.net.shop i ∙ sym is
          | inr O ↦
              let i : O.c ≡ c = omega (arith, O.code) in
              absurd (out (ap S (sym i) ∙ O.byte))
        ]

    pub head-out : S c ≡ 1 → {v : ℕ} → v ≡ r.net.card c → HeadOf r S spare e v
    head-out kept is u w A =
        elim (arc-row r S spare e u w 0 A low l) [
          | inl I ↦
              let i : I.c ≡ c = omega (arith, I.code) in
              absurd (omega (arith, I.byte, ap S i, kept))
          | inr O ↦
              let i : O.c ≡ c = omega (arith, O.code) in
              O.head ∙ ap r.net.card i ∙ sym is
        ]

  pub head-up :
      (e x : ℕ) → x ≡ e - r.net.groups - r.net.rows → r.net.groups + r.net.rows ≤ e → {v : ℕ} → v ≡ r.net.parent x → HeadOf r S spare e v
  head-up e x code low is u w A =
      let U = arc-up r S spare e u w 0 A low in
      let i : u ≡ x = omega (arith, U.code) in
      U.head ∙ ap r.net.parent i ∙ sym is

--------------------------------------------------------------------------------
-- A queue with one node more

grown : (ℕ → ℕ) → ℕ → ℕ → ℕ → ℕ
grown queue n v i = elim (ℕ_discrete i n) [ yes e ↦ v | no d ↦ queue i ]

puts-grown : (queue : ℕ → ℕ) (n v : ℕ) → Puts queue (grown queue n v) n v
unfolding grown
puts-grown queue n v = record { here = here (ℕ_discrete n n); else = λ i d. else i d (ℕ_discrete i n) }
  where
    here : (d : Dec (n ≡ n)) → (elim d [ yes e ↦ v | no d ↦ queue n ]) ≡ v
    here (yes e) = refl
    here (no d) = absurd (d refl)

    else : (i : ℕ) → (i ≡ n → ⊥) → (d : Dec (i ≡ n)) → (elim d [ yes e ↦ v | no d ↦ queue i ]) ≡ queue i
    else i n (yes e) = absurd (n e)
    else i n (no d) = refl

--------------------------------------------------------------------------------
-- The loop

-- the first place of a node that was reached from the target
spot_of :
    {r : Residual} {S spare pred queue : ℕ → ℕ} {h m : ℕ} → Reach true r S spare pred queue h m → (v : ℕ) → v < r.net.groups + 2 → 0 < pred v →
    (place queue m v < m) × ((queue (place queue m v) ≡ v) × ((j : ℕ) → j < place queue m v → queue j ≢ v))
spot_of {queue = queue} {m = m} R v node some =
    let at = R.spot v node some in
    let low : place queue m v < m = omega (arith, at.1, place-first m queue v at.0 at.1 at.2) in (
      low,
      (place_at m queue v low, λ j l e. omega (arith, place-first m queue v j (omega arith) e)),
    )

module _ (sh : Shape) (ch sheet t₀ : List ℕ) where
  abbrev r₀ : Residual
  r₀ = residual_of sh sheet t₀

  abbrev ended : ℕ → ℕ
  ended = queue_by sh true t₀

  pub record Ahead (t : List ℕ) (m e : ℕ) : Type 0 where
    pub u : ℕ
    pub v : ℕ
    pub i : ℕ
    pub node : u < sh.groups + 2
    pub from : 0 < pred_of sh t u
    pub arc : Arc r₀ (kept_of ch) (spare_of sh t₀) e u v 0
    pub below : i < m
    pub at : ended i ≡ v
    pub least : (j : ℕ) → j < i → ended j ≢ v
    pub old : (j : ℕ) → j ≤ i → label_of sh t (ended j) ≡ label_of sh t₀ (ended j)

  pub record Splicing (t : List ℕ) (start target hit e : ℕ) : Type 0 where
    pub joined : Joined sh ch sheet t₀ start target hit
    pub only : OnlyLabels sh t₀ t
    pub n : ℕ
    pub queue : ℕ → ℕ
    pub reach : Reach false r₀ (kept_of ch) (spare_of sh t₀) (pred_of sh t) queue n n
    pub begin : queue 0 ≡ start
    pub kept : (v : ℕ) → (label_of sh t v ≡ label_of sh t₀ v) ⊎ ((0 < seen_by sh true t₀ v) × (0 < pred_of sh t v))
    pub way : Ahead t joined.m e ⊎ ((0 < pred_of sh t target) × (e ≡ 2 * sh.groups + sh.rows))

module _ {sh : Shape} {ch sheet t₀ : List ℕ} {start target hit : ℕ} where
  pub splicing-first : Joined sh ch sheet t₀ start target hit → Splicing sh ch sheet t₀ t₀ start target hit (hit - 1)
  splicing-first J =
      let A = J.joint in
      let r : Residual = residual_of sh sheet t₀ in
      let w = spot_of J.both.other A.v (head-node r (kept_of ch) (spare_of sh t₀) J.ready.formed (hit - 1) A.u A.v 0 A.arc) A.to in
      record {
        joined = J;
        only = keeps-none;
        n = J.n;
        queue = queue_by sh false t₀;
        reach = J.both.mine;
        begin = J.begin;
        kept = λ v. inl refl;
        way =
            inl (record {
              u = A.u;
              v = A.v;
              i = place (queue_by sh true t₀) J.m A.v;
              node = tail-node r (kept_of ch) (spare_of sh t₀) J.ready.formed (hit - 1) A.u A.v 0 A.arc;
              from = A.from;
              arc = A.arc;
              below = w.0;
              at = w.1.0;
              least = w.1.1;
              old = λ j l. refl;
            });
      }

  module _ {t : List ℕ} {e : ℕ} (I : Splicing sh ch sheet t₀ t start target hit e) where
    pub splicing-ready : Ready sh ch sheet t
    splicing-ready = same-ready sheet (keeps-more (λ l p. omega arith) I.only) I.joined.ready

    pub splicing-end : 2 * sh.groups + sh.rows ≤ e → Spliced sh ch sheet t₀ t start target
    splicing-end l = record {
      only = I.only;
      n = I.n;
      queue = I.queue;
      reach = I.reach;
      begin = I.begin;
      found =
          ⊎_elim
          (λ (A : Ahead sh ch sheet t₀ t I.joined.m e).
          absurd (omega (arith, arc-low (residual_of sh sheet t₀) (kept_of ch) (spare_of sh t₀) A.arc)))
          (λ w. w.0) I.way;
      kept = I.kept;
    }

    ahead : e < 2 * sh.groups + sh.rows → Ahead sh ch sheet t₀ t I.joined.m e
    ahead l = ⊎_elim (λ A. A) (λ w. absurd (omega (arith, w.1))) I.way

    module _ (A : Ahead sh ch sheet t₀ t I.joined.m e) where
      label-old : label_of sh t A.v ≡ label_of sh t₀ A.v
      label-old = sym (ap (label_of sh t) A.at) ∙ A.old A.i (le_refl A.i) ∙ ap (label_of sh t₀) A.at

      seen-old : 0 < seen_by sh true t₀ A.v
      seen-old = rw (sym A.at) (I.joined.both.other.seen A.i A.below)

      seen_here : seen_by sh true t A.v ≡ seen_by sh true t₀ A.v
      seen_here = ap (arc_in (sh.fresh + span)) label-old

      seen-still : 0 < seen_by sh true t A.v
      seen-still = omega (arith, seen_here, seen-old)

    -- the label of the node to which the arc leads is changed
    module _ (A : Ahead sh ch sheet t₀ t I.joined.m e) {t' : List ℕ} (P : Put sh t t' labels A.v (sh.fresh + e + 1)) where
      abbrev r : Residual
      r = residual_of sh sheet t₀

      node : A.v < sh.groups + 2
      node = head-node r (kept_of ch) (spare_of sh t₀) I.joined.ready.formed e A.u A.v 0 A.arc

      small : e + 1 < span
      small =
          omega (
            arith,
            arc-low r (kept_of ch) (spare_of sh t₀) A.arc,
            I.joined.ready.buffers.room.few.groups,
            I.joined.ready.buffers.room.few.rows,
          )

      dark : pred_of sh t A.v ≡ 0
      dark = seen_apart sh.fresh (label_of sh t) A.v true (seen-still A)

      more : Puts (pred_of sh t) (pred_of sh t') A.v (e + 1)
      more = pred-puts sh.fresh (label_of sh t) (label_of sh t') A.v e small P.puts

      lit : 0 < pred_of sh t' A.v
      lit = omega (arith, more.here)

      reach-next :
          Reach false r (kept_of ch) (spare_of sh t₀) (pred_of sh t') (grown I.queue I.n A.v) (I.n + 1) (I.n + 1)
      reach-next =
          let at = I.reach.spot A.u A.node A.from in
          reach-later false r (kept_of ch) (spare_of sh t₀) (omega arith)
          (reach-more false r (kept_of ch) (spare_of sh t₀) I.reach at.1 at.1 at.2 node A.arc dark more
          (puts-grown I.queue I.n A.v))

      kept_next : (v : ℕ) → (label_of sh t' v ≡ label_of sh t₀ v) ⊎ ((0 < seen_by sh true t₀ v) × (0 < pred_of sh t' v))
      kept_next v =
          ⊎_elim
          (λ w. inr (rw w.0 (seen-old A), rw w.0 lit))
          (λ w.
          ⊎_elim (λ d. inl (w.1 ∙ d)) (λ d. inr (d.0, omega (arith, ap (arc_in sh.fresh) w.1, d.1))) (I.kept v))
          (puts-at P.puts v)

      -- the next arc leads to a node that is nearer to the target
      module _ (i : 0 < A.i) where
        C : Come true r (kept_of ch) (spare_of sh t₀) (seen_by sh true t₀) (queue_by sh true t₀) I.joined.m A.i
        C = I.joined.both.other.come A.i A.below i

        abbrev next-node : ℕ
        next-node = queue_by sh true t₀ C.j

        low : C.j < I.joined.m
        low = omega (arith, C.before, A.below)

        near : place (queue_by sh true t₀) I.joined.m next-node ≤ C.j
        near = place-first I.joined.m (queue_by sh true t₀) next-node C.j low refl

        ahead-next : Ahead sh ch sheet t₀ t' I.joined.m C.by
        ahead-next =
            let w = spot_of I.joined.both.other next-node (I.joined.both.other.node C.j low) (I.joined.both.other.seen C.j low) in
            record {
              u = A.v;
              v = next-node;
              i = place (queue_by sh true t₀) I.joined.m next-node;
              node = node;
              from = lit;
              arc = rw A.at at C.arc;
              below = w.0;
              at = w.1.0;
              least = w.1.1;
              old = λ j l.
                  P.puts.else (queue_by sh true t₀ j) (A.least j (omega (arith, near, C.before)))
                  ∙ A.old j (omega (arith, near, C.before));
            }

        by_next : seen_by sh true t A.v ≡ C.by + 1
        by_next = seen_here A ∙ ap (seen_by sh true t₀) (sym A.at) ∙ C.is

      way_next :
          {x : ℕ} → x ≡ seen_by sh true t A.v - 1 →
          Ahead sh ch sheet t₀ t' I.joined.m x ⊎ ((0 < pred_of sh t' target) × (x ≡ 2 * sh.groups + sh.rows))
      way_next {x} is =
          elim (ℕ_discrete A.i 0) [
            | yes z ↦
                let here : A.v ≡ target = sym A.at ∙ ap (queue_by sh true t₀) z ∙ I.joined.end in
                inr (rw here at lit, omega (arith, seen_here A, ap (seen_by sh true t₀) here, I.joined.last))
            | no z ↦
                let same : x ≡ (C (omega arith)).by = omega (arith, by_next (omega arith)) in
                inl (rw (sym same) at (ahead-next (omega arith)))
          ]

      pub splicing-turn : {x : ℕ} → x ≡ seen_by sh true t A.v - 1 → Splicing sh ch sheet t₀ t' start target hit x
      splicing-turn is = record {
        joined = I.joined;
        only = keeps_then I.only (put_keeps refl P);
        n = I.n + 1;
        queue = grown I.queue I.n A.v;
        reach = reach-next;
        begin = (puts-grown I.queue I.n A.v).else 0 (λ z. omega (arith, I.reach.some)) ∙ I.begin;
        kept = kept_next;
        way = way_next is;
      }

      pub splicing-fewer : reached (seen_by sh true t') (sh.groups + 2) < reached (seen_by sh true t) (sh.groups + 2)
      splicing-fewer =
          let P : Puts (seen_by sh true t) (seen_by sh true t') A.v 0 = record {
            here = seen_apart sh.fresh (label_of sh t') A.v false lit;
            else = λ i d. ap (arc_in (sh.fresh + span)) (P.puts.else i d);
          } in
          omega (
            arith,
            reached-more (seen_by sh true t') (seen_by sh true t) (sh.groups + 2) A.v (seen_by sh true t A.v) node P.here
                (seen-still A) (puts_back P),
          )

    -- by what the code read
    module _ (low : e < 2 * sh.groups + sh.rows) {v : ℕ} (H : HeadOf (residual_of sh sheet t) (kept_of ch) (spare_of sh t) e v) where
      same : (ahead low).v ≡ v
      same =
          tables-same sheet (keeps-more (λ l p. omega arith) I.only)
          (λ x f. HeadOf x (kept_of ch) f e v) H (ahead low).u (ahead low).v (ahead low).arc

      pub splicing-node : v < sh.groups + 2
      splicing-node =
          rw (sym same)
          (head-node (residual_of sh sheet t₀) (kept_of ch) (spare_of sh t₀) I.joined.ready.formed e (ahead low).u (ahead low).v 0
          (ahead low).arc)

      pub splicing-seen : 0 < seen_by sh true t v
      splicing-seen = rw (sym same) (seen-still (ahead low))

      module _ {t' : List ℕ} (P : Put sh t t' labels v (sh.fresh + e + 1)) where
        put : Put sh t t' labels (ahead low).v (sh.fresh + e + 1)
        put = rw same P

        pub splicing-next : {x : ℕ} → x ≡ seen_by sh true t v - 1 → Splicing sh ch sheet t₀ t' start target hit x
        splicing-next is = splicing-turn (ahead low) put (rw same is)

        pub splicing-less : reached (seen_by sh true t') (sh.groups + 2) < reached (seen_by sh true t) (sh.groups + 2)
        splicing-less = splicing-fewer (ahead low) put
