-- Laws of the search from both ends, in the buffers.
--   held_start             before the first turn
--   Going sh ch sheet t₀ t start target n m h k hit    the first h nodes from the start and the first k from the target are done
--   tested going-hit       the loop's test
--   going-first going-most going-room going-out going-in going-next-out going-next-in going_end    the loop
use mathlib.Core.Path.{◌≡◌, refl, sym, ap, ◌∙◌}
use mathlib.Core.Logic.{◌⊎◌, ◌≢◌, inl, inr, ⊎_elim}
use mathlib.Core.Bool.{Bool, true, false, not, ◌&&◌}
use mathlib.Core.List.{List}
use Prim.Native.Nat.{ℕ, ◌+◌, ◌*◌, ◌-◌, ◌≤◌, ◌<◌}
use native.Mathlib.Nat.{le_refl}
use native.Mathlib.Decide.{ℕ_discrete}
use native.Mathlib.Omega.{arith}
use lib.Dec.{ltb, leb, eqb}
use borrow.Author.Tests.{ltb-true, ltb-false, leb-true, leb-false, eqb-true, eqb-false}
use Rattle.theory.specs.Sum.{pick}
use Rattle.theory.specs.Residual.{Residual}
use Rattle.theory.proofs.TestLaws.{and-true, and-false}
use Rattle.scratch.specs.declared.Shape.{Shape}
use Rattle.scratch.specs.Map.{span, arc_in, label_of, queue_of, spare_of, kept_of, labels, queues, Room, Put}
use Rattle.scratch.specs.View.{residual_of}
use Rattle.scratch.proofs.MapLaws.{keeps_then, put_keeps, room-keeps}
use Rattle.look.specs.Reach.{Step}
use Rattle.look.proofs.LabelLaws.{arc-in-more}
use Rattle.look.proofs.ReachLaws.{reach-later, reach-first}
use Rattle.look.proofs.StepLaws.{same_tables, tables-same, same-ready, same_lists}
use Rattle.meet.specs.Ends.{base, seen_in, Spread, Both, Joins, Free, Done}
use Rattle.meet.specs.Meet.{seen_by, queue_by, BothIn, Scanned, Open, Asked, Joint, Reaches, Held, Met, Every}
use Rattle.meet.proofs.EndsLaws.{seen-fresh, seen_apart, seen-stale, free-stale, both-few, both-swap}

-- a node that is reached keeps its label
seen-keep :
    (way back : Bool) (f : ℕ) (label label' : ℕ → ℕ) → Spread way f label label' → (v : ℕ) → 0 < seen_in back f label v →
    seen_in back f label' v ≡ seen_in back f label v
seen-keep way back f label label' A v some =
    ⊎_elim (λ e. ap (arc_in (base back f)) e) (λ w. absurd (omega (arith, seen-fresh f label v back w.0))) (A v)

--------------------------------------------------------------------------------
-- Before the first turn

module _
    {sh : Shape} {ch sheet t : List ℕ} {start target : ℕ} (Q : Asked sh ch sheet t start target) {x : ℕ}
    (named : x ≡ sh.fresh + 2 * sh.groups + sh.rows + 1) {t₁ t₂ t₃ t' : List ℕ} (A : Put sh t t₁ labels start x)
    (B : Put sh t₁ t₂ queues 0 start) (C : Put sh t₂ t₃ labels target (x + span)) (D : Put sh t₃ t' queues (sh.groups + 2) target)
  where
    small : 2 * sh.groups + sh.rows + 1 < span
    small = omega (arith, Q.ready.buffers.room.few.groups, Q.ready.buffers.room.few.rows)

    label₁ : label_of sh t₂ ≡ label_of sh t₁
    label₁ = B.rest labels (λ k. omega arith)

    label₂ : label_of sh t' ≡ label_of sh t₃
    label₂ = D.rest labels (λ k. omega arith)

    queue₁ : queue_of sh t₃ ≡ queue_of sh t₂
    queue₁ = C.rest queues (λ k. omega arith)

    at-start : label_of sh t' start ≡ x
    at-start =
        ap (λ (f : ℕ → ℕ). f start) label₂ ∙ C.puts.else start Q.apart ∙ ap (λ (f : ℕ → ℕ). f start) label₁ ∙ A.puts.here

    at_target : label_of sh t' target ≡ x + span
    at_target = ap (λ (f : ℕ → ℕ). f target) label₂ ∙ C.puts.here

    elsewhere : (v : ℕ) → v ≢ start → v ≢ target → label_of sh t' v ≡ label_of sh t v
    elsewhere v p q =
        ap (λ (f : ℕ → ℕ). f v) label₂ ∙ C.puts.else v q ∙ ap (λ (f : ℕ → ℕ). f v) label₁ ∙ A.puts.else v p

    -- the node of a direction has its number there, and no other node has one
    abbrev end_of : Bool → ℕ
    end_of back = pick back target start

    lit : (back : Bool) → seen_by sh back t' (end_of back) ≡ 2 * sh.groups + sh.rows + 1
    lit true =
        ap (arc_in (sh.fresh + span)) (at_target ∙ m) ∙ arc-in-more (sh.fresh + span) (2 * sh.groups + sh.rows) small
      where
        m : x + span ≡ sh.fresh + span + (2 * sh.groups + sh.rows) + 1
        m = omega arith
    lit false = ap (arc_in sh.fresh) (at-start ∙ m) ∙ arc-in-more sh.fresh (2 * sh.groups + sh.rows) small
      where
        m : x ≡ sh.fresh + (2 * sh.groups + sh.rows) + 1
        m = omega arith

    dark : (back : Bool) (v : ℕ) → v < sh.groups + 2 → v ≢ end_of back → seen_by sh back t' v ≡ 0
    dark true v l n =
        elim (ℕ_discrete v start) [
          | yes e ↦ seen_apart sh.fresh (label_of sh t') v false (rw e (omega (arith, lit false)))
          | no d ↦ ap (arc_in (sh.fresh + span)) (elsewhere v d n) ∙ Q.dark true v l
        ]
    dark false v l n =
        elim (ℕ_discrete v target) [
          | yes e ↦ seen_apart sh.fresh (label_of sh t') v true (rw e (omega (arith, lit true)))
          | no d ↦ ap (arc_in sh.fresh) (elsewhere v n d) ∙ Q.dark false v l
        ]

    first-place : queue_of sh t' 0 ≡ start
    first-place = D.puts.else 0 (λ e. omega arith) ∙ ap (λ (f : ℕ → ℕ). f 0) queue₁ ∙ B.puts.here

    last-place : queue_by sh true t' 0 ≡ target
    last-place =
        let e : sh.groups + 2 - 0 ≡ sh.groups + 2 = omega arith in
        ap (queue_of sh t') e ∙ D.puts.here

    half-start :
        Both false (residual_of sh sheet t) (kept_of ch) (spare_of sh t) sh.fresh (label_of sh t') (queue_of sh t') 1 1
    half-start = record {
      mine =
          reach-later false (residual_of sh sheet t) (kept_of ch) (spare_of sh t) (omega arith)
          (reach-first false (residual_of sh sheet t) (kept_of ch) (spare_of sh t) (seen_by sh false t') (queue_by sh false t') start
          Q.start_node (omega (arith, lit false)) (dark false) first-place);
      other =
          reach-later true (residual_of sh sheet t) (kept_of ch) (spare_of sh t) (omega arith)
          (reach-first true (residual_of sh sheet t) (kept_of ch) (spare_of sh t) (seen_by sh true t') (queue_by sh true t') target
          Q.target_node (omega (arith, lit true)) (dark true) last-place);
    }

    pub held_start : Held sh ch sheet t t' start target 1 1
    held_start = record {
      only =
          keeps_then (keeps_then (put_keeps (omega arith) A) (put_keeps (omega arith) B))
          (keeps_then (put_keeps (omega arith) C) (put_keeps (omega arith) D));
      both = half-start;
      begin = first-place;
      end = last-place;
      last = lit true;
      reaches = λ v.
          elim (ℕ_discrete v start) [
            | yes e ↦ inr (ap (label_of sh t) e ∙ Q.start_fresh, (false, rw e (omega (arith, lit false))))
            | no p ↦
                elim (ℕ_discrete v target) [
                  | yes e ↦ inr (ap (label_of sh t) e ∙ Q.target_fresh, (true, rw e (omega (arith, lit true))))
                  | no q ↦ inl (elsewhere v p q)
                ]
          ];
    }

--------------------------------------------------------------------------------
-- The loop

pub record Going (sh : Shape) (ch sheet t₀ t : List ℕ) (start target n m h k hit : ℕ) : Type 0 where
  pub held : Held sh ch sheet t₀ t start target n m
  pub out_high : h ≤ n
  pub in_high : k ≤ m
  pub joins : 0 < hit → Joint sh ch sheet t₀ t (hit - 1)
  pub done :
      hit ≡ 0 → (way : Bool) (i : ℕ) → i < pick way k h →
      Done way (residual_of sh sheet t₀) (kept_of ch) (spare_of sh t₀) sh.fresh (label_of sh t) (queue_by sh way t i)

-- what the loop's test says
pub tested : (h n k m hit : ℕ) → ((ltb h n && ltb k m) && eqb hit 0) ≡ true → (h < n) × ((k < m) × (hit ≡ 0))
tested h n k m hit go =
    let w = and-true (ltb h n && ltb k m) (eqb hit 0) go in
    let z = and-true (ltb h n) (ltb k m) w.0 in
    (ltb-true h n z.0, (ltb-true k m z.1, eqb-true hit 0 w.1))

pub going-hit :
    {sh : Shape} {ch sheet t₀ t : List ℕ} {start target n m h k hit : ℕ} → hit ≡ 0 → Going sh ch sheet t₀ t start target n m h k hit →
    Going sh ch sheet t₀ t start target n m h k 0
going-hit z G = rw z at G

module _ {sh : Shape} {ch sheet t₀ : List ℕ} {start target : ℕ} (Q : Asked sh ch sheet t₀ start target) where
  pub going-first : {t : List ℕ} → Held sh ch sheet t₀ t start target 1 1 → Going sh ch sheet t₀ t start target 1 1 0 0 0
  going-first H = record {
    held = H;
    out_high = omega arith;
    in_high = omega arith;
    joins = λ l. absurd (omega arith);
    done = λ z way i l. absurd (none way l);
  }
    where
      none : (way : Bool) {i : ℕ} → i < pick way 0 0 → ⊥
      none true l = omega arith
      none false l = omega arith

  module _ {t : List ℕ} {n m h k hit : ℕ} (G : Going sh ch sheet t₀ t start target n m h k hit) where
    pub going-most : n + m ≤ sh.groups + 2
    going-most = both-few G.held.both

    pub going-room : Room sh t
    going-room = room-keeps G.held.only.long Q.ready.buffers.room

    -- node i of a direction may be scanned
    open_at :
        (back : Bool) {a b : ℕ} → BothIn sh back ch sheet t₀ t a b → {u i : ℕ} → i < a → u ≡ queue_by sh back t i →
        Open sh ch sheet t back u a b
    open_at back {a} {b} B {u} {i} l e = record {
      ready = same-ready sheet G.held.only Q.ready;
      free = Q.free;
      lists = same_lists sheet G.held.only Q.lists;
      paid = Q.paid;
      node = rw e (B.mine.node i l);
      seen = rw e (B.mine.seen i l);
      both = same_tables sheet G.held.only (λ x f. Both back x (kept_of ch) f sh.fresh (label_of sh t) (queue_of sh t) a b) B;
    }

    pub going-out : {u : ℕ} → h < n → u ≡ queue_by sh false t h → Open sh ch sheet t false u n m
    going-out l e = open_at false G.held.both l e

    pub going-in : {u : ℕ} → k < m → u ≡ queue_by sh true t k → Open sh ch sheet t true u m n
    going-in l e = open_at true (both-swap false G.held.both) l e

  -- one node of a direction was scanned
  module _ {t : List ℕ} {n m h k : ℕ} (G : Going sh ch sheet t₀ t start target n m h k 0) where
    abbrev r : Residual
    r = residual_of sh sheet t₀

    module _
        (back : Bool) {t' : List ℕ} {u a b a' hit : ℕ} (X : Scanned sh back ch sheet t t' u a b a' hit Every)
      where
        both-next : BothIn sh back ch sheet t₀ t' a' b
        both-next =
            tables-same sheet G.held.only (λ x f. Both back x (kept_of ch) f sh.fresh (label_of sh t') (queue_of sh t') a' b) X.both

        -- a node that was done is done still
        stale :
            (way : Bool) (i : ℕ) → queue_by sh way t' i ≡ queue_by sh way t i →
            Done way r (kept_of ch) (spare_of sh t₀) sh.fresh (label_of sh t) (queue_by sh way t i) →
            Done way r (kept_of ch) (spare_of sh t₀) sh.fresh (label_of sh t') (queue_by sh way t' i)
        stale way i e D f v A =
            free-stale way back r (kept_of ch) (spare_of sh t₀) sh.fresh (label_of sh t) (label_of sh t') X.spread v
            (D f v (rw e at A))

        fresh-done :
            hit ≡ 0 → {i : ℕ} → i < a → u ≡ queue_by sh back t i →
            Done back r (kept_of ch) (spare_of sh t₀) sh.fresh (label_of sh t') (queue_by sh back t' i)
        fresh-done z {i} l e f v A =
            tables-same sheet G.held.only
            (λ x s. (e v : ℕ) → Every e → Step back x (kept_of ch) s e u v → Free back x (kept_of ch) s sh.fresh (label_of sh t') v)
            (X.done z) f v (le_refl f) (rw (X.keep i l ∙ sym e) at A)

        mine-done :
            hit ≡ 0 → {c : ℕ} → c < a → u ≡ queue_by sh back t c →
            ((i : ℕ) → i < c → Done back r (kept_of ch) (spare_of sh t₀) sh.fresh (label_of sh t) (queue_by sh back t i)) →
            (i : ℕ) → i < c + 1 → Done back r (kept_of ch) (spare_of sh t₀) sh.fresh (label_of sh t') (queue_by sh back t' i)
        mine-done z {c} l e D i m =
            elim (ℕ_discrete i c) [
              | yes q ↦ fresh-done z (omega arith) (e ∙ ap (queue_by sh back t) (sym q))
              | no q ↦ stale back i (X.keep i (omega arith)) (D i (omega arith))
            ]

        other-done :
            {c : ℕ} → c ≤ b →
            ((i : ℕ) → i < c → Done (not back) r (kept_of ch) (spare_of sh t₀) sh.fresh (label_of sh t) (queue_by sh (not back) t i)) →
            (i : ℕ) → i < c → Done (not back) r (kept_of ch) (spare_of sh t₀) sh.fresh (label_of sh t') (queue_by sh (not back) t' i)
        other-done l D i m = stale (not back) i (X.rest i (omega arith)) (D i m)

        reaches-next : Reaches sh ch sheet t₀ t'
        reaches-next v =
            ⊎_elim
            (λ (e : label_of sh t' v ≡ label_of sh t v).
            ⊎_elim
            (λ d. inl (e ∙ d))
            (λ w. inr (w.0, (w.1.0, omega (arith, ap (arc_in (base w.1.0 sh.fresh)) e, w.1.1))))
            (G.held.reaches v))
            (λ w. ⊎_elim (λ d. inr (sym d ∙ w.0, (back, w.1))) (λ d. inr (d.0, (back, w.1))) (G.held.reaches v))
            (X.spread v)

        held_next :
            BothIn sh false ch sheet t₀ t' (pick back b a') (pick back a' b) → queue_by sh false t' 0 ≡ queue_by sh false t 0 →
            queue_by sh true t' 0 ≡ queue_by sh true t 0 → Held sh ch sheet t₀ t' start target (pick back b a') (pick back a' b)
        held_next B p q = record {
          only = keeps_then G.held.only X.only;
          both = B;
          begin = p ∙ G.held.begin;
          end = q ∙ G.held.end;
          last =
              seen-keep back true sh.fresh (label_of sh t) (label_of sh t') X.spread target
              (omega (arith, G.held.last))
              ∙ G.held.last;
          reaches = reaches-next;
        }

        reached-still : 0 < seen_by sh back t u → 0 < seen_by sh back t' u
        reached-still some = seen-stale back sh.fresh (label_of sh t) (label_of sh t') X.spread u some

        joint-of : 0 < hit → Joins back r (kept_of ch) (spare_of sh t₀) sh.fresh (label_of sh t') u (hit - 1)
        joint-of l =
            tables-same sheet G.held.only
            (λ x f. Joins back x (kept_of ch) f sh.fresh (label_of sh t') u (hit - 1)) (X.joins l)

    pub going-next-out :
        {t' : List ℕ} {u n' hit : ℕ} → h < n → u ≡ queue_by sh false t h → Scanned sh false ch sheet t t' u n m n' hit Every →
        Going sh ch sheet t₀ t' start target n' m (h + 1) k hit
    going-next-out {t'} {u} {n'} {hit} l e X = record {
      held =
          held_next false X (both-next false X) (X.keep 0 (omega arith)) (X.rest 0 G.held.both.other.some);
      out_high = omega (arith, X.grow);
      in_high = G.in_high;
      joins = λ some.
          let J = joint-of false X some in
          record { u = u; v = J.v; from = reached-still false X (rw e (G.held.both.mine.seen h l)); to = J.met; arc = J.arc };
      done = both;
    }
      where
        both :
            hit ≡ 0 → (way : Bool) (i : ℕ) → i < pick way k (h + 1) →
            Done way r (kept_of ch) (spare_of sh t₀) sh.fresh (label_of sh t') (queue_by sh way t' i)
        both z true = other-done false X G.in_high (G.done refl true)
        both z false = mine-done false X z l e (G.done refl false)

    pub going-next-in :
        {t' : List ℕ} {u m' hit : ℕ} → k < m → u ≡ queue_by sh true t k → Scanned sh true ch sheet t t' u m n m' hit Every →
        Going sh ch sheet t₀ t' start target n m' h (k + 1) hit
    going-next-in {t'} {u} {m'} {hit} l e X = record {
      held =
          held_next true X (both-swap true (both-next true X)) (X.rest 0 G.held.both.mine.some) (X.keep 0 (omega arith));
      out_high = G.out_high;
      in_high = omega (arith, X.grow);
      joins = λ some.
          let J = joint-of true X some in
          record { u = J.v; v = u; from = J.met; to = reached-still true X (rw e (G.held.both.other.seen k l)); arc = J.arc };
      done = both;
    }
      where
        both :
            hit ≡ 0 → (way : Bool) (i : ℕ) → i < pick way (k + 1) h →
            Done way r (kept_of ch) (spare_of sh t₀) sh.fresh (label_of sh t') (queue_by sh way t' i)
        both z true = mine-done true X z l e (G.done refl true)
        both z false = other-done true X G.out_high (G.done refl false)

  -- one end has no node left, or both have met
  module _ {t : List ℕ} {n m h k hit : ℕ} (G : Going sh ch sheet t₀ t start target n m h k hit) where
    done-out :
        hit ≡ 0 → n ≤ h → (u : ℕ) → u < sh.groups + 2 → 0 < seen_by sh false t u →
        Done false (residual_of sh sheet t₀) (kept_of ch) (spare_of sh t₀) sh.fresh (label_of sh t) u
    done-out z l u node some e v A =
        let w = G.held.both.mine.spot u node some in
        G.done z false w.0 (omega (arith, w.1)) e v (rw (sym w.2) at A)

    done-in :
        hit ≡ 0 → m ≤ k → (u : ℕ) → u < sh.groups + 2 → 0 < seen_by sh true t u →
        Done true (residual_of sh sheet t₀) (kept_of ch) (spare_of sh t₀) sh.fresh (label_of sh t) u
    done-in z l u node some e v A =
        let w = G.held.both.other.spot u node some in
        G.done z true w.0 (omega (arith, w.1)) e v (rw (sym w.2) at A)

    pub going_end :
        ((ltb h n && ltb k m) && eqb hit 0) ≡ false → (out : Bool) → out ≡ leb n h → Met sh ch sheet t₀ t start target n m hit out
    going_end stop out is = record {
      held = G.held;
      joins = G.joins;
      closed = closed out is;
    }
      where
        ended : hit ≡ 0 → (h < n → ⊥) ⊎ (m ≤ k)
        ended z =
            ⊎_elim
            (λ p.
            ⊎_elim (λ q. inl (λ l. omega (arith, ltb-false h n q, l))) (λ q. inr (ltb-false k m q)) (and-false (ltb h n) (ltb k m) p))
            (λ p. absurd (eqb-false hit 0 p z))
            (and-false (ltb h n && ltb k m) (eqb hit 0) stop)

        closed :
            (out : Bool) → out ≡ leb n h → hit ≡ 0 → (u : ℕ) → u < sh.groups + 2 → 0 < seen_by sh (not out) t u →
            Done (not out) (residual_of sh sheet t₀) (kept_of ch) (spare_of sh t₀) sh.fresh (label_of sh t) u
        closed true is z = done-out z (leb-true n h (sym is))
        closed false is z =
            done-in z (⊎_elim (λ p. absurd (p (leb-false n h (sym is)))) (λ p. p) (ended z))
