-- Laws of the path of a search from both ends.
--   named-both             both ends get a label each, and the other nodes keep theirs
--   join-path              the spliced way is a path
--   queued-first queued-last join_first join-second    what giving the nodes labels again asks
--   join-exchanged         what was done then
use mathlib.Core.Path.{◌≡◌, sym, ap, subst, ◌∙◌}
use mathlib.Core.Logic.{◌⊎◌, inl, inr, ⊎_elim}
use mathlib.Core.Bool.{Bool, true, false}
use mathlib.Core.List.{List}
use Prim.Native.Nat.{ℕ, ◌+◌, ◌-◌, ◌≤◌, ◌<◌}
use native.Mathlib.Decide.{dec_lt}
use native.Mathlib.Omega.{arith}
use Rattle.theory.specs.Network.{Network}
use Rattle.theory.specs.Residual.{Residual}
use Rattle.theory.specs.Level.{count}
use Rattle.theory.specs.Turn.{Flipped, Inside}
use Rattle.scratch.specs.declared.Shape.{Shape}
use Rattle.scratch.specs.Map.{max_spare, arc_in, label_of, pred_of, queue_of, spare_of, kept_of, labels, queues, spares, Room, OnlySearch}
use Rattle.scratch.proofs.MapLaws.{keeps-more, keeps_then, room-keeps}
use Rattle.look.specs.Reach.{Reach}
use Rattle.look.proofs.ReachLaws.{reached-most}
use Rattle.look.proofs.StepLaws.{search-residual, search-spare, same_tables, same-ready}
use Rattle.search.specs.Search.{Queued, QueuedIn, Relabelled, RelabelledIn, from_last}
use Rattle.paths.specs.Flip.{Path, Walked}
use Rattle.paths.proofs.FlipLaws.{path-reach}
use Rattle.meet.specs.Meet.{seen_by, queue_by, BothIn}
use Rattle.meet.specs.Splice.{Spliced}
use Rattle.meet.proofs.EndsLaws.{seen_apart}
use Rattle.moves.proofs.LabelLaws.{pred-node}
use Rattle.moves.specs.Join.{Seen, Meeting, Exchanged}

-- the nodes of a queue that holds just the nodes with a pred, and the others
named_in :
    {sh : Shape} {queue : ℕ → ℕ} {t t' : List ℕ} {n x : ℕ} → RelabelledIn sh queue t t' n x → {pred : ℕ → ℕ} →
    ((v : ℕ) → v < sh.groups + 2 → 0 < pred v → (i : ℕ) × (i < n) × (queue i ≡ v)) → ((i : ℕ) → i < n → 0 < pred (queue i)) →
    (v : ℕ) → v < sh.groups + 2 → ((0 < pred v) × (label_of sh t' v ≡ x)) ⊎ ((pred v ≡ 0) × (label_of sh t' v ≡ label_of sh t v))
named_in {sh} {t' = t'} L {pred} spot seen v node =
    elim (dec_lt 0 (pred v)) [
      | yes some ↦
          let at = spot v node some in
          inl (some, sym (ap (label_of sh t') at.2) ∙ L.given at.0 at.1)
      | no none ↦ inr (omega arith, L.else v (λ i l e. none (omega (arith, seen i l, ap pred e))))
    ]

-- both ends get a label each
module _
    (sh : Shape) (ch sheet t₀ t : List ℕ) {n m : ℕ} (B : BothIn sh false ch sheet t₀ t n m) {t₁ t₂ t₃ : List ℕ} {x y : ℕ}
    (queue : queue_of sh t₁ ≡ queue_of sh t) (L : Relabelled sh t₁ t₂ n x) (M : RelabelledIn sh (from_last sh t₂) t₂ t₃ m y)
  where
    queue-last : queue_of sh t₂ ≡ queue_of sh t
    queue-last = L.only.rest queues (λ p. omega arith) ∙ queue

    first-named : RelabelledIn sh (queue_by sh false t) t₁ t₂ n x
    first-named = subst (λ (q : ℕ → ℕ). RelabelledIn sh q t₁ t₂ n x) queue L

    last-named : RelabelledIn sh (queue_by sh true t) t₂ t₃ m y
    last-named = subst (λ (q : ℕ → ℕ). RelabelledIn sh (λ i. q (sh.groups + 2 - i)) t₂ t₃ m y) queue-last M

    -- what became of the label of node v
    pub named-both :
        (v : ℕ) → v < sh.groups + 2 →
        ((0 < seen_by sh false t v) × (label_of sh t₃ v ≡ x))
        ⊎ (((0 < seen_by sh true t v) × (label_of sh t₃ v ≡ y))
        ⊎ (((back : Bool) → seen_by sh back t v ≡ 0) × (label_of sh t₃ v ≡ label_of sh t₁ v)))
    named-both v l =
        ⊎_elim
        (λ p.
        ⊎_elim
        (λ q. absurd (omega (arith, seen_apart sh.fresh (label_of sh t) v false p.0, q.0)))
        (λ q. inl (p.0, q.1 ∙ p.1))
        second)
        (λ p.
        ⊎_elim
        (λ q. inr (inl (q.0, q.1)))
        (λ q. inr (inr (none p.0 q.0, q.1 ∙ p.1)))
        second)
        (named_in first-named B.mine.spot B.mine.seen v l)
      where
        second : ((0 < seen_by sh true t v) × (label_of sh t₃ v ≡ y)) ⊎ ((seen_by sh true t v ≡ 0) × (label_of sh t₃ v ≡ label_of sh t₂ v))
        second = named_in last-named B.other.spot B.other.seen v l

        none : seen_by sh false t v ≡ 0 → seen_by sh true t v ≡ 0 → (back : Bool) → seen_by sh back t v ≡ 0
        none p q true = q
        none p q false = p

-- what giving labels to both ends asks
module _
    (sh : Shape) (ch sheet t₀ t : List ℕ) {n m : ℕ} (B : BothIn sh false ch sheet t₀ t n m) {t' : List ℕ} (queue : queue_of sh t' ≡ queue_of sh t)
  where
    pub queued-first : Room sh t' → Queued sh t' n
    queued-first room = record {
      room = room;
      most = omega (arith, B.mine.size, reached-most (seen_by sh false t) (sh.groups + 2));
      node = λ i l. omega (arith, B.mine.node i l, ap (λ (f : ℕ → ℕ). f i) queue);
    }

    pub queued-last : Room sh t' → QueuedIn sh t' (from_last sh t') m
    queued-last room = record {
      room = room;
      most = omega (arith, B.other.size, reached-most (seen_by sh true t) (sh.groups + 2));
      node = λ i l. omega (arith, B.other.node i l, ap (λ (f : ℕ → ℕ). f (sh.groups + 2 - i)) queue);
    }

--------------------------------------------------------------------------------
-- The path is turned

same_low :
    {d d' : Network} (S : ℕ → ℕ) {f f' : ℕ → ℕ} {g : ℕ} → d' ≡ d → f' ≡ f → ((x : ℕ) → x < g → f x + count d S x ≤ max_spare) →
    (x : ℕ) → x < g → f' x + count d' S x ≤ max_spare
same_low S e p L = rw (e, p) L

flipped-in :
    {r r' : Residual} {S f f₁ S' f' f'' : ℕ → ℕ} {u v : ℕ} → r' ≡ r → f₁ ≡ f → f'' ≡ f' → Flipped r' S f₁ S' f' u v → Flipped r S f S' f'' u v
flipped-in e p q F = rw (sym e, sym p, q) F

inside-in :
    {r r' : Residual} {R S f f₁ S' f' f'' : ℕ → ℕ} → r' ≡ r → f₁ ≡ f → f'' ≡ f' → Inside r' R S f₁ S' f' → Inside r R S f S' f''
inside-in e p q F = rw (sym e, sym p, q) F

module _
    {sh : Shape} {ch sheet t : List ℕ} {start target n m hit : ℕ} (X : Meeting sh ch sheet t start target n m hit) {t₁ : List ℕ}
    (Y : Spliced sh ch sheet t t₁ start target)
  where
    quiet : OnlySearch sh t t₁
    quiet = keeps-more (λ l p. omega arith) Y.only

    pub join-path : Path sh ch sheet t₁ start target
    join-path =
        path-reach (same-ready sheet quiet X.joined.ready)
        (same_tables sheet quiet (λ x f. Reach false x (kept_of ch) f (pred_of sh t₁) Y.queue Y.n Y.n) Y.reach) Y.begin
        X.node Y.found
        (same_low (kept_of ch) (ap (λ (r : Residual). r.net) (search-residual sheet quiet)) (search-spare sheet quiet) X.low)

    -- a node on the way was reached from one end or the other
    near-seen : (v : ℕ) → 0 < pred_of sh t₁ v → Seen sh t v
    near-seen v some = ⊎_elim (λ e. (false, omega (arith, ap (arc_in sh.fresh) e))) (λ w. (true, w.0)) (Y.kept v)

    module _ {ch' t₂ : List ℕ} (W : Walked sh ch sheet t₁ ch' t₂ start target) where
      join-queue : queue_of sh t₂ ≡ queue_of sh t
      join-queue = W.only.rest queues (λ p. omega arith) ∙ Y.only.rest queues (λ p. omega arith)

      join-room : Room sh t₂
      join-room = room-keeps (W.only.long ∙ Y.only.long) X.joined.ready.buffers.room

      pub join_first : Queued sh t₂ n
      join_first = queued-first sh ch sheet t t X.both join-queue join-room

      pub join-second : {t₃ : List ℕ} {x : ℕ} → Relabelled sh t₂ t₃ n x → QueuedIn sh t₃ (from_last sh t₃) m
      join-second L =
          queued-last sh ch sheet t t X.both (L.only.rest queues (λ p. omega arith) ∙ join-queue) (room-keeps L.only.long join-room)

      pub join-exchanged :
          {t₃ t₄ : List ℕ} → Relabelled sh t₂ t₃ n sh.fresh → RelabelledIn sh (from_last sh t₃) t₃ t₄ m sh.fresh →
          Exchanged sh ch sheet t ch' t₄ start target
      join-exchanged {t₃} {t₄} L M =
          let spare : spare_of sh t₄ ≡ spare_of sh t₂ = M.only.rest spares (λ p. omega arith) ∙ L.only.rest spares (λ p. omega arith) in
          let same : label_of sh t₂ ≡ label_of sh t₁ = W.only.rest labels (λ p. omega arith) in
          record {
            only =
                keeps_then (keeps_then (keeps-more (λ l p. omega arith) Y.only) (keeps-more (λ l p. omega arith) W.only))
                (keeps_then (keeps-more (λ l p. omega arith) L.only) (keeps-more (λ l p. omega arith) M.only));
            long = W.long;
            flip = flipped-in (search-residual sheet quiet) (search-spare sheet quiet) spare W.flip;
            near = pred_of sh t₁;
            inside = inside-in (search-residual sheet quiet) (search-spare sheet quiet) spare W.inside;
            seen = λ v some. (pred-node sh t₁ v some, near-seen v some);
            labels = λ v l. ⊎_elim
                (λ p. inl ((false, p.0), p.1))
                (λ p. ⊎_elim
                (λ q. inl ((true, q.0), q.1))
                (λ q.
                inr (
                  q.0,
                  q.1 ∙ ap (λ (f : ℕ → ℕ). f v) same
                      ∙ ⊎_elim (λ e. e) (λ w. absurd (omega (arith, w.0, q.0 true))) (Y.kept v),
                ))
                p)
                (named-both sh ch sheet t t X.both join-queue L M v l);
          }
