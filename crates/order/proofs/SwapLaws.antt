-- Laws of the row order over the buffers: a row goes in by a swap, or no rows make way.
--   last-still ends_named    the two ends of the queue get their labels
--   swap-asked swap-label swap-queued    what the search from both ends and the new label ask
--   swap-blocked           no rows make way: the end that has no arc left becomes a class of its own. Where it is that of the shop node, no
--                          open arc of the class leaves it; where it is that of the card node, none enters it
--   swap-meeting swap-crossed    both ends have met, and row i goes in
use mathlib.Core.Path.{◌≡◌, refl, sym, ap, subst, ◌∙◌}
use mathlib.Core.Logic.{◌⊎◌, inl, inr, ⊎_elim}
use mathlib.Core.Bool.{Bool, true, false, not}
use mathlib.Core.List.{List}
use Prim.Native.Nat.{ℕ, ◌+◌, ◌*◌, ◌-◌, ◌<◌}
use native.Mathlib.Decide.{dec_lt}
use native.Mathlib.Omega.{arith}
use Rattle.theory.specs.Bounds.{cell_bound}
use Rattle.theory.specs.Sum.{pick}
use Rattle.theory.specs.Residual.{Residual, Arc, freed}
use Rattle.theory.specs.Turn.{Flipped}
use Rattle.theory.specs.Class.{Sorted, split}
use Rattle.theory.proofs.ResidualLaws.{sides_apart}
use Rattle.theory.proofs.CutLaws.{tail-node, head-node}
use Rattle.theory.proofs.ClassLaws.{sorted-freed, sorted-split, sorted-inside, sorted-put}
use Rattle.scratch.specs.declared.Shape.{Shape}
use Rattle.scratch.specs.Map.{span, arc_in, Room, Keeps, OnlySearch, PutKept, queues, card_nodes, shop_nodes, label_of, queue_of, spare_of}
use Rattle.scratch.specs.Map.{card_of, shop_of, weight_of, price_of, kept_of, row_price}
use Rattle.scratch.specs.View.{net_of, residual_of}
use Rattle.scratch.proofs.MapLaws.{keeps-more, keeps_then, room-keeps}
use Rattle.residual.specs.Items.{Links}
use Rattle.look.specs.Reach.{Step}
use Rattle.look.proofs.StepLaws.{same_tables}
use Rattle.search.specs.Search.{Queued, QueuedIn, Relabelled, RelabelledIn, from_last}
use Rattle.meet.specs.Ends.{base, Both, Done}
use Rattle.meet.specs.Meet.{seen_by, Asked, Met}
use Rattle.meet.proofs.EndsLaws.{seen_apart}
use Rattle.prices.specs.State.{Working, OnlyMoves, limit_of, Filled}
use Rattle.prices.proofs.StateLaws.{weight-keeps}
use Rattle.prices.proofs.ReadyLaws.{state-ready}
use Rattle.moves.specs.Join.{Seen, Meeting, Exchanged}
use Rattle.moves.proofs.LabelLaws.{arc-in-class}
use Rattle.moves.proofs.MoveLaws.{residual-keeps, moves-keeps, lists-paid, OnlyUnread, unread-search, unread-keeps, spare-unread}
use Rattle.moves.proofs.MoveLaws.{filled-unread, cycle-filled, cycle-next}
use Rattle.moves.proofs.JoinLaws.{named-both, queued-first, queued-last}
use Rattle.order.specs.Order.{Classes, AtRow, Placed, EndsNamed, Swapping}
use Rattle.order.proofs.ClassLaws.{Split, Parts, parts_in, parts_out, ranked-same, ranked-split, sorted-equal, classes-of}
use Rattle.order.proofs.ClassLaws.{classes-ranked, classes-freed}
use Rattle.order.proofs.OrderLaws.{order-unread, card-node, shop-node, stays-low, placed-then}

flipped-ends :
    {r : Residual} {S f S' f' : ℕ → ℕ} {a a' b b' : ℕ} → b' ≡ b → a' ≡ a → Flipped r S f S' f' b a → Flipped r S f S' f' b' a'
flipped-ends p q F = rw (p, q) F

module _ {sh : Shape} {t t' : List ℕ} (K : Keeps sh Working t t') (i : ℕ) where
  card-keeps : card_of sh t' i ≡ card_of sh t i
  card-keeps = ap (λ (f : ℕ → ℕ). f i) (K.rest card_nodes (λ p. omega arith))

  shop-keeps : shop_of sh t' i ≡ shop_of sh t i
  shop-keeps = ap (λ (f : ℕ → ℕ). f i) (K.rest shop_nodes (λ p. omega arith))

  paid-keeps :
      (sheet : List ℕ) → sh.toll ≡ 0 → row_price sh sheet t i ≡ weight_of sh t i →
      row_price sh sheet t' i + sh.toll ≡ weight_of sh t' i
  paid-keeps sheet none even =
      omega (
        arith,
        ap (price_of sh sheet) card-keeps,
        ap (price_of sh sheet) shop-keeps,
        ap (λ (f : ℕ → ℕ). f i) (weight-keeps K),
      )

-- the two ends of the queue get their labels
module _ {sh : Shape} {t between : List ℕ} {n x : ℕ} (L : Relabelled sh t between n x) where
  pub last-still : {m : ℕ} → QueuedIn sh t (from_last sh t) m → QueuedIn sh between (from_last sh between) m
  last-still Q = record {
    room = room-keeps L.only.long Q.room;
    most = Q.most;
    node = λ i l. omega (arith, Q.node i l, ap (λ (f : ℕ → ℕ). f (sh.groups + 2 - i)) (L.only.rest queues (λ p. omega arith)));
  }

  pub ends_named :
      {t' : List ℕ} {m y : ℕ} (out : Bool) (z : ℕ) → x ≡ pick out z sh.fresh → y ≡ pick out sh.fresh z →
      RelabelledIn sh (from_last sh between) between t' m y → EndsNamed sh t t' n m out z
  ends_named out z p q M = record { between = between; first = rw p at L; last = rw q at M }

module _ {sh : Shape} {ch sheet t : List ℕ} {i a b next : ℕ} (W : Swapping sh ch sheet t i a b next) where
  abbrev at : AtRow sh ch sheet t i
  at = W.placing.at

  abbrev classes : Classes sh ch sheet t i next
  classes = W.placing.classes

  a-node : a < sh.groups + 2
  a-node = omega (arith, W.card, card-node at)

  b-node : b < sh.groups + 2
  b-node = omega (arith, W.shop, shop-node at)

  b-fresh : label_of sh t b ≡ sh.fresh
  b-fresh = ap (label_of sh t) W.shop ∙ sym W.left.one ∙ sym (ap (label_of sh t) W.card) ∙ W.mine

  -- no class has a label that a search gives
  dark : (back : Bool) (v : ℕ) → v < sh.groups + 2 → seen_by sh back t v ≡ 0
  dark back v l = go back (classes.named a a-node) (classes.named v l)
    where
      go :
          (back : Bool) → (j : ℕ) × (label_of sh t a ≡ 2 * span * j) × (j < next) → (k : ℕ) × (label_of sh t v ≡ 2 * span * k) × (k < next) →
          seen_by sh back t v ≡ 0
      go true j k =
          arc-in-class (sh.fresh + span) (label_of sh t v) (2 * j.0 + 1) (2 * k.0) (omega (arith, W.mine, j.1)) (omega (arith, k.1))
      go false j k = arc-in-class sh.fresh (label_of sh t v) (2 * j.0) (2 * k.0) (omega (arith, W.mine, j.1)) (omega (arith, k.1))

  pub swap-asked : Asked sh ch sheet t b a
  swap-asked = record {
    ready = state-ready at.state;
    free = omega (arith, W.above, at.row);
    lists = W.lists;
    paid = at.none;
    start_node = b-node;
    target_node = a-node;
    apart = λ z. sides_apart (net_of sh t) at.state.formed i at.row (sym W.shop ∙ z ∙ W.card);
    start_fresh = b-fresh;
    target_fresh = W.mine;
    dark = dark;
  }

  -- the label of the next class
  pub swap-label : 2 * span * next < cell_bound
  swap-label = omega (arith, classes.few, at.row, at.state.room.few.rows)

  -- the lists of the rows above row i, where they stay
  lists-above : {t' : List ℕ} → OnlyMoves sh t t' → Links sh sheet t' (i + 1)
  lists-above {t'} K = subst (λ (lo : ℕ). Links sh sheet t' lo) W.above (lists-paid K sheet at.none W.lists)

  module _ {t' : List ℕ} {n m hit : ℕ} {out : Bool} (X : Met sh ch sheet t t' b a n m hit out) where
    quiet-search : OnlyUnread sh t t'
    quiet-search = unread-search X.held.only

    keeps : Keeps sh Working t t'
    keeps = unread-keeps quiet-search

    -- the reached nodes are of one class, and the others have their label
    reached-fresh : (v : ℕ) → v < sh.groups + 2 → Seen sh t' v → label_of sh t v ≡ sh.fresh
    reached-fresh v l some =
        ⊎_elim
        (λ e. absurd (omega (arith, ap (arc_in (base some.0 sh.fresh)) e, dark some.0 v l, some.1)))
        (λ w. w.0) (X.held.reaches v)

    rest : (v : ℕ) → ((back : Bool) → seen_by sh back t' v ≡ 0) → label_of sh t' v ≡ label_of sh t v
    rest v none = ⊎_elim (λ e. e) (λ w. absurd (omega (arith, none w.1.0, w.1.1))) (X.held.reaches v)

    -- the classes where the rows from the first free row on may be turned
    sorted : Sorted (residual_of sh sheet t) (kept_of ch) (spare_of sh t) classes.rank
    sorted = classes-freed classes sh.free (omega (arith, W.above))

    start_seen : 0 < seen_by sh false t' b
    start_seen = rw X.held.begin at (X.held.both.mine.seen 0 X.held.both.mine.some)

    target-seen : 0 < seen_by sh true t' a
    target-seen = rw X.held.end at (X.held.both.other.seen 0 X.held.both.other.some)

    room : Room sh t'
    room = room-keeps X.held.only.long at.state.room

    pub swap-queued : Queued sh t' n × QueuedIn sh t' (from_last sh t') m
    swap-queued = (
      queued-first sh ch sheet t t' X.held.both refl room,
      queued-last sh ch sheet t t' X.held.both refl room,
    )

    --------------------------------------------------------------------------------
    -- No rows make way

    module _ (none : hit ≡ 0) where
      -- a step from the end that has no arc left stays there, or leaves the class
      stays-in :
          (o : Bool) → o ≡ out → (e u v : ℕ) → u < sh.groups + 2 → Step (not o) (residual_of sh sheet t) (kept_of ch) (spare_of sh t) e u v →
          0 < seen_by sh (not o) t' u → label_of sh t v ≡ sh.fresh → 0 < seen_by sh (not o) t' v
      stays-in o q e u v l A from mine =
          let closed = subst
          (λ (x : Bool).
          hit ≡ 0 → (u : ℕ) → u < sh.groups + 2 → 0 < seen_by sh (not x) t' u →
          Done (not x) (residual_of sh sheet t) (kept_of ch) (spare_of sh t) sh.fresh (label_of sh t') u)
          (sym q) X.closed in
          let F = closed none u l from e v A in
          ⊎_elim
          (λ d. absurd (F.0 (d ∙ mine)))
          (λ w. same_end o w.1.0 (λ way. seen_by sh way t' v) F.1 w.1.1)
          (X.held.reaches v)
        where
          same_end : (o way : Bool) (f : Bool → ℕ) → f (not (not o)) ≡ 0 → 0 < f way → 0 < f (not o)
          same_end true true f z s = absurd (omega arith)
          same_end true false f z s = s
          same_end false true f z s = s
          same_end false false f z s = absurd (omega arith)

      -- a rank that no open arc lowers, that parts that end from the rest of its class, and that is lower at the card node
      Halved : (ℕ → ℕ) → Type 0
      Halved B =
          (rank : ℕ → ℕ)
          × (Parts classes.rank B rank
          × (Sorted (freed (residual_of sh sheet t) (i + 1)) (kept_of ch) (spare_of sh t) rank × (rank a < rank b)))

      one_class : classes.rank a ≡ classes.rank b
      one_class = classes.alike a b a-node b-node (W.mine ∙ sym b-fresh)

      module _ (e u v : ℕ) (A : Arc (residual_of sh sheet t) (kept_of ch) (spare_of sh t) e u v 0) (same : classes.rank v ≡ classes.rank u) where
        tail : u < sh.groups + 2
        tail = tail-node (residual_of sh sheet t) (kept_of ch) (spare_of sh t) at.state.formed e u v 0 A

        head : v < sh.groups + 2
        head = head-node (residual_of sh sheet t) (kept_of ch) (spare_of sh t) at.state.formed e u v 0 A

        out_of : true ≡ out → 0 < seen_by sh false t' u → 0 < seen_by sh false t' v
        out_of q from =
            stays-in true q e u v tail A from (classes.apart v u head tail same ∙ reached-fresh u tail (false, from))

        into : false ≡ out → 0 < 1 - seen_by sh true t' u → 0 < 1 - seen_by sh true t' v
        into q from =
            elim (dec_lt 0 (seen_by sh true t' v)) [
              | no z ↦ omega arith
              | yes to ↦
                  absurd
                  (omega (
                    arith,
                    from,
                    stays-in false q e v u head A to (sym (classes.apart v u head tail same) ∙ reached-fresh v head (true, to)),
                  ))
            ]

      finer :
          (R : ℕ → ℕ) →
          ((e u v : ℕ) → Arc (residual_of sh sheet t) (kept_of ch) (spare_of sh t) e u v 0 → 0 < R u → classes.rank v ≡ classes.rank u → 0 < R v) →
          Sorted (freed (residual_of sh sheet t) (i + 1)) (kept_of ch) (spare_of sh t) (split classes.rank R)
      finer R inner =
          sorted-freed (residual_of sh sheet t) (kept_of ch) (spare_of sh t) sh.free (i + 1) (omega (arith, W.above))
          (sorted-split (residual_of sh sheet t) sorted R inner)

      halved : (o : Bool) → o ≡ out → Halved (seen_by sh (not o) t')
      unfolding Halved
      halved true q =
          let R : ℕ → ℕ = seen_by sh false t' in (
            split classes.rank R,
            (
              parts_in classes.rank R,
              (
                finer R (λ e u v A from same. out_of e u v A same q from),
                omega (arith, one_class, start_seen, seen_apart sh.fresh (label_of sh t') a true target-seen),
              ),
            ),
          )
      halved false q =
          let R : ℕ → ℕ = λ v. 1 - seen_by sh true t' v in (
            split classes.rank R,
            (
              parts_out classes.rank (seen_by sh true t'),
              (
                finer R (λ e u v A from same. into e u v A same q from),
                omega (arith, one_class, target-seen, seen_apart sh.fresh (label_of sh t') b false start_seen),
              ),
            ),
          )

      module _ {t'' : List ℕ} (E : EndsNamed sh t' t'' n m out (2 * span * next)) where
        labels-of :
            (v : ℕ) → v < sh.groups + 2 →
            ((0 < seen_by sh false t' v) × (label_of sh t'' v ≡ pick out (2 * span * next) sh.fresh))
            ⊎ (((0 < seen_by sh true t' v) × (label_of sh t'' v ≡ pick out sh.fresh (2 * span * next)))
            ⊎ (((back : Bool) → seen_by sh back t' v ≡ 0) × (label_of sh t'' v ≡ label_of sh t' v)))
        labels-of = named-both sh ch sheet t t' X.held.both refl E.first E.last

        splits :
            (o : Bool) → o ≡ out → (v : ℕ) → v < sh.groups + 2 →
            Split (label_of sh t) (label_of sh t'') (seen_by sh (not o) t') sh.fresh (2 * span * next) v
        splits true q v l =
            ⊎_elim
            (λ p. inl (p.0, (reached-fresh v l (false, p.0), rw (sym q) at p.1)))
            (λ p. ⊎_elim
            (λ w.
            inr (
              seen_apart sh.fresh (label_of sh t') v true w.0,
              (rw (sym q) at w.1) ∙ sym (reached-fresh v l (true, w.0)),
            ))
            (λ w. inr (w.0 false, w.1 ∙ rest v w.0))
            p)
            (labels-of v l)
        splits false q v l =
            ⊎_elim
            (λ p.
            inr (
              seen_apart sh.fresh (label_of sh t') v false p.0,
              (rw (sym q) at p.1) ∙ sym (reached-fresh v l (false, p.0)),
            ))
            (λ p. ⊎_elim
            (λ w. inl (w.0, (reached-fresh v l (true, w.0), rw (sym q) at w.1)))
            (λ w. inr (w.0 true, w.1 ∙ rest v w.0))
            p)
            (labels-of v l)

        only : OnlySearch sh t t''
        only =
            keeps_then X.held.only
            (keeps_then (keeps-more (λ l e. omega arith) E.first.only) (keeps-more (λ l e. omega arith) E.last.only))

        quiet-labels : OnlyUnread sh t t''
        quiet-labels = unread-search only

        pub swap-blocked : Placed sh ch sheet t ch t'' (i + 1) (next + 1)
        unfolding Halved
        swap-blocked =
            let h = halved out refl in
            let less : h.0 (card_of sh t i) < h.0 (shop_of sh t i) =
            omega (arith, h.1.1.1, ap h.0 W.card, ap h.0 W.shop) in
            record {
              filled = filled-unread quiet-labels at.state;
              lists = lists-above (keeps-more (λ l p. omega arith) only);
              order = order-unread quiet-labels ch (stays-low at h.1.1.0 W.left.out less);
              classes =
                  classes-of (omega (arith, classes.few))
                  (sorted-equal (ap (λ (r : Residual). freed r (i + 1)) (residual-keeps (unread-keeps quiet-labels) sheet))
                  (spare-unread quiet-labels) h.1.1.0)
                  (ranked-split (classes-ranked classes) h.1.0 (splits out refl));
            }

    --------------------------------------------------------------------------------
    -- Row i goes in

    filled : Filled sh ch sheet t ch t'
    filled = filled-unread quiet-search at.state

    pub swap-meeting : 0 < hit → Meeting sh ch sheet t' b a n m hit
    unfolding limit_of
    swap-meeting some =
        let both = same_tables sheet X.held.only
        (λ x f. Both false x (kept_of ch) f sh.fresh (label_of sh t') (queue_of sh t') n m) X.held.both in
        let J = X.joins some in
        record {
          joined = record {
            ready = state-ready filled.state;
            n = n;
            m = m;
            both = both;
            begin = X.held.begin;
            end = X.held.end;
            last = X.held.last;
            some = some;
            joint = record {
              u = J.u;
              v = J.v;
              from = J.from;
              to = J.to;
              arc = same_tables sheet X.held.only (λ x f. Arc x (kept_of ch) f (hit - 1) J.u J.v 0) J.arc;
            };
          };
          both = both;
          node = a-node;
          low = filled.state.low;
        }

    module _ {ch' t'' ch'' : List ℕ} (T : Exchanged sh ch sheet t' ch' t'' b a) (put : PutKept ch' ch'' i 1) where
      cycle :
          Flipped (residual_of sh sheet t') (kept_of ch) (spare_of sh t') (kept_of ch') (spare_of sh t'') (shop_of sh t' i)
          (card_of sh t' i)
      cycle = flipped-ends (shop-keeps keeps i ∙ sym W.shop) (card-keeps keeps i ∙ sym W.card) T.flip

      -- the reached nodes had the label that they have again
      names : (v : ℕ) → v < sh.groups + 2 → label_of sh t'' v ≡ label_of sh t v
      names v l =
          ⊎_elim (λ h. h.1 ∙ sym (reached-fresh v l h.0)) (λ h. h.1 ∙ rest v h.0) (T.labels v l)

      one : (u v : ℕ) → 0 < T.near u → 0 < T.near v → classes.rank u ≡ classes.rank v
      one u v p q =
          let x = T.seen u p in
          let y = T.seen v q in
          classes.alike u v x.0 y.0 (reached-fresh u x.0 x.1 ∙ sym (reached-fresh v y.0 y.1))

      turned : Sorted (residual_of sh sheet t') (kept_of ch'') (spare_of sh t'') classes.rank
      turned =
          sorted-put (residual_of sh sheet t')
          (sorted-inside (residual_of sh sheet t')
          (sorted-equal (residual-keeps keeps sheet) (spare-unread quiet-search) sorted) T.near
          T.inside one)
          i (omega (arith, W.above)) put.puts.else

      pub swap-crossed : Placed sh ch sheet t ch'' t'' (i + 1) next
      swap-crossed =
          placed-then filled
          (record {
            filled =
                cycle-filled filled.state (moves-keeps T.only) ch' T.long i at.row W.above W.left.out
                (paid-keeps keeps i sheet at.none W.left.even) cycle ch'' put;
            lists = lists-above (keeps_then (keeps-more (λ l p. omega arith) X.held.only) T.only);
            order =
                cycle-next filled.state (moves-keeps T.only) ch' T.long i at.row W.above W.left.out
                (paid-keeps keeps i sheet at.none W.left.even) cycle ch'' put at.none (order-unread quiet-search ch at.order);
            classes =
                classes-of (omega (arith, classes.few))
                (sorted-freed (residual_of sh sheet t'') (kept_of ch'') (spare_of sh t'') sh.free (i + 1)
                (omega (arith, W.above)) (sorted-equal (residual-keeps (moves-keeps T.only) sheet) refl turned))
                (ranked-same (classes-ranked classes) names);
          })
