-- Laws of the solver's moves under prices that stay: a search, and a walk that is turned round.
--   residual-keeps                  the residual network, where only the working tables change
--   moves-keeps lists-paid lists-path    the item lists, where only label, queue and spare change: with no toll left, and where no new
--                                   arc leads from the source
--   OnlyUnread                      only working tables change that the state does not read: all but the spares
--   unread-labels unread-search unread-lists unread-firsts    so do new labels, a search, new lists, and a row that leaves its lists
--   unread-keeps spare-unread limits-unread state-unread filled-unread    what they leave
--   searched-reach                  in the tables that a search left: what it reached
--   searched-rest searched-fresh searched-start    the nodes that are not reached have their old label, those that are were fresh,
--                                   and the start is reached
--   searched-closed                 where it did not find its target, no open arc leads from a reached node to one that was fresh
--   counts-limits                   places left and kept rows that make the old limits
--   ordered_keeps                   the row order, where only the working tables change and the limits stay
--   path-filled path-more           a walk from the source to the sink keeps one row more
--   cycle-filled cycle-same cycle-next    a walk from row i's shop node to its card node, and then row i: as many rows, and with
--                                   no toll the row order up to row i
use mathlib.Core.Path.{◌≡◌, refl, ◌∙◌, ap}
use mathlib.Core.Logic.{◌≢◌, ⊎_elim}
use mathlib.Core.Bool.{Bool}
use mathlib.Core.List.{List}
use Prim.Native.Nat.{ℕ, ◌+◌, ◌<◌}
use native.Mathlib.Decide.{dec_lt}
use native.Mathlib.Nat.{le_refl}
use native.Mathlib.Omega.{arith}
use lib.ListN.{length}
use Rattle.theory.specs.Incidence.{size}
use Rattle.theory.specs.Network.{Network}
use Rattle.theory.specs.Formed.{Formed}
use Rattle.theory.specs.Level.{count, Counts, Ordered}
use Rattle.theory.specs.Residual.{Residual}
use Rattle.theory.specs.Turn.{Flipped}
use Rattle.theory.proofs.FlipLaws.{path-size, path-counts, path-level, cycle-size, cycle-counts, cycle-level, cycle-ordered}
use Rattle.scratch.specs.declared.Shape.{Shape}
use Rattle.scratch.specs.Map.{Keeps, OnlySearch, OnlyLabels, OnlyLists, PutKept, arc_in, label_of, pred_of, spare_of, card_of, shop_of, weight_of, kept_of, spares, firsts, child_afters, card_afters, shop_afters, parents, row_price}
use Rattle.scratch.specs.View.{net_of, residual_of}
use Rattle.residual.specs.Items.{Item, Unlisted, Linked, Links}
use Rattle.paths.specs.Flip.{OldFrom}
use Rattle.look.specs.Reach.{Step, Reach}
use Rattle.search.specs.Search.{ReachBy, SearchedBy}
use Rattle.scratch.proofs.MapLaws.{keeps-more, residual-same}
use Rattle.residual.proofs.LinkLaws.{linked-still}
use Rattle.look.proofs.ReachLaws.{unlisted-open, unlisted-closed}
use Rattle.prices.specs.State.{Working, OnlyMoves, limit_of, State, Filled}
use Rattle.prices.proofs.StateLaws.{net-keeps, weight-keeps, state-change, filled-change}
use Rattle.prices.proofs.ReadyLaws.{state-counts}

--------------------------------------------------------------------------------
-- Where only the working tables change

-- facts of networks, tables and limits that are the same
linked-same :
    {r r' : Residual} {s f f' a a' b b' c c' : ℕ → ℕ} {lo : ℕ} → r' ≡ r → f' ≡ f → a' ≡ a → b' ≡ b → c' ≡ c →
    Linked r s f a b c lo → Linked r' s f' a' b' c' lo
linked-same e p q x y L = rw (e, p, q, x, y) L

reach-same :
    {back : Bool} {r r' : Residual} {S f f' pred queue : ℕ → ℕ} {h n : ℕ} → r' ≡ r → f' ≡ f → Reach back r S f pred queue h n →
    Reach back r' S f' pred queue h n
reach-same e p A = rw (e, p) A

ordered_same :
    {d d' : Network} {limit limit' w w' S : ℕ → ℕ} {i : ℕ} → d' ≡ d → w' ≡ w →
    ((v : ℕ) → v < d.groups → limit' v ≡ limit v) → Ordered d limit w S i → Ordered d' limit' w' S i
ordered_same {d} {d'} {limit} {limit'} {w} {w'} {S} {i} e f same O = rw (e, f) under
  where
    under : Ordered d limit' w S i
    under Y choice =
        O Y
        (record {
          bits = choice.bits;
          fits = (
            λ v l. omega (arith, choice.fits.0 v l, same v l),
            λ v l. omega (arith, choice.fits.1 v l, same v l),
          );
        })

module _ {sh : Shape} {t t' : List ℕ} (K : Keeps sh Working t t') where
  pub residual-keeps : (sheet : List ℕ) → residual_of sh sheet t' ≡ residual_of sh sheet t
  residual-keeps sheet = residual-same sheet (λ l a b. omega arith) K

  module _ (ch ch' : List ℕ) where
    pub counts-limits :
        Counts (net_of sh t) (limit_of sh ch t) (kept_of ch') (spare_of sh t') →
        (v : ℕ) → v < sh.groups → limit_of sh ch' t' v ≡ limit_of sh ch t v
    unfolding limit_of
    counts-limits C v l = ap (λ (d : Network). spare_of sh t' v + count d (kept_of ch') v) (net-keeps K) ∙ C v l

    pub ordered_keeps :
        ((v : ℕ) → v < sh.groups → limit_of sh ch' t' v ≡ limit_of sh ch t v) → {S : ℕ → ℕ} {i : ℕ} →
        Ordered (net_of sh t) (limit_of sh ch t) (weight_of sh t) S i → Ordered (net_of sh t') (limit_of sh ch' t') (weight_of sh t') S i
    ordered_keeps limits O = ordered_same (net-keeps K) (weight-keeps K) limits O

module _ {sh : Shape} {t t' : List ℕ} (K : OnlyMoves sh t t') where
  pub moves-keeps : Keeps sh Working t t'
  moves-keeps = keeps-more (λ l p. omega arith) K

  module _ (sheet : List ℕ) {lo : ℕ} where
    lists-keeps :
        ((u j : ℕ) → Item (residual_of sh sheet t) u j → Unlisted (residual_of sh sheet t) (spare_of sh t) u j →
        Unlisted (residual_of sh sheet t) (spare_of sh t') u j) →
        Links sh sheet t lo → Links sh sheet t' lo
    lists-keeps still L =
        linked-same (residual-keeps moves-keeps sheet) (K.rest firsts (λ p. omega arith)) (K.rest child_afters (λ p. omega arith))
        (K.rest card_afters (λ p. omega arith)) (K.rest shop_afters (λ p. omega arith)) (linked-still still L)

    pub lists-paid : sh.toll ≡ 0 → Links sh sheet t lo → Links sh sheet t' lo
    lists-paid none = lists-keeps (λ u j h N. absurd (omega (arith, N.tolled, none)))

    -- an arc down to a group that got a place would be a new one from the source
    pub lists-path :
        (ch ch' : List ℕ) → Formed (net_of sh t) →
        OldFrom (residual_of sh sheet t) (kept_of ch) (spare_of sh t) (kept_of ch') (spare_of sh t') sh.groups →
        Links sh sheet t lo → Links sh sheet t' lo
    lists-path ch ch' f old =
        lists-keeps
        (λ u j h N.
        let r : Residual = residual_of sh sheet t in
        record {
          tolled = N.tolled;
          source = N.source;
          v = N.v;
          code = N.code;
          full =
              elim (dec_lt 0 (spare_of sh t' N.v)) [
                | yes l ↦
                    absurd
                    (unlisted-closed r f h N (kept_of ch) (old N.v N.v (unlisted-open r f h N (kept_of ch') (spare_of sh t') l)))
                | no l ↦ omega arith
              ];
        })

--------------------------------------------------------------------------------
-- Where the state's own tables stay

abbrev pub OnlyUnread : Shape → List ℕ → List ℕ → Type 0
OnlyUnread sh t t' = Keeps sh (λ l. (l < parents) × (l ≢ spares)) t t'

module _ {sh : Shape} {t t' : List ℕ} where
  pub unread-labels : OnlyLabels sh t t' → OnlyUnread sh t t'
  unread-labels A = keeps-more (λ l p. (omega arith, λ e. omega arith)) A

  pub unread-search : OnlySearch sh t t' → OnlyUnread sh t t'
  unread-search A = keeps-more (λ l p. (omega arith, λ e. omega arith)) A

  pub unread-lists : OnlyLists sh t t' → OnlyUnread sh t t'
  unread-lists A = keeps-more (λ l p. (p.1, λ e. omega (arith, p.0))) A

  pub unread-firsts : Keeps sh (λ k. k ≡ firsts) t t' → OnlyUnread sh t t'
  unread-firsts A = keeps-more (λ l p. (omega arith, λ e. omega arith)) A

module _ {sh : Shape} {t t' : List ℕ} (A : OnlyUnread sh t t') where
  pub unread-keeps : Keeps sh Working t t'
  unread-keeps = keeps-more (λ l p. p.0) A

  pub spare-unread : spare_of sh t' ≡ spare_of sh t
  spare-unread = A.rest spares (λ p. p.1 refl)

  pub limits-unread : (ch : List ℕ) (v : ℕ) → limit_of sh ch t' v ≡ limit_of sh ch t v
  unfolding limit_of
  limits-unread ch v =
      omega (
        arith,
        ap (λ (f : ℕ → ℕ). f v) spare-unread,
        ap (λ (d : Network). count d (kept_of ch) v) (net-keeps unread-keeps),
      )

  module _ {ch sheet : List ℕ} (I : State sh ch sheet t) where
    pub state-unread : State sh ch sheet t'
    state-unread = state-change sh ch sheet t ch t' I unread-keeps refl (λ v l. limits-unread ch v) I.level

    pub filled-unread : Filled sh ch sheet t ch t'
    filled-unread =
        filled-change sh ch sheet t ch t' I unread-keeps refl (λ v l. limits-unread ch v) I.level
        (le_refl (size sh.rows (kept_of ch)))

--------------------------------------------------------------------------------
-- A search

-- in either direction
module _
    {sh : Shape} {back : Bool} {ch sheet t t' : List ℕ} {start target n : ℕ} (X : SearchedBy sh back ch sheet t t' start target n)
  where
    pub searched-reach : ReachBy sh back ch sheet t' t' n n
    searched-reach =
        let K = unread-search X.only in
        reach-same (residual-keeps (unread-keeps K) sheet) (spare-unread K) X.reach

    pub searched-rest : (v : ℕ) → pred_of sh t' v ≡ 0 → label_of sh t' v ≡ label_of sh t v
    searched-rest v none = ⊎_elim (λ e. e) (λ h. absurd (omega (arith, h.1))) (X.spread v)

    pub searched-fresh : (v : ℕ) → pred_of sh t v ≡ 0 → 0 < pred_of sh t' v → label_of sh t v ≡ sh.fresh
    searched-fresh v dark some =
        ⊎_elim (λ e. absurd (omega (arith, ap (arc_in sh.fresh) e))) (λ h. h.0) (X.spread v)

    pub searched-start : 0 < pred_of sh t' start
    searched-start = rw X.begin at (X.reach.seen 0 X.reach.some)

    -- a step from a reached node to one that was fresh
    pub searched-closed :
        pred_of sh t' target ≡ 0 → (e u v : ℕ) → u < sh.groups + 2 →
        Step back (residual_of sh sheet t) (kept_of ch) (spare_of sh t) e u v → 0 < pred_of sh t' u → label_of sh t v ≡ sh.fresh →
        0 < pred_of sh t' v
    searched-closed lost e u v node A from was =
        elim (dec_lt 0 (pred_of sh t' v)) [
          | yes l ↦ l
          | no l ↦ absurd (X.closed lost u node from e v A (searched-rest v (omega arith) ∙ was))
        ]

--------------------------------------------------------------------------------
-- A walk that is turned round

module _
    {sh : Shape} {ch sheet t t' : List ℕ} (I : State sh ch sheet t) (K : Keeps sh Working t t') (ch' : List ℕ)
    (long : length ch' ≡ length ch)
  where
    module _
        (F :
        Flipped (residual_of sh sheet t) (kept_of ch) (spare_of sh t) (kept_of ch') (spare_of sh t') sh.groups
        (sh.groups + 1))
      where
        pub path-more : size sh.rows (kept_of ch') ≡ size sh.rows (kept_of ch) + 1
        path-more = path-size (residual_of sh sheet t) I.formed F

        pub path-filled : Filled sh ch sheet t ch' t'
        path-filled =
            filled-change sh ch sheet t ch' t' I K long
            (counts-limits K ch ch'
            (path-counts (residual_of sh sheet t) I.formed F (limit_of sh ch t) (state-counts sh ch t)))
            (path-level (residual_of sh sheet t) I.formed F (limit_of sh ch t) (state-counts sh ch t) I.level)
            (omega (arith, path-more))

    -- row i, for which the rows above it were free, goes in
    module _
        (i : ℕ) (row : i < sh.rows) (after : sh.free ≡ i + 1) (out : kept_of ch i ≡ 0)
        (paid : row_price sh sheet t i + sh.toll ≡ weight_of sh t i)
        (F :
        Flipped (residual_of sh sheet t) (kept_of ch) (spare_of sh t) (kept_of ch') (spare_of sh t') (shop_of sh t i)
        (card_of sh t i))
        (ch'' : List ℕ) (put : PutKept ch' ch'' i 1)
      where
        pub cycle-same : size sh.rows (kept_of ch'') ≡ size sh.rows (kept_of ch)
        cycle-same = cycle-size (residual_of sh sheet t) I.formed i row after out paid F put.puts

        counts : Counts (net_of sh t) (limit_of sh ch t) (kept_of ch'') (spare_of sh t')
        counts =
            cycle-counts (residual_of sh sheet t) I.formed i row after out paid F put.puts (limit_of sh ch t)
            (state-counts sh ch t)

        pub cycle-filled : Filled sh ch sheet t ch'' t'
        cycle-filled =
            filled-change sh ch sheet t ch'' t' I K (put.long ∙ long) (counts-limits K ch ch'' counts)
            (cycle-level (residual_of sh sheet t) I.formed i row after out paid F put.puts (limit_of sh ch t)
            (state-counts sh ch t) I.level)
            (omega (arith, cycle-same))

        pub cycle-next :
            sh.toll ≡ 0 → Ordered (net_of sh t) (limit_of sh ch t) (weight_of sh t) (kept_of ch) i →
            Ordered (net_of sh t') (limit_of sh ch'' t') (weight_of sh t') (kept_of ch'') (i + 1)
        cycle-next none O =
            ordered_keeps K ch ch'' (counts-limits K ch ch'' counts)
            (cycle-ordered (residual_of sh sheet t) I.formed i row after out paid F put.puts (limit_of sh ch t)
            (state-counts sh ch t) I.level none O)
