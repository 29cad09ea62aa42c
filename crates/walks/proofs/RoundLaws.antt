-- Laws of a round.
--   rewound-none first-half rewound-more   the cells are set back to the first items
--   rewound-search rewound-begun rewound-ahead rewound-swept   where they are, no item before them leads to a fresh node
--   flip-room crossed-turn halted-turn     one walk, with a path or without
--   Going ..               the invariant of walk after walk; going-first going_next going_less going_end    its laws
--   round-path round-none  a round that turned paths, and one that did not
use mathlib.Core.Path.{◌≡◌, refl, sym, ap, subst, ◌∙◌}
use mathlib.Core.Logic.{⊎_elim}
use mathlib.Core.Bool.{Bool, true, false, true≢false}
use mathlib.Core.List.{List}
use Prim.Native.Nat.{ℕ, ◌+◌, ◌-◌, ◌≤◌, ◌<◌}
use native.Mathlib.Omega.{arith}
use Rattle.theory.specs.Sum.{pick}
use Rattle.theory.specs.Incidence.{size}
use Rattle.theory.specs.Residual.{Residual}
use Rattle.theory.specs.Turn.{Flipped}
use Rattle.theory.proofs.SumLaws.{sum-le, sum_one}
use Rattle.theory.proofs.TestLaws.{either}
use Rattle.theory.proofs.TurnLaws.{puts-at}
use Rattle.scratch.specs.declared.Shape.{Shape}
use Rattle.scratch.specs.Map.{label_of, queue_of, spare_of, first_of, kept_of, queues, spares, firsts, half, Put, Room, OnlySearch}
use Rattle.scratch.specs.View.{residual_of}
use Rattle.scratch.proofs.MapLaws.{keeps-none, keeps_then, keeps-more, put_keeps, room-keeps, half-small}
use Rattle.residual.specs.Items.{Lists, Least}
use Rattle.look.proofs.ReachLaws.{unlisted-step}
use Rattle.look.proofs.StepLaws.{same_tables, same_lists}
use Rattle.search.specs.Search.{Refreshed}
use Rattle.paths.specs.Flip.{OldFrom, Walked}
use Rattle.prices.specs.State.{OnlyMoves, State, Filled}
use Rattle.prices.proofs.StateLaws.{filled_none, filled-then}
use Rattle.moves.proofs.MoveLaws.{moves-keeps, lists-path, residual-keeps, unread-labels, unread-search, state-unread, filled-unread}
use Rattle.moves.proofs.MoveLaws.{path-filled, path-more}
use Rattle.walks.specs.Walk.{Ahead, Swept, SweptOf, Begun, Stuck, Walk, Crossed, Turn, Ran, Rewound, Round}

--------------------------------------------------------------------------------
-- The first items

pub rewound-none : {sh : Shape} {t : List ℕ} → Rewound sh t t 0
rewound-none = record { only = keeps-none; first = λ v l. absurd (omega arith) }

-- an item has a number of 16 bits
pub first-half : {sh : Shape} {t t' : List ℕ} {m j : ℕ} (v : ℕ) → Rewound sh t t' m → j ≡ first_of sh t' v → j < half
first-half {sh} {t' = t'} v A i = rw i (half-small sh t' firsts v (omega arith))

pub rewound-more :
    {sh : Shape} {t t' t'' : List ℕ} {v j : ℕ} → Rewound sh t t' v → j ≡ first_of sh t' v → Put sh t' t'' queues v j →
    Rewound sh t t'' (v + 1)
rewound-more {sh} {t} {t'} {v = v} A i Q = record {
  only = keeps_then A.only (put_keeps refl Q);
  first = λ w l. ⊎_elim
      (λ h. h.1 ∙ i ∙ ap (λ (f : ℕ → ℕ). f v) (A.only.rest firsts (λ e. omega arith)) ∙ ap (first_of sh t) (sym h.0))
      (λ h. h.1 ∙ A.first w (omega (arith, h.0)))
      (puts-at Q.puts w);
}

module _ {sh : Shape} {ch sheet t t₁ : List ℕ} (B : Begun sh ch sheet t) (R : Rewound sh t t₁ (sh.groups + 2)) where
  pub rewound-search : OnlySearch sh t t₁
  rewound-search = keeps-more (λ l e. omega arith) R.only

  pub rewound-begun : Begun sh ch sheet t₁
  rewound-begun = record {
    state = state-unread (unread-search rewound-search) B.state;
    lists = same_lists sheet rewound-search B.lists;
    free = B.free;
    fresh = λ v l. ap (λ (f : ℕ → ℕ). f v) (R.only.rest 0 (λ e. omega arith)) ∙ B.fresh v l;
  }

  least : (v : ℕ) → v < sh.groups + 2 → Least (residual_of sh sheet t) (spare_of sh t) v sh.free (queue_of sh t₁ v)
  least v l = rw (R.first v l) (B.lists.at_first v l)

  pub rewound-ahead : Ahead (residual_of sh sheet t₁) (queue_of sh t₁)
  rewound-ahead =
      same_tables sheet rewound-search (λ r f. Ahead r (queue_of sh t₁))
      (λ v l. let M = least v l in record { live = M.low; high = M.high; item = M.item })

  -- an item before the first one is not listed
  pub rewound-swept : SweptOf sh ch sheet t₁
  rewound-swept =
      same_tables sheet rewound-search (λ r f. Swept r (kept_of ch) f sh.fresh (label_of sh t₁) (queue_of sh t₁))
      (λ v l e w lo hi F.
      unlisted-step false (residual_of sh sheet t) (kept_of ch) (spare_of sh t) B.state.formed F.v
      (λ x. absurd (true≢false (sym x))) w.item
      ((least v l).none w.j w.live hi w.item) w.code F.arc)

--------------------------------------------------------------------------------
-- One walk

module _ {sh : Shape} {ch sheet t t₁ : List ℕ} {b : Bool} (B : Begun sh ch sheet t) (W : Walk sh ch sheet t t₁ b) where
  walk-state : State sh ch sheet t₁
  walk-state = state-unread (unread-search W.only) B.state

  pub halted-turn : b ≡ false → Turn sh ch sheet t ch t₁ false
  halted-turn h = record {
    path = λ z. absurd (true≢false (sym z));
    only = λ z. (W.only, refl);
    none = λ z H. W.none h H;
  }

  pub flip-room : {ch' t₂ : List ℕ} → Walked sh ch sheet t₁ ch' t₂ sh.groups (sh.groups + 1) → Room sh t₂
  flip-room P = room-keeps P.only.long walk-state.room

  -- the path is turned, and every node is made fresh
  module _
      {ch' t₂ t₃ : List ℕ} (P : Walked sh ch sheet t₁ ch' t₂ sh.groups (sh.groups + 1)) (G : Refreshed sh t₂ t₃ (sh.groups + 2))
    where
      moves : OnlyMoves sh t₁ t₃
      moves = keeps_then (keeps-more (λ l e. omega arith) P.only) (keeps-more (λ l e. omega arith) G.only)

      spare-same : spare_of sh t₃ ≡ spare_of sh t₂
      spare-same = G.only.rest spares (λ e. omega arith)

      flipped :
          Flipped (residual_of sh sheet t₁) (kept_of ch) (spare_of sh t₁) (kept_of ch') (spare_of sh t₃) sh.groups (sh.groups + 1)
      flipped =
          subst
          (λ (f : ℕ → ℕ). Flipped (residual_of sh sheet t₁) (kept_of ch) (spare_of sh t₁) (kept_of ch') f sh.groups (sh.groups + 1))
          (sym spare-same) P.flip

      old : OldFrom (residual_of sh sheet t₁) (kept_of ch) (spare_of sh t₁) (kept_of ch') (spare_of sh t₃) sh.groups
      old =
          subst (λ (f : ℕ → ℕ). OldFrom (residual_of sh sheet t₁) (kept_of ch) (spare_of sh t₁) (kept_of ch') f sh.groups)
          (sym spare-same) P.old

      filled : Filled sh ch sheet t₁ ch' t₃
      filled = path-filled walk-state (moves-keeps moves) ch' P.long flipped

      queue_same : queue_of sh t₃ ≡ queue_of sh t₁
      queue_same = G.only.rest queues (λ e. omega arith) ∙ P.only.rest queues (λ e. omega arith)

      crossed : Crossed sh ch sheet t ch' t₃
      crossed = record {
        filled = filled-then sh ch sheet t ch t₁ ch' t₃ (filled-unread (unread-search W.only) B.state) filled;
        more = path-more walk-state (moves-keeps moves) ch' P.long flipped;
        begun = record {
          state = filled.state;
          lists = lists-path moves sheet ch ch' walk-state.formed old (same_lists sheet W.only B.lists);
          free = B.free;
          fresh = G.fresh;
        };
        ahead =
            subst (λ (r : Residual). Ahead r (queue_of sh t₃)) (sym (residual-keeps (moves-keeps moves) sheet))
            (subst (λ (f : ℕ → ℕ). Ahead (residual_of sh sheet t₁) f) (sym queue_same) W.ahead);
      }

      pub crossed-turn : Turn sh ch sheet t ch' t₃ true
      crossed-turn = record {
        path = λ z. crossed;
        only = λ z. absurd (true≢false z);
        none = λ z. absurd (true≢false z);
      }

--------------------------------------------------------------------------------
-- Walk after walk

pub record Going (sh : Shape) (ch₀ sheet t₀ ch t : List ℕ) (b : Bool) : Type 0 where
  pub filled : Filled sh ch₀ sheet t₀ ch t
  pub lists : Lists sh sheet t
  pub next : b ≡ true → Begun sh ch sheet t × Ahead (residual_of sh sheet t) (queue_of sh t)

-- what the walks use up: the rows that are left out, and the last walk
abbrev pub to_go : Shape → List ℕ → Bool → ℕ
to_go sh ch b = pick b 1 0 + (sh.rows - size sh.rows (kept_of ch))

pub going-first :
    {sh : Shape} {ch sheet t : List ℕ} → Begun sh ch sheet t → Ahead (residual_of sh sheet t) (queue_of sh t) →
    Going sh ch sheet t ch t true
going-first {sh} {ch} {sheet} {t} B A = record {
  filled = filled_none sh ch sheet t B.state;
  lists = B.lists;
  next = λ z. (B, A);
}

size-most : {sh : Shape} {ch sheet t : List ℕ} → State sh ch sheet t → size sh.rows (kept_of ch) ≤ sh.rows
size-most {sh} {ch} I =
    omega (arith, sum-le sh.rows {f = kept_of ch} {g = λ c. 1} I.level.choice.bits, sum_one sh.rows)

module _ {sh : Shape} {ch₀ sheet t₀ ch t : List ℕ} {b : Bool} (N : Going sh ch₀ sheet t₀ ch t b) where
  module _ {ch' t' : List ℕ} {c : Bool} (T : Turn sh ch sheet t ch' t' c) where
    pub going_next : Going sh ch₀ sheet t₀ ch' t' c
    going_next =
        ⊎_elim
        (λ h.
        let X = T.path h in
        record {
          filled = filled-then sh ch₀ sheet t₀ ch t ch' t' N.filled X.filled;
          lists = X.begun.lists;
          next = λ z. (X.begun, X.ahead);
        })
        (λ h.
        let same = (T.only h).1 in
        record {
          filled =
              subst (λ (x : List ℕ). Filled sh ch₀ sheet t₀ x t') (sym same)
              (filled-then sh ch₀ sheet t₀ ch t ch t' N.filled (filled-unread (unread-search (T.only h).0) N.filled.state));
          lists = same_lists sheet (T.only h).0 N.lists;
          next = λ z. absurd (true≢false (sym z ∙ h));
        })
        (either c)

    pub going_less : b ≡ true → to_go sh ch' c < to_go sh ch b
    going_less on =
        ⊎_elim
        (λ h.
        let X = T.path h in
        rw (on, h) (omega (arith, X.more, size-most X.begun.state)))
        (λ h.
        omega (
          arith,
          ap (λ (x : Bool). pick {A = ℕ} x 1 0) on,
          ap (λ (x : Bool). pick {A = ℕ} x 1 0) h,
          ap (λ (x : List ℕ). size sh.rows (kept_of x)) (T.only h).1,
        ))
        (either c)

  pub going_end : Ran sh ch₀ sheet t₀ ch t
  going_end = record { filled = N.filled; lists = N.lists }

--------------------------------------------------------------------------------
-- A round

module _
    {sh : Shape} {ch sheet t t₁ ch' t₂ : List ℕ} {b : Bool} (B : Begun sh ch sheet t) (R : Rewound sh t t₁ (sh.groups + 2))
    (T : Turn sh ch sheet t₁ ch' t₂ b)
  where
    pub round-none : b ≡ false → Round sh ch sheet t ch' t₂ false
    round-none h = record {
      path = λ z. absurd (true≢false (sym z));
      none = λ z. (
        (keeps_then (rewound-search B R) (T.only h).0, (T.only h).1),
        subst (λ (x : List ℕ). Stuck sh x sheet t₂) (sym (T.only h).1) (T.none h (rewound-swept B R)),
      );
    }

    pub round-path :
        {ch'' t₃ t₄ : List ℕ} → b ≡ true → Ran sh ch' sheet t₂ ch'' t₃ → Refreshed sh t₃ t₄ (sh.groups + 2) →
        Round sh ch sheet t ch'' t₄ true
    round-path {ch''} {t₃} {t₄} h A G =
        let X = T.path h in
        let quiet = unread-labels G.only in
        let first = filled-then sh ch sheet t ch t₁ ch' t₂ (filled-unread (unread-search (rewound-search B R)) B.state) X.filled in
        let then = filled-then sh ch sheet t ch' t₂ ch'' t₃ first A.filled in
        record {
          path = λ z.
              record {
                filled = filled-then sh ch sheet t ch'' t₃ ch'' t₄ then (filled-unread quiet A.filled.state);
                more = omega (arith, X.more, A.filled.more);
                begun = record {
                  state = state-unread quiet A.filled.state;
                  lists = same_lists sheet (keeps-more (λ l e. omega arith) G.only) A.lists;
                  free = B.free;
                  fresh = G.fresh;
                };
              };
          none = λ z. absurd (true≢false z);
        }
