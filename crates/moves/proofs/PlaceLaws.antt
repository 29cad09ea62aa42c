-- Laws of the walks up the groups that take places and give them back.
--   upward-up upward-off   a walk goes one node further; where it is not at its end it stands at a group
--   upward-chain           what is on the chain of a node above is on the node's own
--   places-parents above-places    the parents stay as they are, and what lies above a node
--   marks-places places-put    a mark, and a change of one group's places, leave the other tables alone
--   rooted-state rooted-places low-state    what a walk asks of the scratch, in a state and after another walk
--   shifts_none shifts-marks shifts-same    no place is taken
--   shifts-then shifts-under   one walk after another, that begins where the first ended or ends where it began
--   shifts-take shifts-give    the place of one group is taken, or given back
--   parent-places depth_falls  a walk comes to the parent, and so to its end
--   climbed-none climbed-more  a climb begins, and goes one group further
--   climbed-falls low-climbed  it gives no group a place
--   gives_more gives_fits  places are given back one group further, and there is room for each
--   ready-state ready-climbed  both things that a walk asks, in a state and after a climb
--   tried-all tried-none   a climb that came to the root, and one whose places were given back
--   added_none added-same added-row    no row is kept, none though places were taken for a while, and one that took its places
--   added_then             one filling after another
--   added-labels           the labels stay as they are
use mathlib.Core.Path.{◌≡◌, refl, sym, ap, ◌∙◌}
use mathlib.Core.Logic.{◌⊎◌, inl, inr, ⊎_elim}
use mathlib.Core.List.{List}
use Prim.Native.Nat.{ℕ, ◌+◌, ◌-◌, ◌≤◌, ◌<◌}
use native.Mathlib.Decide.{ℕ_discrete}
use native.Mathlib.Omega.{arith}
use Rattle.theory.specs.Sum.{same}
use Rattle.theory.specs.Forest.{Down, chain}
use Rattle.theory.specs.Chain.{depth}
use Rattle.theory.specs.Incidence.{plus, size}
use Rattle.theory.specs.Network.{Network, on_both}
use Rattle.theory.specs.Level.{count}
use Rattle.theory.proofs.SumLaws.{same_self, same-eq, same-ne}
use Rattle.theory.proofs.ForestLaws.{chain-in, chain-out, chain-small, depth-in}
use Rattle.theory.proofs.IncidenceLaws.{plus-is, load-plus, size-plus}
use Rattle.theory.proofs.NetworkLaws.{formed-down, chain-both}
use Rattle.theory.proofs.FillLaws.{level-plus}
use Rattle.scratch.specs.declared.Shape.{Shape}
use Rattle.scratch.specs.Map.{max_spare, Put, PutKept, Keeps, labels, spares, parents, label_of, spare_of, parent_of, card_of, shop_of, weight_of, price_of, kept_of}
use Rattle.scratch.specs.View.{net_of}
use Rattle.scratch.proofs.MapLaws.{keeps-none, keeps_then, keeps-more, put_keeps, room-keeps}
use Rattle.prices.specs.State.{Working, limit_of, State}
use Rattle.moves.specs.Fill.{Rooted, on_chain, Upward, here, next, Above, Low, OnlyMarks, OnlyPlaces, Shifts, Climbed, Tried, Tight, Added}
use Rattle.prices.proofs.StateLaws.{net-keeps, filled-change, filled_none, filled-then}

--------------------------------------------------------------------------------
-- Nodes above a node

module _ (G : ℕ) (parent : ℕ → ℕ) where
  pub upward-up : {v u : ℕ} → v < G → Upward G parent v u → Upward G parent (parent v) u
  upward-up {u} l (here e) = next {u = u} (omega arith) (here (ap parent e))
  upward-up {u} l (next m A) = next {u = u} m (upward-up l A)

  pub upward-off : {u e : ℕ} → (u ≡ e → ⊥) → Upward G parent e u → (u < G) × Upward G parent e (parent u)
  upward-off n (here e) = absurd (n e)
  upward-off n (next m A) = (m, A)

  pub upward-chain : {e u : ℕ} → Down G parent → (x : ℕ) → Upward G parent e u → chain G parent e x ≤ chain G parent u x
  upward-chain d x (here e) = omega (arith, ap (λ n. chain G parent n x) e)
  upward-chain {u} d x (next m A) = omega (arith, chain-in G parent d u x m, upward-chain d x A)

--------------------------------------------------------------------------------
-- What the walks leave as it is

module _ {sh : Shape} {t t' : List ℕ} (K : OnlyPlaces sh t t') where
  pub places-parents : parent_of sh t' ≡ parent_of sh t
  places-parents = K.rest parents (λ e. omega arith)

  pub above-places : {u e : ℕ} → Above sh t u e → Above sh t' u e
  above-places A = rw places-parents A

  pub rooted-places : Rooted sh t → Rooted sh t'
  rooted-places R = record {
    room = room-keeps K.long R.room;
    down = λ v l. rw places-parents (R.down v l);
  }

pub marks-places : {sh : Shape} {t t' : List ℕ} → OnlyMarks sh t t' → OnlyPlaces sh t t'
marks-places K = keeps-more (λ l e. (omega arith, omega arith)) K

pub places-put :
    {sh : Shape} {t t' t'' : List ℕ} {v y : ℕ} → OnlyPlaces sh t t' → Put sh t' t'' spares v y → OnlyPlaces sh t t''
places-put K P = keeps_then K (put_keeps (omega arith, omega arith) P)

pub rooted-state : {sh : Shape} {ch sheet t : List ℕ} → State sh ch sheet t → Rooted sh t
rooted-state {sh} {t = t} X = record { room = X.room; down = formed-down (net_of sh t) X.formed }

pub low-state : {sh : Shape} {ch sheet t : List ℕ} → State sh ch sheet t → Low sh t
unfolding limit_of
low-state X x l = omega (arith, X.low x l)

--------------------------------------------------------------------------------
-- Places that are taken and given back

pub shifts_none : {sh : Shape} {t : List ℕ} {u : ℕ} → Shifts sh t t u u
shifts_none = record { only = keeps-none; places = λ x. refl }

pub shifts-marks : {sh : Shape} {t t' : List ℕ} {u : ℕ} → OnlyMarks sh t t' → Shifts sh t t' u u
shifts-marks {sh} {t} {t'} {u} K = record {
  only = marks-places K;
  places = λ x. ap (λ (f : ℕ → ℕ). f x + on_chain sh t u x) (K.rest spares (λ e. omega arith));
}

pub shifts-same : {sh : Shape} {t t' : List ℕ} {u v : ℕ} → Shifts sh t t' u u → Shifts sh t t' v v
shifts-same A = record { only = A.only; places = λ x. omega (arith, A.places x) }

pub shifts-then :
    {sh : Shape} {t t' t'' : List ℕ} {u v w : ℕ} → Shifts sh t t' u v → Shifts sh t' t'' v w → Shifts sh t t'' u w
shifts-then A B = record {
  only = keeps_then A.only B.only;
  places = λ x. omega (arith, A.places x, rw (places-parents A.only) at (B.places x));
}

pub shifts-under :
    {sh : Shape} {t t' t'' : List ℕ} {u v w : ℕ} → Shifts sh t t' v u → Shifts sh t' t'' w v → Shifts sh t t'' w u
shifts-under A B = record {
  only = keeps_then A.only B.only;
  places = λ x. omega (arith, A.places x, rw (places-parents A.only) at (B.places x));
}

-- the places of group v become y
module _ {sh : Shape} {t : List ℕ} (R : Rooted sh t) (v : ℕ) (l : v < sh.groups) where
  step : (x : ℕ) → on_chain sh t v x ≡ same v x + on_chain sh t (parent_of sh t v) x
  step x = chain-in sh.groups (parent_of sh t) R.down v x l

  module _ {t' : List ℕ} {y : ℕ} (P : Put sh t t' spares v y) where
    -- group v, and any other
    places :
        (x : ℕ) →
        ((same v x ≡ 1) × ((spare_of sh t' x ≡ y) × (spare_of sh t x ≡ spare_of sh t v)))
        ⊎ ((same v x ≡ 0) × (spare_of sh t' x ≡ spare_of sh t x))
    places x =
        elim (ℕ_discrete x v) [
          | yes e ↦ inl (same-eq v x (sym e), (ap (spare_of sh t') e ∙ P.puts.here, ap (spare_of sh t) e))
          | no n ↦ inr (same-ne v x (λ e. n (sym e)), P.puts.else x n)
        ]

    pub shifts-take : y + 1 ≡ spare_of sh t v → Shifts sh t t' v (parent_of sh t v)
    shifts-take e = record {
      only = places-put keeps-none P;
      places = λ x.
          ⊎_elim (λ h. omega (arith, step x, h.0, h.1.0, h.1.1, e)) (λ h. omega (arith, step x, h.0, h.1)) (places x);
    }

    pub shifts-give : y ≡ spare_of sh t v + 1 → Shifts sh t t' (parent_of sh t v) v
    shifts-give e = record {
      only = places-put keeps-none P;
      places = λ x.
          ⊎_elim (λ h. omega (arith, step x, h.0, h.1.0, h.1.1, e)) (λ h. omega (arith, step x, h.0, h.1)) (places x);
    }

--------------------------------------------------------------------------------
-- The loops

module _ {sh : Shape} {t : List ℕ} (R : Rooted sh t) where
  pub climbed-none : {u : ℕ} → Climbed sh t t u u
  climbed-none = record { shifts = shifts_none; above = here refl }

  -- the parent of group v, read when some places are taken
  pub parent-places : {t' : List ℕ} → OnlyPlaces sh t t' → (v : ℕ) {w : ℕ} → w ≡ parent_of sh t' v → w ≡ parent_of sh t v
  parent-places K v e = e ∙ ap (λ (f : ℕ → ℕ). f v) (places-parents K)

  pub depth_falls :
      {t' : List ℕ} {v w : ℕ} → OnlyPlaces sh t t' → v < sh.groups → w ≡ parent_of sh t' v →
      depth sh.groups (parent_of sh t) w < depth sh.groups (parent_of sh t) v
  depth_falls {v = v} K l e =
      omega (
        arith,
        depth-in sh.groups (parent_of sh t) R.down v l,
        ap (depth sh.groups (parent_of sh t)) (parent-places K v e),
      )

  module _ {t' : List ℕ} {v : ℕ} (l : v < sh.groups) {t'' : List ℕ} {left w : ℕ} (have : left ≡ spare_of sh t' v) where
    pub climbed-more :
        {u : ℕ} → Climbed sh t t' u v → (left ≡ 0 → ⊥) → Put sh t' t'' spares v (left - 1) → w ≡ parent_of sh t' v →
        Climbed sh t t'' u w
    climbed-more C some P e =
        rw (parent-places C.shifts.only v e)
        (record {
          shifts =
              shifts-then C.shifts
              (rw (sym (parent-places C.shifts.only v refl))
              (shifts-take (rooted-places C.shifts.only R) v l P (omega (arith, some, have))));
          above = upward-up sh.groups (parent_of sh t) l C.above;
        })

    pub gives_more :
        {u : ℕ} → Shifts sh t t' v u → Put sh t' t'' spares v (left + 1) → w ≡ parent_of sh t'' v → Shifts sh t t'' w u
    gives_more A P e =
        rw (parent-places (places-put A.only P) v e)
        (shifts-under A
        (rw (sym (parent-places A.only v refl))
        (shifts-give (rooted-places A.only R) v l P (omega (arith, have)))))

  pub gives_fits : {t' : List ℕ} {u v : ℕ} → v < sh.groups → Shifts sh t t' v u → Low sh t → spare_of sh t' v ≤ max_spare
  gives_fits {u = u} {v = v} l A low =
      omega (
        arith,
        A.places v,
        step R v l v,
        same_self v,
        chain-small sh.groups (parent_of sh t) R.down u v,
        low v l,
      )

  pub climbed-falls : {t' : List ℕ} {u r : ℕ} → Climbed sh t t' u r → (x : ℕ) → spare_of sh t' x ≤ spare_of sh t x
  climbed-falls C x =
      omega (arith, C.shifts.places x, upward-chain sh.groups (parent_of sh t) R.down x C.above)

  pub low-climbed : {t' : List ℕ} {u r : ℕ} → Low sh t → Climbed sh t t' u r → Low sh t'
  low-climbed low C x l = omega (arith, climbed-falls C x, low x l)

pub ready-state : {sh : Shape} {ch sheet t : List ℕ} → State sh ch sheet t → Rooted sh t × Low sh t
ready-state X = (rooted-state X, low-state X)

pub ready-climbed :
    {sh : Shape} {t t' : List ℕ} {u r : ℕ} → Rooted sh t × Low sh t → Climbed sh t t' u r → Rooted sh t' × Low sh t'
ready-climbed R C = (rooted-places C.shifts.only R.0, low-climbed R.0 R.1 C)

pub tried-all : {sh : Shape} {t t' : List ℕ} {u r : ℕ} → Climbed sh t t' u r → sh.groups ≤ r → Tried sh t t' u r
tried-all C h = record { all = λ l. C; none = λ l. absurd (omega arith) }

pub tried-none :
    {sh : Shape} {t t₁ t₂ t' : List ℕ} {u r : ℕ} → Climbed sh t t₁ u r → r < sh.groups → Shifts sh t₁ t₂ r u → OnlyMarks sh t₂ t' →
    Tried sh t t' u r
tried-none C h B K = record {
  all = λ l. absurd (omega arith);
  none = λ l. record { shifts = shifts-then (shifts-then C.shifts B) (shifts-marks K); above = here refl };
}

--------------------------------------------------------------------------------
-- Keeping rows

module _ {sh : Shape} {ch sheet t : List ℕ} (state : State sh ch sheet t) where
  pub added_none : Added sh ch sheet t ch t
  added_none = record { filled = filled_none sh ch sheet t state; only = keeps-none }

  pub added-same : {t' : List ℕ} {u : ℕ} → Shifts sh t t' u u → Added sh ch sheet t ch t'
  unfolding limit_of
  added-same {t'} A = record {
    filled =
        filled-change sh ch sheet t ch t' state keeps refl
        (λ v l. omega (arith, A.places v, ap (λ (d : Network). count d (kept_of ch) v) (net-keeps keeps)))
        state.level (omega arith);
    only = A.only;
  }
    where
      keeps : Keeps sh Working t t'
      keeps = keeps-more (λ l e. omega arith) A.only

  -- row c takes its places
  module _
      {c : ℕ} (row : c < sh.rows) (tight : Tight sh ch sheet t c) {t' t'' ch' : List ℕ} {r r' : ℕ}
      (A : Shifts sh t t' (shop_of sh t c) r) (root : sh.groups ≤ r)
      (B : Shifts sh t' t'' (card_of sh t c) r') (root' : sh.groups ≤ r') (put : PutKept ch ch' c 1)
    where
      down : Down sh.groups (parent_of sh t)
      down = (rooted-state state).down

      taken : (v : ℕ) → spare_of sh t'' v + on_both (net_of sh t) c v ≡ spare_of sh t v
      taken v =
          omega (
            arith,
            A.places v,
            rw (places-parents A.only) at (B.places v),
            chain-both (net_of sh t) c v,
            chain-out sh.groups (parent_of sh t) down r v root,
            chain-out sh.groups (parent_of sh t) down r' v root',
          )

      both : OnlyPlaces sh t t''
      both = keeps_then A.only B.only

      keeps : Keeps sh Working t t''
      keeps = keeps-more (λ l e. omega arith) both

      more : kept_of ch' ≡ plus (kept_of ch) c
      more = plus-is (kept_of ch) c (kept_of ch') tight.out put.puts

      limits : (v : ℕ) → limit_of sh ch' t'' v ≡ limit_of sh ch t v
      unfolding limit_of
      limits v =
          omega (
            arith,
            taken v,
            load-plus (kept_of ch) c sh.rows (on_both (net_of sh t)) row tight.out v,
            ap (λ (f : ℕ → ℕ). count (net_of sh t) f v) more,
            ap (λ (d : Network). count d (kept_of ch') v) (net-keeps keeps),
          )

      pub added-row : Added sh ch sheet t ch' t''
      unfolding limit_of
      added-row = record {
        filled =
            filled-change sh ch sheet t ch' t'' state keeps put.long (λ v l. limits v)
            (rw more
            (level-plus (net_of sh t) state.formed c row (limit_of sh ch t) (weight_of sh t) (price_of sh sheet) sh.toll
            (kept_of ch) state.level tight.out (omega (arith, tight.even)) (λ v l. omega (arith, taken v))))
            (omega (arith, ap (size sh.rows) more, size-plus (kept_of ch) c sh.rows row tight.out));
        only = both;
      }

module _ {sh : Shape} {ch sheet t ch' t' : List ℕ} (A : Added sh ch sheet t ch' t') where
  pub added_then : {ch'' t'' : List ℕ} → Added sh ch' sheet t' ch'' t'' → Added sh ch sheet t ch'' t''
  added_then {ch''} {t''} B = record {
    filled = filled-then sh ch sheet t ch' t' ch'' t'' A.filled B.filled;
    only = keeps_then A.only B.only;
  }

  pub added-labels : label_of sh t' ≡ label_of sh t
  added-labels = A.only.rest labels (λ e. omega arith)
