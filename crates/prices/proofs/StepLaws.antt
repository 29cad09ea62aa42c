-- Laws of the step over the lent buffers.
--   lower-stays lower-take lower-keep lower-shut    the slack of one arc
--   along-down along-up along-row    its ends
--   groups_none groups-one groups-more    the loop over the groups, with both arcs of each
--   rows_more                the loop over the rows
--   groups-rows              the groups' arcs and the rows are all
--   fall-one                 a toll of 1 falls to 0
--   moving-card moving-shop  whether a price rises, by the test that the code makes
--   raised-none raised-one   the loop that raises the prices, group by group
--   raised-low               what it adds up is in range
--   stepped                  the least slack and the raised prices make the step
use mathlib.Core.Path.{◌≡◌, refl, sym, ap, ◌∙◌}
use mathlib.Core.Bool.{Bool, true, false, ◌||◌, true≢false}
use mathlib.Core.Logic.{◌⊎◌, inl, inr, ⊎_elim}
use mathlib.Core.List.{List}
use Prim.Native.Nat.{ℕ, ◌+◌, ◌-◌, ◌≤◌, ◌<◌, zero-le}
use native.Mathlib.Decide.{dec_lt}
use native.Mathlib.Nat.{le_refl}
use native.Mathlib.Omega.{arith}
use lib.Dec.{ltb, eqb}
use borrow.Author.Tests.{eq-eqb, ne_eqb, eqb-true, eqb-false, ltb-true, ltb-false}
use Rattle.theory.specs.Network.{Network}
use Rattle.theory.specs.Formed.{Formed}
use Rattle.theory.specs.Level.{Range}
use Rattle.theory.specs.Residual.{Residual}
use Rattle.theory.specs.Step.{Bound, arcs}
use Rattle.theory.proofs.CutLaws.{leaves-some}
use Rattle.theory.proofs.ResidualLaws.{card-below, shop-below, parent-below, arc-down, arc-up, arc-row}
use Rattle.theory.proofs.StepLaws.{shift_none, shift-stay, shift-move, bound-join, bound-pass, bound-take, step-some, step_range, step-level}
use Rattle.theory.proofs.TestLaws.{either}
use Rattle.theory.proofs.TurnLaws.{puts-same}
use Rattle.scratch.specs.declared.Shape.{Shape}
use Rattle.residual.specs.declared.Edge.{Edge}
use Rattle.scratch.specs.Map.{PutPrice, pred_of, spare_of, price_of, kept_of}
use Rattle.residual.specs.State.{highest, Decoded}
use Rattle.scratch.specs.View.{net_of, residual_of}
use Rattle.prices.specs.Step.{BoundOf, GroupArc, Groups, Along, Moving, Raised, Cutting, Stepped}
use Rattle.prices.proofs.ReadyLaws.{state-counts, state-toll}

--------------------------------------------------------------------------------
-- The least slack

-- what the two tests of labels say, of the arc from a node with label a to a node with label b
stays-true : (a b : ℕ) → (eqb a 0 || ltb 0 b) ≡ true → (a ≡ 0) ⊎ (0 < b)
stays-true a b h =
    ⊎_elim (λ y. inl (eqb-true a 0 y)) (λ n. inr (ltb-true 0 b (sym (ap (λ y. y || ltb 0 b) n) ∙ h))) (either (eqb a 0))

or-false : (a b : Bool) → (a || b) ≡ false → a ≡ false
or-false true b e = e
or-false false b e = refl

stays-false : (a b : ℕ) → (eqb a 0 || ltb 0 b) ≡ false → (0 < a) × (b ≡ 0)
stays-false a b h =
    let y = or-false (eqb a 0) (ltb 0 b) h in
    let n = eqb-false a 0 y in
    (omega arith, omega (arith, ltb-false 0 b (sym (ap (λ z. z || ltb 0 b) y) ∙ h)))

module _ {r : Residual} {S spare R : ℕ → ℕ} {e a b most by at : ℕ} (L : Along r S spare e a b) (p : by ≡ R a) (q : at ≡ R b) where
  pub lower-stays : (eqb by 0 || ltb 0 at) ≡ true → Bound r S spare R e (e + 1) most most
  lower-stays h =
      bound-pass r S spare R e most
      (λ j W.
      let o = L.ends W.u W.v j W.arc in
      absurd
      (⊎_elim {C = ⊥} (λ z. omega (arith, W.from, ap R o.0)) (λ z. omega (arith, W.to, ap R o.1))
      (stays-true by at h)))

  module _ {x : Edge} (D : Decoded r S spare e x) where
    pub lower-take :
        (eqb by 0 || ltb 0 at) ≡ false → x.usable ≡ true → x.slack < most → Bound r S spare R e (e + 1) most x.slack
    lower-take h u l =
        let o = L.ends x.from x.to x.slack (D.is u) in
        let w = stays-false by at h in
        bound-take r S spare R e most x.slack (
        record {
          u = x.from;
          v = x.to;
          arc = D.is u;
          from = omega (arith, w.0, ap R o.0);
          to = omega (arith, w.1, ap R o.1);
        }
        ) (omega arith) (λ j W. omega (arith, (D.only W.u W.v j W.arc).1.1.1))

module _ {r : Residual} {S spare R : ℕ → ℕ} {e most : ℕ} {x : Edge} (D : Decoded r S spare e x) where
  pub lower-keep : most ≤ x.slack → Bound r S spare R e (e + 1) most most
  lower-keep h = bound-pass r S spare R e most (λ j W. omega (arith, (D.only W.u W.v j W.arc).1.1.1))

  pub lower-shut : x.usable ≡ false → Bound r S spare R e (e + 1) most most
  lower-shut n =
      bound-pass r S spare R e most
      (λ j W. absurd (true≢false (sym (D.only W.u W.v j W.arc).0 ∙ n)))

--------------------------------------------------------------------------------
-- The ends of an arc

module _ {r : Residual} (S spare : ℕ → ℕ) (f : Formed r.net) where
  module _ {v a : ℕ} (l : v < r.net.groups) (is : a ≡ r.net.parent v) where
    pub along-down : Along r S spare v a v
    along-down = record {
      ends = λ x y k A. let W = arc-down r S spare v x y k A l in (W.tail ∙ sym is, W.head);
      from_node = omega (arith, parent-below r.net f v l);
      to_node = omega arith;
    }

    pub along-up : Along r S spare (r.net.groups + r.net.rows + v) v a
    along-up = record {
      ends = λ x y k A.
          let W = arc-up r S spare (r.net.groups + r.net.rows + v) x y k A (omega arith) in
          let i : x ≡ v = omega (arith, W.code) in
          (i, W.head ∙ ap r.net.parent i ∙ sym is);
      from_node = omega arith;
      to_node = omega (arith, parent-below r.net f v l);
    }

  -- row c leads from its shop node where it is kept, and from its card node where it is left out
  pub along-row :
      {c a b x from to : ℕ} → c < r.net.rows → a ≡ r.net.card c → b ≡ r.net.shop c → x ≡ S c →
      (eqb x 1 ≡ true → from ≡ b) × (eqb x 1 ≡ false → from ≡ a) → (eqb x 1 ≡ true → to ≡ a) × (eqb x 1 ≡ false → to ≡ b) →
      Along r S spare (r.net.groups + c) from to
  along-row {c} {a} {b} {x} {from} {to} l p q is F T = record {
    ends = λ u v k A.
        ⊎_elim
        (λ I.
        let i : I.c ≡ c = omega (arith, I.code) in
        let n = ne_eqb x 1 (λ h. omega (arith, I.byte, ap S i)) in
        (I.tail ∙ ap r.net.card i ∙ sym p ∙ sym (F.1 n), I.head ∙ ap r.net.shop i ∙ sym q ∙ sym (T.1 n)))
        (λ O.
        let i : O.c ≡ c = omega (arith, O.code) in
        let y = eq-eqb x 1 (omega (arith, O.byte, ap S i)) in
        (O.tail ∙ ap r.net.shop i ∙ sym q ∙ sym (F.0 y), O.head ∙ ap r.net.card i ∙ sym p ∙ sym (T.0 y)))
        (arc-row r S spare (r.net.groups + c) u v k A (omega arith) (omega arith));
    from_node =
        ⊎_elim (λ h. omega (arith, F.0 h, shop-below r.net f c l)) (λ h. omega (arith, F.1 h, card-below r.net f c l))
        (either (eqb x 1));
    to_node =
        ⊎_elim (λ h. omega (arith, T.0 h, card-below r.net f c l)) (λ h. omega (arith, T.1 h, shop-below r.net f c l))
        (either (eqb x 1));
  }

--------------------------------------------------------------------------------
-- Group after group

module _ {r : Residual} {S spare R : ℕ → ℕ} where
  pub groups_none : {most : ℕ} → Groups r S spare R 0 0 most most
  groups_none {most} = record {
    low = le_refl most;
    below = λ e j g W. absurd (⊎_elim {C = ⊥} (λ w. omega (arith, w.0, w.1)) (λ w. omega (arith, w.0, w.1)) g);
    best = λ x l h. l;
  }

  module _ {v most k : ℕ} where
    pub groups-one :
        {m : ℕ} → Bound r S spare R v (v + 1) most m →
        Bound r S spare R (r.net.groups + r.net.rows + v) (r.net.groups + r.net.rows + v + 1) m k →
        Groups r S spare R v (v + 1) most k
    groups-one A B = record {
      low = omega (arith, A.low, B.low);
      below = λ e j g W.
          ⊎_elim (λ w. omega (arith, A.below e j w.0 w.1 W, B.low))
          (λ w. B.below e j w.0 (omega (arith, w.1)) W) g;
      best = λ x l h.
          B.best x (A.best x l (λ e j a b W. h e j (inl (a, b)) W))
          (λ e j a b W. h e j (inr (a, omega arith)) W);
    }

    pub groups-more :
        {m : ℕ} → Groups r S spare R 0 v most m → Groups r S spare R v (v + 1) m k → Groups r S spare R 0 (v + 1) most k
    groups-more A B = record {
      low = omega (arith, A.low, B.low);
      below = λ e j g W.
          ⊎_elim (λ w. omega (arith, A.below e j w W, B.low)) (λ w. B.below e j w W) (part e g);
      best = λ x l h.
          B.best x (A.best x l (λ e j g W. h e j (less e g) W)) (λ e j g W. h e j (more e g) W);
    }
      where
        part : (e : ℕ) → GroupArc r.net 0 (v + 1) e → GroupArc r.net 0 v e ⊎ GroupArc r.net v (v + 1) e
        part e (inl w) =
            elim (dec_lt e v) [
              | yes l ↦ inl (inl (w.0, l))
              | no l ↦ inr (inl (omega arith, w.1))
            ]
        part e (inr w) =
            elim (dec_lt e (r.net.groups + r.net.rows + v)) [
              | yes l ↦ inl (inr (w.0, l))
              | no l ↦ inr (inr (omega arith, w.1))
            ]

        less : (e : ℕ) → GroupArc r.net 0 v e → GroupArc r.net 0 (v + 1) e
        less e (inl w) = inl (w.0, omega (arith, w.1))
        less e (inr w) = inr (w.0, omega (arith, w.1))

        more : (e : ℕ) → GroupArc r.net v (v + 1) e → GroupArc r.net 0 (v + 1) e
        more e (inl w) = inl (omega (arith, w.0), w.1)
        more e (inr w) = inr (omega (arith, w.0), w.1)

  pub rows_more :
      (c : ℕ) {lo most m k : ℕ} → Bound r S spare R lo (lo + c) most m → Bound r S spare R (lo + c) (lo + c + 1) m k →
      Bound r S spare R lo (lo + (c + 1)) most k
  rows_more c {lo} {most} {m} {k} A B =
      let i : lo + (c + 1) ≡ lo + c + 1 = omega arith in
      rw i (bound-join r S spare R lo (lo + c) (lo + c + 1) most m k A B (omega arith) (omega arith))

  -- the groups' arcs and the rows are all
  pub groups-rows :
      {most m k : ℕ} → Groups r S spare R 0 r.net.groups most m →
      Bound r S spare R r.net.groups (r.net.groups + r.net.rows) m k →
      Bound r S spare R 0 (arcs r.net) most k
  groups-rows A B = record {
    low = omega (arith, A.low, B.low);
    below = λ e j l h W.
        elim (dec_lt e r.net.groups) [
          | yes a ↦ omega (arith, A.below e j (inl (l, a)) W, B.low)
          | no a ↦
              elim (dec_lt e (r.net.groups + r.net.rows)) [
                | yes b ↦ B.below e j (omega arith) b W
                | no b ↦ omega (arith, A.below e j (inr (omega arith, omega arith)) W, B.low)
              ]
        ];
    best = λ x l h.
        B.best x
        (A.best x l
        (λ e j g W. ⊎_elim (λ w. h e j w.0 (omega (arith, w.1)) W) (λ w. h e j zero-le (omega (arith, w.1)) W) g))
        (λ e j a b W. h e j zero-le (omega arith) W);
  }

-- every arc that leaves the reached nodes has a slack
pub fall-one :
    {sh : Shape} {ch sheet t : List ℕ} → Cutting sh ch sheet t → sh.toll ≡ 1 →
    BoundOf sh ch sheet t 0 (arcs (net_of sh t)) sh.toll 1
fall-one {sh} {ch} {sheet} {t} F one = record {
  low = omega arith;
  below = λ e j l h W.
      leaves-some (residual_of sh sheet t) (kept_of ch) (spare_of sh t) (pred_of sh t) F.cut.closed e j W;
  best = λ x l h. omega arith;
}

--------------------------------------------------------------------------------
-- Raising the prices

module _ {d : Network} {R : ℕ → ℕ} {v by : ℕ} (is : by ≡ R v) where
  pub moving-card : v < d.cards → Moving d R v (eqb by 0)
  moving-card l = record {
    moves = λ h. inl (l, sym is ∙ eqb-true by 0 h);
    stays = λ h. let n = eqb-false by 0 h in inl (l, omega arith);
  }

  pub moving-shop : d.cards ≤ v → Moving d R v (ltb 0 by)
  moving-shop l = record {
    moves = λ h. inr (l, omega (arith, ltb-true 0 by h));
    stays = λ h. inr (l, omega (arith, ltb-false 0 by h));
  }

module _ {sh : Shape} {sheet t : List ℕ} {k : ℕ} where
  pub raised-none : Raised sh sheet t sheet k 0
  raised-none = record { long = refl; shift = shift_none (net_of sh t) (pred_of sh t) (price_of sh sheet) k 0 refl }

  module _ {sheet₁ : List ℕ} {v : ℕ} (A : Raised sh sheet t sheet₁ k v) where
    -- group v gets x more: k where its price rises, else nothing
    module _
        {p x : ℕ} {b : Bool} (M : Moving (net_of sh t) (pred_of sh t) v b)
        (o : (b ≡ true → x ≡ k) × (b ≡ false → x ≡ 0)) (is : p ≡ price_of sh sheet₁ v)
      where
        pub raised-low : Range highest (price_of sh sheet) k → p + x ≤ highest
        raised-low range =
            let l = A.shift.rest v (le_refl v) in
            ⊎_elim (λ h. omega (arith, o.0 h, l, range v)) (λ h. omega (arith, o.1 h, l, range v)) (either b)

        pub raised-one : {sheet₂ : List ℕ} → PutPrice sh sheet₁ sheet₂ v (p + x) → Raised sh sheet t sheet₂ k (v + 1)
        raised-one {sheet₂} P = record {
          long = P.long ∙ A.long;
          shift =
              ⊎_elim
              (λ h.
              shift-move (net_of sh t) (pred_of sh t) (price_of sh sheet) k v (price_of sh sheet₁) (price_of sh sheet₂) A.shift
              (M.moves h) (omega (arith, P.puts.here, o.0 h)) P.puts.else)
              (λ h.
              let same : price_of sh sheet₂ ≡ price_of sh sheet₁ =
              puts-same P.puts (omega (arith, o.1 h)) in
              shift-stay (net_of sh t) (pred_of sh t) (price_of sh sheet) k v (price_of sh sheet₂) (rw same A.shift) (M.stays h))
              (either b);
        }

--------------------------------------------------------------------------------
-- The whole step

module _
    {sh : Shape} {ch sheet t sheet' : List ℕ} {k : ℕ} (F : Cutting sh ch sheet t)
    (B : BoundOf sh ch sheet t 0 (arcs (net_of sh t)) sh.toll k) (A : Raised sh sheet t sheet' k sh.groups)
  where
    pub stepped : Stepped sh ch sheet t sheet' k
    stepped =
        let I = F.state in
        let counts = state-counts sh ch t in
        let range = step_range _ I.formed _ _ _ _ I.level counts F.all F.cut k B (price_of sh sheet') A.shift in
        record {
          low = B.low;
          some = step-some _ I.formed _ _ _ _ I.level counts F.all F.cut k B;
          state =
              state-toll sh ch t (sh.toll - k) sheet sheet' I A.long
              (step-level _ I.formed _ _ _ _ I.level counts F.all F.cut k B (price_of sh sheet') A.shift)
              (range highest I.range);
          range = range;
        }
