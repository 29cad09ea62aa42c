-- Laws of looking along an arc: where it is open, what an open arc says, and that the tests of the code say so.
--   price-told             the price of a node, read beside a group
--   up-leads               up from a group
--   down-leads             down to a listed child
--   row-leads              along a listed row
use mathlib.Core.Path.{◌≡◌, refl, sym, ap, ◌∙◌}
use mathlib.Core.Logic.{◌⊎◌, inl, inr, ⊎_elim}
use mathlib.Core.Bool.{Bool, true, false, not, ◌&&◌, ◌||◌, true≢false}
use mathlib.Core.List.{List}
use Prim.Native.Nat.{ℕ, ◌+◌, ◌≤◌, ◌<◌}
use native.Mathlib.Decide.{dec_lt}
use native.Mathlib.Omega.{arith}
use lib.Dec.{ltb, leb, eqb}
use borrow.Author.Tests.{ltb-false, lt-ltb, le-ltb, leb-false, lt-leb, eqb-true, eqb-false, eq-eqb, ne_eqb, not-true}
use Rattle.theory.specs.Sum.{pick}
use Rattle.theory.specs.Formed.{Formed}
use Rattle.theory.specs.Residual.{Residual, dues, Arc, Up, Down}
use Rattle.theory.specs.Residual.Arc.{down, up, puts, takes}
use Rattle.theory.proofs.ResidualLaws.{arc-up, arc-down, arc-row, sides_apart}
use Rattle.theory.proofs.TestLaws.{and-true, true-and}
use Rattle.scratch.specs.declared.Shape.{Shape}
use Rattle.scratch.specs.Map.{spare_of, parent_of, card_of, shop_of, price_of, kept_of}
use Rattle.scratch.specs.View.{net_of, residual_of}
use Rattle.residual.specs.Items.{RowItem, ChildItem, rise_at, fall_at}
use Rattle.look.specs.Look.{Leads, Ends}
use Rattle.scratch.proofs.MapLaws.{price-out}

-- a place is left, where one is wanted
some-true : (a : Bool) (k : ℕ) → (a || not (eqb k 0)) ≡ true → a ≡ false → 0 < k
some-true true k h e = absurd (true≢false e)
some-true false k h e = omega (arith, eqb-false k 0 (not-true (eqb k 0) h))

true-some : (a : Bool) (k : ℕ) → (a ≡ false → 0 < k) → (a || not (eqb k 0)) ≡ true
true-some true k h = refl
true-some false k h = ap not (ne_eqb k 0 (λ e. omega (arith, h refl)))

-- a root has price 0
pub price-told :
    (sh : Shape) (sheet : List ℕ) (u v : ℕ) {a x r : ℕ} → a ≡ pick (ltb v sh.groups) v u → x ≡ price_of sh sheet a →
    r ≡ pick (ltb v sh.groups) x 0 → r ≡ price_of sh sheet v
price-told sh sheet u v {a} at is told =
    elim (dec_lt v sh.groups) [
      | yes l ↦
          let h = lt-ltb v sh.groups l in
          (rw h at told) ∙ is ∙ ap (price_of sh sheet) (rw h at at)
      | no l ↦ (rw (le-ltb v sh.groups (omega arith)) at told) ∙ sym (price-out sh sheet v (omega arith))
    ]

module _ (r : Residual) (S spare : ℕ → ℕ) where
  -- the arc up from u to v, and what it says where it is open
  module _ (u v : ℕ) (l : u < r.net.groups) (is : v ≡ r.net.parent u) where
    abbrev Rise : ℕ
    Rise = r.net.groups + r.net.rows + u

    up-open : r.price u ≡ r.price v → (r.net.cards ≤ u → 0 < spare u) → Arc r S spare Rise u v 0
    up-open p m = up (record { group = l; code = refl; head = is; room = m; slack = omega (arith, ap r.price is) })

    up-told : {a w : ℕ} → Arc r S spare Rise a w 0 → ((a ≡ u) × (w ≡ v)) × ((r.price u ≡ r.price v) × (r.net.cards ≤ u → 0 < spare u))
    up-told {a} {w} A =
        let R : Up r S spare Rise a w 0 = arc-up r S spare Rise a w 0 A (omega arith) in
        let i : a ≡ u = omega (arith, R.code) in (
          (i, R.head ∙ ap r.net.parent i ∙ sym is),
          (
            omega (arith, R.slack, ap r.price is, ap (λ (x : ℕ). r.price (r.net.parent x)) i, ap r.price i),
            λ m. omega (arith, R.room (omega arith), ap spare i),
          ),
        )

  -- the arc down from u to v
  module _ (u v : ℕ) (l : v < r.net.groups) (is : r.net.parent v ≡ u) where
    down-open : r.price u ≡ r.price v → (v < r.net.cards → 0 < spare v) → Arc r S spare v u v 0
    down-open p m = down (record { group = l; tail = sym is; head = refl; room = m; slack = omega (arith, ap r.price is) })

    down-told : {a w : ℕ} → Arc r S spare v a w 0 → ((a ≡ u) × (w ≡ v)) × ((r.price u ≡ r.price v) × (v < r.net.cards → 0 < spare v))
    down-told {a} {w} A =
        let D : Down r S spare v a w 0 = arc-down r S spare v a w 0 A l in
        ((D.tail ∙ is, D.head), (omega (arith, D.slack, ap r.price is), D.room))

  -- the arc of row c from u to v, where its byte in the choice is x
  module _
      (f : Formed r.net) (c u v x : ℕ) (l : c < r.net.rows)
      (ends : ((x ≡ 0) × ((u ≡ r.net.card c) × (v ≡ r.net.shop c))) ⊎ ((x ≡ 1) × ((u ≡ r.net.shop c) × (v ≡ r.net.card c))))
    where
      -- an open arc from u, or to v
      row_told : {a w : ℕ} → Arc r S spare (r.net.groups + c) a w 0 → (a ≡ u) ⊎ (w ≡ v) → ((a ≡ u) × (w ≡ v)) × (S c ≡ x)
      row_told {a} {w} A at =
          elim (arc-row r S spare (r.net.groups + c) a w 0 A (omega arith) (omega arith)) [
            | inl I ↦
                let i : I.c ≡ c = omega (arith, I.code) in
                elim ends [
                  | inl E ↦ (
                    (I.tail ∙ ap r.net.card i ∙ sym E.1.0, I.head ∙ ap r.net.shop i ∙ sym E.1.1),
                    ap S (sym i) ∙ I.byte ∙ sym E.0,
                  )
                  | inr E ↦
                      absurd
                      (⊎_elim
                      (λ (k : a ≡ u). sides_apart r.net f c l (sym E.1.0 ∙ sym k ∙ I.tail ∙ ap r.net.card i))
                      (λ (k : w ≡ v). sides_apart r.net f c l (ap r.net.shop (sym i) ∙ sym I.head ∙ k ∙ E.1.1))
                      at)
                ]
            | inr O ↦
                let i : O.c ≡ c = omega (arith, O.code) in
                elim ends [
                  | inl E ↦
                      absurd
                      (⊎_elim
                      (λ (k : a ≡ u). sides_apart r.net f c l (ap r.net.shop (sym i) ∙ sym O.tail ∙ k ∙ E.1.0))
                      (λ (k : w ≡ v). sides_apart r.net f c l (sym E.1.1 ∙ sym k ∙ O.head ∙ ap r.net.card i))
                      at)
                  | inr E ↦ (
                    (O.tail ∙ ap r.net.shop i ∙ sym E.1.0, O.head ∙ ap r.net.card i ∙ sym E.1.1),
                    ap S (sym i) ∙ O.byte ∙ sym E.0,
                  )
                ]
          ]

      row_open : S c ≡ x → r.free ≤ c → dues r c ≡ r.weight c → Arc r S spare (r.net.groups + c) u v 0
      row_open x₁ m d =
          elim ends [
            | inl E ↦
                puts (record {
                  c = c;
                  row = l;
                  live = m;
                  code = refl;
                  byte = x₁ ∙ E.0;
                  tail = E.1.0;
                  head = E.1.1;
                  slack = omega arith;
                })
            | inr E ↦
                takes (record {
                  c = c;
                  row = l;
                  live = m;
                  code = refl;
                  byte = x₁ ∙ E.0;
                  tail = E.1.0;
                  head = E.1.1;
                  slack = omega arith;
                })
          ]

--------------------------------------------------------------------------------
-- In the buffers, over what was read from them

module _ (sh : Shape) (ch sheet t : List ℕ) where
  abbrev Res : Residual
  Res = residual_of sh sheet t

  pub up-leads :
      (back : Bool) {u v pu pv sp : ℕ} {easy : Bool} → pu ≡ price_of sh sheet u → pv ≡ price_of sh sheet v → u < sh.groups →
      v ≡ parent_of sh t u → easy ≡ pick back (leb sh.cards u) (ltb u sh.cards) → sp ≡ spare_of sh t u →
      Leads sh back ch sheet t (rise_at (net_of sh t) back u) u v (eqb pu pv && (easy || not (eqb sp 0)))
  up-leads false {u} {v} {pu} {pv} {sp} {easy} p q l is i k = record {
    yes = λ h.
        let w = and-true (eqb pu pv) (easy || not (eqb sp 0)) h in
        up-open Res (kept_of ch) (spare_of sh t) u v l is (sym p ∙ eqb-true pu pv w.0 ∙ q)
        (λ m. omega (arith, some-true easy sp w.1 (i ∙ le-ltb u sh.cards m)));
    only = λ w A.
        let R = up-told Res (kept_of ch) (spare_of sh t) u v l is A in (
          true-and (eqb pu pv) (easy || not (eqb sp 0)) (eq-eqb pu pv (p ∙ R.1.0 ∙ sym q))
              (true-some easy sp (λ h. omega (arith, R.1.1 (ltb-false u sh.cards (sym i ∙ h))))),
          R.0.1,
        );
  }
  up-leads true {u} {v} {pu} {pv} {sp} {easy} p q l is i k = record {
    yes = λ h.
        let w = and-true (eqb pu pv) (easy || not (eqb sp 0)) h in
        down-open Res (kept_of ch) (spare_of sh t) v u l (sym is) (sym q ∙ sym (eqb-true pu pv w.0) ∙ p)
        (λ m. omega (arith, some-true easy sp w.1 (i ∙ lt-leb sh.cards u m)));
    only = λ w A.
        let R = down-told Res (kept_of ch) (spare_of sh t) v u l (sym is) A in (
          true-and (eqb pu pv) (easy || not (eqb sp 0)) (eq-eqb pu pv (p ∙ sym R.1.0 ∙ sym q))
              (true-some easy sp (λ h. omega (arith, R.1.1 (leb-false sh.cards u (sym i ∙ h))))),
          R.0.0,
        );
  }

  pub down-leads :
      (back : Bool) {u v sp : ℕ} {easy : Bool} → ChildItem Res u (sh.rows + v) →
      easy ≡ pick back (ltb v sh.cards) (leb sh.cards v) → sp ≡ spare_of sh t v →
      Leads sh back ch sheet t (fall_at (net_of sh t) back v) u v (easy || not (eqb sp 0))
  down-leads back {u} {v} {sp} {easy} C i k = down-of back i
    where
      same : C.v ≡ v
      same = omega (arith, C.code)

      l : v < sh.groups
      l = omega (arith, C.group, same)

      is : parent_of sh t v ≡ u
      is = ap (parent_of sh t) (sym same) ∙ C.at

      even : price_of sh sheet u ≡ price_of sh sheet v
      even = ap (price_of sh sheet) (sym C.at) ∙ C.even ∙ ap (price_of sh sheet) same

      down-of :
          (back : Bool) → easy ≡ pick back (ltb v sh.cards) (leb sh.cards v) →
          Leads sh back ch sheet t (fall_at (net_of sh t) back v) u v (easy || not (eqb sp 0))
      down-of false i = record {
        yes = λ h.
            down-open Res (kept_of ch) (spare_of sh t) u v l is even
            (λ m. omega (arith, some-true easy sp h (i ∙ lt-leb sh.cards v m)));
        only = λ w A.
            let D = down-told Res (kept_of ch) (spare_of sh t) u v l is A in
            (true-some easy sp (λ h. omega (arith, D.1.1 (leb-false sh.cards v (sym i ∙ h)))), D.0.1);
      }
      down-of true i = record {
        yes = λ h.
            up-open Res (kept_of ch) (spare_of sh t) v u l (sym is) (sym even)
            (λ m. omega (arith, some-true easy sp h (i ∙ le-ltb v sh.cards m)));
        only = λ w A.
            let D = up-told Res (kept_of ch) (spare_of sh t) v u l (sym is) A in
            (true-some easy sp (λ h. omega (arith, D.1.1 (ltb-false v sh.cards (sym i ∙ h)))), D.0.0);
      }

  pub row-leads :
      (back : Bool) {u v c x y : ℕ} → Formed (net_of sh t) → Ends sh back t c u v x → sh.free ≤ c → RowItem Res u c →
      y ≡ kept_of ch c → Leads sh back ch sheet t (sh.groups + c) u v (eqb y x)
  row-leads false {u} {v} {c} {x} {y} f E m R j = record {
    yes = λ h. row_open Res (kept_of ch) (spare_of sh t) f c u v x E.row E.ends (sym j ∙ eqb-true y x h) m R.even;
    only = λ w A.
        let L = row_told Res (kept_of ch) (spare_of sh t) f c u v x E.row E.ends A (inl refl) in
        (eq-eqb y x (j ∙ L.1), L.0.1);
  }
  row-leads true {u} {v} {c} {x} {y} f E m R j = record {
    yes = λ h. row_open Res (kept_of ch) (spare_of sh t) f c v u x E.row turned (sym j ∙ eqb-true y x h) m R.even;
    only = λ w A.
        let L = row_told Res (kept_of ch) (spare_of sh t) f c v u x E.row turned A (inr refl) in
        (eq-eqb y x (j ∙ L.1), L.0.0);
  }
    where
      turned : ((x ≡ 0) × ((v ≡ card_of sh t c) × (u ≡ shop_of sh t c))) ⊎ ((x ≡ 1) × ((v ≡ shop_of sh t c) × (u ≡ card_of sh t c)))
      turned = ⊎_elim (λ w. inr (w.0, (w.1.1, w.1.0))) (λ w. inl (w.0, (w.1.1, w.1.0))) E.ends
