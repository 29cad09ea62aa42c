-- Laws of turning one arc in the buffers.
--   shifted-less shifted-more      a place is taken, or given back
--   row-turned                     a row goes in or out
--   good-down good-row good-up     what an open arc says of what is to be turned
--   moved                          what turning an open arc does
--   turned_down turned-row turned_up    the same of the pred of a node
use mathlib.Core.Path.{◌≡◌, refl, sym, ap, ◌∙◌}
use mathlib.Core.Logic.{◌⊎◌, inl, inr, ⊎_elim}
use mathlib.Core.Bool.{Bool, true, false}
use mathlib.Core.List.{List}
use Prim.Native.Nat.{ℕ, ◌+◌, ◌-◌, ◌≤◌, ◌<◌}
use native.Mathlib.Decide.{dec_lt}
use native.Mathlib.Omega.{arith}
use lib.Dec.{ltb, leb}
use borrow.Author.Tests.{ltb-true, lt-ltb, le-ltb, leb-true, le-leb, lt-leb}
use Rattle.theory.specs.Formed.{Formed}
use Rattle.theory.specs.Residual.{Residual, Arc}
use Rattle.theory.specs.Turn as turn
use Rattle.theory.specs.Turn.Turned.{rowed, taken, given}
use Rattle.theory.proofs.ResidualLaws.{arc-down, arc-up, arc-row}
use Rattle.theory.proofs.TurnLaws.{puts-falls, puts-rises, turned-flips}
use Rattle.theory.proofs.OpenLaws.{turned-others, turned-back}
use Rattle.scratch.specs.declared.Shape.{Shape}
use Rattle.scratch.specs.Map.{pred_of, spare_of, parent_of, card_of, shop_of, kept_of, spares, Put, PutKept}
use Rattle.scratch.specs.View.{net_of, residual_of}
use Rattle.paths.specs.Flip.{Good, Shifted, RowTurned, Moved, Turned}
use Rattle.scratch.proofs.MapLaws.{keeps-none, put_keeps}

never : {b : Bool} → b ≡ true → b ≡ false → ⊥
never {b} p q = let z : ◌≡◌ {A = ℕ} 0 1 = cc in omega arith

module _ {sh : Shape} {t t' : List ℕ} {v y : ℕ} {takes : Bool} (P : Put sh t t' spares v y) where
  pub shifted-less : takes ≡ true → y + 1 ≡ spare_of sh t v → Shifted sh t t' v takes
  shifted-less b e = record {
    only = put_keeps refl P;
    falls = λ i. puts-falls P.puts e;
    rises = λ i. absurd (never b i);
  }

  pub shifted-more : takes ≡ false → y ≡ spare_of sh t v + 1 → Shifted sh t t' v takes
  shifted-more b e = record {
    only = put_keeps refl P;
    falls = λ i. absurd (never i b);
    rises = λ i. puts-rises P.puts e;
  }

pub row-turned :
    {sh : Shape} {ch t ch' : List ℕ} {c y x : ℕ} → PutKept ch ch' c y → y ≡ 1 - kept_of ch c →
    ((kept_of ch c ≡ 1) × (x ≡ shop_of sh t c)) ⊎ ((kept_of ch c ≡ 0) × (x ≡ card_of sh t c)) → RowTurned sh ch t ch' c x
row-turned P e f = record { long = P.long; puts = rw e at P.puts; from = f }

module _ {sh : Shape} {ch sheet t : List ℕ} {v e : ℕ} (A : Good sh ch sheet t v) (i : e ≡ pred_of sh t v - 1) where
  -- the arc by its number
  good-arc : Arc (residual_of sh sheet t) (kept_of ch) (spare_of sh t) e A.u v 0
  good-arc = let j : e ≡ A.by = omega (arith, A.is) in rw j A.arc

  pub good-down : e < sh.groups → ltb e sh.cards ≡ true → 0 < spare_of sh t e
  good-down l h =
      (arc-down (residual_of sh sheet t) (kept_of ch) (spare_of sh t) e A.u v 0 good-arc l).room (ltb-true e sh.cards h)

  pub good-row : sh.groups ≤ e → e < sh.groups + sh.rows → kept_of ch (e - sh.groups) ≤ 1
  good-row l m =
      ⊎_elim
      (λ I. let j : e - sh.groups ≡ I.c = omega (arith, I.code) in rw j (omega (arith, I.byte)))
      (λ O. let j : e - sh.groups ≡ O.c = omega (arith, O.code) in rw j (omega (arith, O.byte)))
      (arc-row (residual_of sh sheet t) (kept_of ch) (spare_of sh t) e A.u v 0 good-arc l m)

  pub good-up :
      sh.groups + sh.rows ≤ e →
      (e - sh.groups - sh.rows < sh.groups)
      × (leb sh.cards (e - sh.groups - sh.rows) ≡ true → 0 < spare_of sh t (e - sh.groups - sh.rows))
  good-up l =
      let U = arc-up (residual_of sh sheet t) (kept_of ch) (spare_of sh t) e A.u v 0 good-arc l in
      let j : e - sh.groups - sh.rows ≡ A.u = omega (arith, U.code) in
      (rw j U.group, λ h. rw j (U.room (rw j at (leb-true sh.cards (e - sh.groups - sh.rows) h))))

pub moved :
    {r : Residual} → Formed r.net → {S spare S' spare' : ℕ → ℕ} {e u v x : ℕ} → Arc r S spare e u v 0 → x ≡ u →
    turn.Turned r S spare S' spare' e → Moved r S spare S' spare' u v x
moved {r} f A p T = record {
  is = p;
  flip = turned-flips r f A T;
  others = turned-others r A T;
  back = turned-back r A T;
}

module _ {sh : Shape} {ch sheet t : List ℕ} (f : Formed (net_of sh t)) {v e : ℕ} (i : e ≡ pred_of sh t v - 1) where
  pub turned_down :
      {t' : List ℕ} {x : ℕ} → e < sh.groups → x ≡ parent_of sh t e → Shifted sh t t' e (ltb e sh.cards) →
      Turned sh ch sheet t ch t' v x
  turned_down {t'} {x} l p T = record {
    only = T.only;
    long = refl;
    move = λ u B.
        let A : Arc (residual_of sh sheet t) (kept_of ch) (spare_of sh t) e u v 0 = rw (sym i) at B in
        let q : x ≡ u = p ∙ sym (arc-down (residual_of sh sheet t) (kept_of ch) (spare_of sh t) e u v 0 A l).tail in
        elim (dec_lt e sh.cards) [
          | yes h ↦
              moved f A q
              (taken (record { x = e; group = l; way = inl (refl, h); falls = T.falls (lt-ltb e sh.cards h) }) refl)
          | no h ↦
              let m : sh.cards ≤ e = omega arith in
              moved f A q
              (given (record { x = e; group = l; way = inl (refl, m); rises = T.rises (le-ltb e sh.cards m) }) refl)
        ];
  }

  pub turned_up :
      {t' : List ℕ} {x : ℕ} → e ≡ sh.groups + sh.rows + x → x < sh.groups → Shifted sh t t' x (leb sh.cards x) →
      Turned sh ch sheet t ch t' v x
  turned_up {t'} {x} j l T = record {
    only = T.only;
    long = refl;
    move = λ u B.
        let A : Arc (residual_of sh sheet t) (kept_of ch) (spare_of sh t) e u v 0 = rw (sym i) at B in
        let q : x ≡ u =
        omega (arith, (arc-up (residual_of sh sheet t) (kept_of ch) (spare_of sh t) e u v 0 A (omega arith)).code) in
        elim (dec_lt x sh.cards) [
          | yes h ↦
              moved f A q
              (given (record { x = x; group = l; way = inr (j, h); rises = T.rises (lt-leb sh.cards x h) }) refl)
          | no h ↦
              let m : sh.cards ≤ x = omega arith in
              moved f A q
              (taken (record { x = x; group = l; way = inr (j, m); falls = T.falls (le-leb sh.cards x m) }) refl)
        ];
  }

  pub turned-row :
      {ch' : List ℕ} {x c : ℕ} → e ≡ sh.groups + c → c < sh.rows → RowTurned sh ch t ch' c x →
      Turned sh ch sheet t ch' t v x
  turned-row {ch'} {x} {c} j l T = record {
    only = keeps-none;
    long = T.long;
    move = λ u B.
        let A : Arc (residual_of sh sheet t) (kept_of ch) (spare_of sh t) e u v 0 = rw (sym i) at B in
        moved f A (from u A) (rowed (record { c = c; row = l; code = j; puts = T.puts }) refl);
  }
    where
      from : (u : ℕ) → Arc (residual_of sh sheet t) (kept_of ch) (spare_of sh t) e u v 0 → x ≡ u
      from u A =
          ⊎_elim
          (λ I.
          let k : I.c ≡ c = omega (arith, I.code) in
          ⊎_elim
          (λ z. absurd (omega (arith, I.byte, ap (kept_of ch) k, z.0)))
          (λ z. z.1 ∙ sym (ap (card_of sh t) k) ∙ sym I.tail)
          T.from)
          (λ O.
          let k : O.c ≡ c = omega (arith, O.code) in
          ⊎_elim
          (λ z. z.1 ∙ sym (ap (shop_of sh t) k) ∙ sym O.tail)
          (λ z. absurd (omega (arith, O.byte, ap (kept_of ch) k, z.0)))
          T.from)
          (arc-row (residual_of sh sheet t) (kept_of ch) (spare_of sh t) e u v 0 A (omega arith) (omega arith))
