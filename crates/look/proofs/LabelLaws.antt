-- Laws of labels, and of what becomes of them in a search.
--   arc-in-low arc-in-some     a label of a class lies above that of its fresh nodes, by less than the span
--   arc-in-fresh arc-in-more   a fresh node is not reached; one that is reached by arc e has e + 1
--   pred-puts              one label more is one node more
--   spread_none spread-then spread-puts    a search that goes on, and by one node
--   spread-stale           a node that is not fresh stays so
use mathlib.Core.Path.{◌≡◌, refl, sym, ap, ◌∙◌}
use mathlib.Core.Logic.{◌≢◌, inl, inr, ⊎_elim}
use Prim.Native.Nat.{ℕ, ◌+◌, ◌-◌, ◌≤◌, ◌<◌}
use native.Mathlib.Decide.{dec_lt}
use native.Mathlib.Omega.{arith}
use Rattle.theory.specs.Turn.{Puts}
use Rattle.theory.proofs.TurnLaws.{puts-at}
use Rattle.scratch.specs.Map.{span, arc_in}
use Rattle.scratch.proofs.MapLaws.{arc-in-near, arc-in-far}
use Rattle.look.specs.Reach.{pred_in, Spread}

pub arc-in-low : (b x : ℕ) → x ≤ b → arc_in b x ≡ 0
arc-in-low b x l = omega (arith, arc-in-near b x (omega arith))

pub arc-in-some : (b x : ℕ) → 0 < arc_in b x → (b < x) × (x < b + span)
arc-in-some b x some =
    elim (dec_lt (x - b) span) [
      | yes l ↦ (omega (arith, arc-in-near b x l), omega arith)
      | no l ↦ absurd (omega (arith, arc-in-far b x (omega arith)))
    ]

pub arc-in-fresh : (b : ℕ) → arc_in b b ≡ 0
arc-in-fresh b = arc-in-low b b (omega arith)

pub arc-in-more : (b e : ℕ) → e + 1 < span → arc_in b (b + e + 1) ≡ e + 1
arc-in-more b e l = omega (arith, arc-in-near b (b + e + 1) (omega arith))

module _ (b : ℕ) where
  pub pred-puts :
      (label label' : ℕ → ℕ) (v e : ℕ) → e + 1 < span → Puts label label' v (b + e + 1) →
      Puts (pred_in b label) (pred_in b label') v (e + 1)
  pred-puts label label' v e l P = record {
    here = ap (arc_in b) P.here ∙ arc-in-more b e l;
    else = λ i n. ap (arc_in b) (P.else i n);
  }

  pub spread_none : (label : ℕ → ℕ) → Spread b label label
  spread_none label v = inl refl

  pub spread-then : (p q r : ℕ → ℕ) → Spread b p q → Spread b q r → Spread b p r
  spread-then p q r A B v =
      ⊎_elim
      (λ e. ⊎_elim (λ d. inl (e ∙ d)) (λ d. inr (d.0, omega (arith, ap (arc_in b) e, d.1))) (A v))
      (λ w. ⊎_elim (λ d. inr (sym d ∙ w.0, w.1)) (λ d. inr (d.0, w.1)) (A v))
      (B v)

  module _ (label label' : ℕ → ℕ) where
    pub spread-puts : (v e : ℕ) → label v ≡ b → e + 1 < span → Puts label label' v (b + e + 1) → Spread b label label'
    spread-puts v e z l P x =
        ⊎_elim
        (λ w. inr (ap label w.0 ∙ z, omega (arith, ap (arc_in b) w.1, arc-in-more b e l)))
        (λ w. inl w.1)
        (puts-at P x)

    pub spread-stale : Spread b label label' → (v : ℕ) → label v ≢ b → label' v ≢ b
    spread-stale A v n z = ⊎_elim (λ e. n (sym e ∙ z)) (λ w. n w.0) (A v)
