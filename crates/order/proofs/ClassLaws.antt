-- Laws of the classes of nodes over the buffers.
--   Ranked n label rank next   of n nodes those of one rank have one label, and the labels are those of `next` classes
--   Split label label' R b x v     node v is in R, had the label b and has the label x; or it is outside and has its old label
--   ranked-same            labels that stay
--   Parts rank R rank'     a rank that parts the nodes of each rank into those in R and those outside
--   parts_in parts_out     the nodes in R above those outside, and the other way round
--   ranked-split           the nodes of a set, which had one label, get the label of a new class
--   classes-of classes-ranked      the classes, by their ranks
--   classes-one            all nodes in one class
--   classes-next           one row less may be turned
--   classes-same           the same residual network, places and labels
--   classes-shape          no class reads the first free row, nor the label of the fresh nodes
--   classes-rise           where an open arc leads between two nodes of different classes, the rank rises
--   sorted-equal           the same residual network and places
use mathlib.Core.Path.{◌≡◌, refl, sym, ap, ◌∙◌}
use mathlib.Core.Logic.{◌⊎◌, inl, inr, ⊎_elim, ◌≢◌}
use mathlib.Core.List.{List}
use Prim.Native.Nat.{ℕ, ◌+◌, ◌*◌, ◌-◌, ◌≤◌, ◌<◌}
use native.Mathlib.Decide.{dec_lt}
use native.Mathlib.Omega.{arith}
use Rattle.theory.specs.Residual.{Residual, Arc, freed}
use Rattle.theory.specs.Class.{Sorted, split}
use Rattle.theory.proofs.ClassLaws.{split-same, split-apart, sorted-same, sorted-freed}
use Rattle.scratch.specs.declared.Shape.{Shape}
use Rattle.scratch.specs.Map.{span, label_of, spare_of, kept_of}
use Rattle.scratch.specs.View.{residual_of}
use Rattle.prices.specs.State.{with_class}
use Rattle.order.specs.Order.{Classes}

--------------------------------------------------------------------------------
-- Ranks and labels

pub record Ranked (n : ℕ) (label rank : ℕ → ℕ) (next : ℕ) : Type 0 where
  pub alike : (u v : ℕ) → u < n → v < n → label u ≡ label v → rank u ≡ rank v
  pub apart : (u v : ℕ) → u < n → v < n → rank u ≡ rank v → label u ≡ label v
  pub named : (v : ℕ) → v < n → (k : ℕ) × (label v ≡ 2 * span * k) × (k < next)

abbrev pub Split : (ℕ → ℕ) → (ℕ → ℕ) → (ℕ → ℕ) → ℕ → ℕ → ℕ → Type 0
Split label label' R b x v =
    ((0 < R v) × ((label v ≡ b) × (label' v ≡ x))) ⊎ ((R v ≡ 0) × (label' v ≡ label v))

-- two nodes have one rank in rank' where they have one in rank and are both in R or both outside
pub record Parts (rank R rank' : ℕ → ℕ) : Type 0 where
  pub agree :
      (u v : ℕ) → rank u ≡ rank v → ((0 < R u) × (0 < R v)) ⊎ ((R u ≡ 0) × (R v ≡ 0)) → rank' u ≡ rank' v
  pub differ : (u v : ℕ) → rank' u ≡ rank' v → (rank u ≡ rank v) × ((0 < R u → 0 < R v) × (0 < R v → 0 < R u))

module _ (rank R : ℕ → ℕ) where
  pub parts_in : Parts rank R (split rank R)
  parts_in = record { agree = λ u v e h. split-same rank R e h; differ = λ u v e. split-apart rank R e }

  -- the nodes outside R come above those in R
  pub parts_out : Parts rank R (split rank (λ v. 1 - R v))
  parts_out = record {
    agree = λ u v e h.
        split-same rank (λ v. 1 - R v) e
        (⊎_elim (λ p. inr (omega (arith, p.0), omega (arith, p.1))) (λ p. inl (omega (arith, p.0), omega (arith, p.1))) h);
    differ = λ u v e.
        let w = split-apart rank (λ v. 1 - R v) e in
        (w.0, (back w.1.1, back w.1.0));
  }
    where
      back : {u v : ℕ} → (0 < 1 - R v → 0 < 1 - R u) → 0 < R u → 0 < R v
      back {u} {v} f l = elim (dec_lt 0 (R v)) [ yes k ↦ k | no k ↦ absurd (omega (arith, f (omega arith))) ]

module _ {n next : ℕ} {label label' rank : ℕ → ℕ} (K : Ranked n label rank next) where
  pub ranked-same : ((v : ℕ) → v < n → label' v ≡ label v) → Ranked n label' rank next
  ranked-same same = record {
    alike = λ u v l m e. K.alike u v l m (sym (same u l) ∙ e ∙ same v m);
    apart = λ u v l m e. same u l ∙ K.apart u v l m e ∙ sym (same v m);
    named = λ v l. let k = K.named v l in (k.0, same v l ∙ k.1, k.2);
  }

  module _
      {rank' R : ℕ → ℕ} {b : ℕ} (parts : Parts rank R rank') (splits : (v : ℕ) → v < n → Split label label' R b (2 * span * next) v)
    where
      alike : (u v : ℕ) → u < n → v < n → label' u ≡ label' v → rank' u ≡ rank' v
      alike u v l m e = go (splits u l) (splits v m)
        where
          go :
              Split label label' R b (2 * span * next) u → Split label label' R b (2 * span * next) v →
              rank' u ≡ rank' v
          go (inl p) (inl q) = parts.agree u v (K.alike u v l m (p.1.0 ∙ sym q.1.0)) (inl (p.0, q.0))
          go (inl p) (inr q) = absurd (omega (arith, p.1.1, q.1, (K.named v m).1, (K.named v m).2))
          go (inr p) (inl q) = absurd (omega (arith, q.1.1, p.1, (K.named u l).1, (K.named u l).2))
          go (inr p) (inr q) = parts.agree u v (K.alike u v l m (sym p.1 ∙ e ∙ q.1)) (inr (p.0, q.0))

      apart : (u v : ℕ) → u < n → v < n → rank' u ≡ rank' v → label' u ≡ label' v
      apart u v l m e = go (splits u l) (splits v m) (parts.differ u v e)
        where
          go :
              Split label label' R b (2 * span * next) u → Split label label' R b (2 * span * next) v →
              (rank u ≡ rank v) × ((0 < R u → 0 < R v) × (0 < R v → 0 < R u)) → label' u ≡ label' v
          go (inl p) (inl q) h = p.1.1 ∙ sym q.1.1
          go (inl p) (inr q) h = absurd (omega (arith, q.0, h.1.0 p.0))
          go (inr p) (inl q) h = absurd (omega (arith, p.0, h.1.1 q.0))
          go (inr p) (inr q) h = p.1 ∙ K.apart u v l m h.0 ∙ sym q.1

      named : (v : ℕ) → v < n → (k : ℕ) × (label' v ≡ 2 * span * k) × (k < next + 1)
      named v l = go (splits v l) (K.named v l)
        where
          go :
              Split label label' R b (2 * span * next) v → (k : ℕ) × (label v ≡ 2 * span * k) × (k < next) →
              (k : ℕ) × (label' v ≡ 2 * span * k) × (k < next + 1)
          go (inl p) k = (next, p.1.1, omega arith)
          go (inr p) k = (k.0, p.1 ∙ k.1, omega (arith, k.2))

      pub ranked-split : Ranked n label' rank' (next + 1)
      ranked-split = record { alike = alike; apart = apart; named = named }

--------------------------------------------------------------------------------
-- The classes of the buffers

pub sorted-equal :
    {r r' : Residual} {S f f' rank : ℕ → ℕ} → r' ≡ r → f' ≡ f → Sorted r S f rank → Sorted r' S f' rank
sorted-equal e p A = rw (e, p) A

pub classes-of :
    {sh : Shape} {ch sheet t : List ℕ} {i next : ℕ} {rank : ℕ → ℕ} → next ≤ i + 1 →
    Sorted (freed (residual_of sh sheet t) i) (kept_of ch) (spare_of sh t) rank →
    Ranked (sh.groups + 2) (label_of sh t) rank next → Classes sh ch sheet t i next
classes-of {rank = rank} few sorted K = record {
  rank = rank;
  sorted = sorted;
  alike = K.alike;
  apart = K.apart;
  named = K.named;
  few = few;
}

pub classes-one :
    {sh : Shape} {ch sheet t : List ℕ} → ((v : ℕ) → v < sh.groups + 2 → label_of sh t v ≡ 0) → Classes sh ch sheet t 0 1
classes-one {sh} {ch} {sheet} {t} one = record {
  rank = λ v. 0;
  sorted = sorted-same (freed (residual_of sh sheet t) 0) (kept_of ch) (spare_of sh t);
  alike = λ u v l m e. refl;
  apart = λ u v l m e. one u l ∙ sym (one v m);
  named = λ v l. (0, one v l, omega arith);
  few = omega arith;
}

module _ {sh : Shape} {ch sheet t : List ℕ} {i next : ℕ} (C : Classes sh ch sheet t i next) where
  pub classes-ranked : Ranked (sh.groups + 2) (label_of sh t) C.rank next
  classes-ranked = record { alike = C.alike; apart = C.apart; named = C.named }

  -- the ranks where the rows from m on may be turned
  pub classes-freed :
      (m : ℕ) → i ≤ m → Sorted (freed (residual_of sh sheet t) m) (kept_of ch) (spare_of sh t) C.rank
  classes-freed m l = sorted-freed (residual_of sh sheet t) (kept_of ch) (spare_of sh t) i m l C.sorted

  pub classes-next : Classes sh ch sheet t (i + 1) next
  classes-next = classes-of (omega (arith, C.few)) (classes-freed (i + 1) (omega arith)) classes-ranked

  pub classes-rise :
      (e u v : ℕ) → u < sh.groups + 2 → v < sh.groups + 2 →
      Arc (freed (residual_of sh sheet t) i) (kept_of ch) (spare_of sh t) e u v 0 → label_of sh t u ≢ label_of sh t v →
      C.rank u < C.rank v
  classes-rise e u v l m A other =
      let not : C.rank u ≢ C.rank v = λ k. other (C.apart u v l m k) in
      omega (arith, C.sorted e u v A, not)

pub classes-same :
    {sh : Shape} {ch sheet t t' : List ℕ} {i next : ℕ} → residual_of sh sheet t' ≡ residual_of sh sheet t →
    spare_of sh t' ≡ spare_of sh t → label_of sh t' ≡ label_of sh t → Classes sh ch sheet t i next → Classes sh ch sheet t' i next
classes-same {i = i} e p q C =
    classes-of C.few (sorted-equal (ap (λ (r : Residual). freed r i) e) p C.sorted)
    (ranked-same (classes-ranked C) (λ v l. ap (λ (f : ℕ → ℕ). f v) q))

pub classes-shape :
    (sh : Shape) (m b : ℕ) {ch sheet t : List ℕ} {i next : ℕ} → Classes sh ch sheet t i next →
    Classes (with_class sh m b) ch sheet t i next
classes-shape sh m b C = classes-of C.few C.sorted (classes-ranked C)
