-- Laws of the sieve.
--   source-same sides-same  in another list with the same network
--   Changed ..             what a search and a new label for the reached nodes do to the labels
--   sides-of               the nodes that reach the sink get their label
--   reach-backward         the nodes that a search against the arcs from the sink reaches
use mathlib.Core.Path.{◌≡◌, sym, ◌∙◌}
use mathlib.Core.Logic.{◌⊎◌, inl, inr, ◌≢◌, ⊎_elim}
use mathlib.Core.Bool.{true}
use Prim.Native.Nat.{ℕ, zero, suc, ◌+◌, ◌<◌}
use native.Mathlib.Omega.{arith}
use Rattle.theory.specs.Formed.{Formed}
use Rattle.theory.specs.Residual.{Residual, Arc}
use Rattle.theory.proofs.CutLaws.{tail-node, head-node}
use Rattle.exchange.specs.Plain.{Backward}
use Rattle.exchange.specs.Plain.Backward.{sink, homeward}
use Rattle.look.specs.Reach.{Reach}
use Rattle.labels.specs.Label.{from_source, to_sink}
use Rattle.holders.specs.Find.{SourceSide, Sides}

pub source-same :
    {r r' : Residual} {S f f' label : ℕ → ℕ} → r' ≡ r → f' ≡ f → SourceSide r S f label → SourceSide r' S f' label
source-same e p A = rw (e, p) A

pub sides-same :
    {r r' : Residual} {S f f' label : ℕ → ℕ} → r' ≡ r → f' ≡ f → Sides r S f label → Sides r' S f' label
sides-same e p A = rw (e, p) A

module _ {r : Residual} {S spare pred queue : ℕ → ℕ} {h n : ℕ} (R : Reach true r S spare pred queue h n) where
  pub reach-backward :
      queue 0 ≡ r.net.groups + 1 → (k i : ℕ) → i < k → i < n → Backward r S spare (queue i)
  reach-backward e zero i l m = absurd (omega arith)
  reach-backward e (suc k) zero l m = rw e sink
  reach-backward e (suc k) (suc i) l m =
      let c = R.come (suc i) m (omega arith) in
      homeward c.by (queue (suc i)) (queue c.j)
      (reach-backward e k c.j (omega (arith, c.before)) (omega (arith, c.before))) c.arc

-- the nodes with a pred had the label 0 and have x, and the others have the label that they had
abbrev pub Changed : Residual → (ℕ → ℕ) → (ℕ → ℕ) → (ℕ → ℕ) → ℕ → Type 0
Changed r pred label label' x =
    (v : ℕ) → v < r.net.groups + 2 →
    ((0 < pred v) × ((label v ≡ 0) × (label' v ≡ x))) ⊎ ((pred v ≡ 0) × (label' v ≡ label v))

module _
    {r : Residual} (f : Formed r.net) {S spare label : ℕ → ℕ} (A : SourceSide r S spare label) (pred label' : ℕ → ℕ)
    (C : Changed r pred label label' to_sink)
  where
    stays : (v : ℕ) → v < r.net.groups + 2 → label v ≢ 0 → label' v ≡ label v
    stays v l n = elim (C v l) [ inl w ↦ absurd (n w.1.0) | inr w ↦ w.1 ]

    -- one of two labels
    not-sink : (v : ℕ) → v < r.net.groups + 2 → label v ≢ to_sink
    not-sink v l e = ⊎_elim (λ z. omega arith) (λ p. omega (arith, p.0)) (A.named v l)

    pub sides-of :
        0 < pred (r.net.groups + 1) → ((v : ℕ) → v < r.net.groups + 2 → 0 < pred v → Backward r S spare v) →
        ((e u v : ℕ) → Arc r S spare e u v 0 → 0 < pred v → label u ≡ 0 → 0 < pred u) → Sides r S spare label'
    sides-of start back closed = record {
      named = λ v l.
          elim (C v l) [
            | inl w ↦ inr (inr (w.1.1, back v l w.0))
            | inr w ↦ elim (A.named v l) [ inl e ↦ inl (w.1 ∙ e) | inr p ↦ inr (inl (w.1 ∙ p.0, p.1)) ]
          ];
      source = stays r.net.groups (omega arith) (λ e. omega (arith, A.source)) ∙ A.source;
      sink = elim (C (r.net.groups + 1) (omega arith)) [ inl w ↦ w.1.1 | inr w ↦ absurd (omega (arith, w.0)) ];
      ahead = λ e u v a h.
          let was : label u ≡ from_source =
          elim (C u (tail-node r S spare f e u v 0 a)) [ inl w ↦ absurd (omega (arith, w.1.1)) | inr w ↦ sym w.1 ∙ h ] in
          let is : label v ≡ from_source = A.ahead e u v a was in
          stays v (head-node r S spare f e u v 0 a) (λ z. omega arith) ∙ is;
      behind = λ e u v a h.
          elim (C v (head-node r S spare f e u v 0 a)) [
            | inr w ↦ absurd (not-sink v (head-node r S spare f e u v 0 a) (sym w.1 ∙ h))
            | inl w ↦
                elim (C u (tail-node r S spare f e u v 0 a)) [
                  | inl y ↦ y.1.1
                  | inr y ↦
                      elim (A.named u (tail-node r S spare f e u v 0 a)) [
                        | inl z ↦ absurd (omega (arith, y.0, closed e u v a w.0 z))
                        | inr p ↦ absurd (omega (arith, w.1.0, A.ahead e u v a p.0))
                      ]
                ]
          ];
    }
