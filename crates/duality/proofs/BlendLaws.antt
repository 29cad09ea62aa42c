-- Prices that are f on one side and g on the other. A node and its parent are of one side, so what holds of f and of g along the chains holds
-- of both together.
--   blend_on blend-off     a blend on its side, and on the other
--   blend-pair             at two nodes of one side it is as f and g are there
--   blend-along            it is the same at a node and its parent where f and g are
--   blend-rising           it rises where f and g do
use mathlib.Core.Path.{◌≡◌, refl, sym, ◌∙◌}
use mathlib.Core.Logic.{◌≢◌}
use Prim.Native.Nat.{ℕ, ◌≤◌, ◌<◌}
use native.Mathlib.Decide.{ℕ_discrete}
use Rattle.theory.specs.Network.{Network}
use Rattle.theory.specs.Formed.{Formed}
use Rattle.theory.specs.Level.{Rising}
use Rattle.duality.specs.Prices.{side_of, blend}
use Rattle.duality.proofs.PriceLaws.{side-along}

pub blend_on : (side : ℕ → ℕ) (t : ℕ) (f g : ℕ → ℕ) (u : ℕ) → side u ≡ t → blend side t f g u ≡ f u
unfolding blend
blend_on side t f g u h = go (ℕ_discrete (side u) t)
  where
    go : (d : Dec (side u ≡ t)) → elim d [ yes e ↦ f u | no e ↦ g u ] ≡ f u
    go (yes e) = refl
    go (no n) = absurd (n h)

pub blend-off : (side : ℕ → ℕ) (t : ℕ) (f g : ℕ → ℕ) (u : ℕ) → side u ≢ t → blend side t f g u ≡ g u
unfolding blend
blend-off side t f g u h = go (ℕ_discrete (side u) t)
  where
    go : (d : Dec (side u ≡ t)) → elim d [ yes e ↦ f u | no e ↦ g u ] ≡ g u
    go (yes e) = absurd (h e)
    go (no n) = refl

module _ (net : Network) (formed : Formed net) (t : ℕ) (f g : ℕ → ℕ) where
  abbrev both : ℕ → ℕ
  both = blend (side_of net) t f g

  blend-pair :
      (R : ℕ → ℕ → Type 0) (u v : ℕ) → side_of net u ≡ side_of net v → R (f u) (f v) → R (g u) (g v) → R (both u) (both v)
  blend-pair R u v e x y =
      elim (ℕ_discrete (side_of net v) t) [
        | yes h ↦ rw (blend_on (side_of net) t f g u (e ∙ h), blend_on (side_of net) t f g v h) x
        | no h ↦ rw (blend-off (side_of net) t f g u (λ k. h (sym e ∙ k)), blend-off (side_of net) t f g v h) y
      ]

  pub blend-along :
      (v : ℕ) → v < net.groups → f v ≡ f (net.parent v) → g v ≡ g (net.parent v) → both v ≡ both (net.parent v)
  blend-along v l = blend-pair ◌≡◌ v (net.parent v) (sym (side-along net formed v l))

  pub blend-rising : Rising net f → Rising net g → Rising net both
  blend-rising rf rg = record {
    up = λ v l. blend-pair ◌≤◌ (net.parent v) v (side-along net formed v l) (rf.up v l) (rg.up v l);
    base = λ u l. blend-pair (λ x y. x ≡ 0) u u refl (rf.base u l) (rg.base u l);
  }
