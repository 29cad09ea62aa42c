-- Networks as proofs need them.
--   CardNode d u, ShopNode d u     u is a node of the card side, or of the shop side: a group of it or its root
--   Formed d               parents are smaller nodes of the same side or that side's root, and rows hang at nodes of their side. The
--                          network of every accepted file is (`sound-formed`, claimfile)
--   Alike d e              two networks of the same size that agree at every group and every row
use Rattle.std.specs.Prelude.{◌≡◌, ◌⊎◌, ℕ, ◌+◌, ◌≤◌, ◌<◌}
use Rattle.theory.specs.Network.{Network}

abbrev pub CardNode : Network → ℕ → Type 0
CardNode d u = (u < d.cards) ⊎ (u ≡ d.groups)

abbrev pub ShopNode : Network → ℕ → Type 0
ShopNode d u = ((d.cards ≤ u) × (u < d.groups)) ⊎ (u ≡ d.groups + 1)

pub record Formed (d : Network) : Type 0 where
  pub sides : d.cards ≤ d.groups
  pub card_parent : (v : ℕ) → v < d.cards → (d.parent v < v) ⊎ (d.parent v ≡ d.groups)
  pub shop_parent :
      (v : ℕ) → d.cards ≤ v → v < d.groups →
      ((d.cards ≤ d.parent v) × (d.parent v < v)) ⊎ (d.parent v ≡ d.groups + 1)
  pub card_node : (c : ℕ) → c < d.rows → CardNode d (d.card c)
  pub shop_node : (c : ℕ) → c < d.rows → ShopNode d (d.shop c)

pub record Alike (d e : Network) : Type 0 where
  pub cards : d.cards ≡ e.cards
  pub groups : d.groups ≡ e.groups
  pub rows : d.rows ≡ e.rows
  pub parent : (v : ℕ) → v < d.groups → d.parent v ≡ e.parent v
  pub card : (c : ℕ) → c < d.rows → d.card c ≡ e.card c
  pub shop : (c : ℕ) → c < d.rows → d.shop c ≡ e.shop c
