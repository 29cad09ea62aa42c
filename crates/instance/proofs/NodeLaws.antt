-- Laws of what a group means.
--   groups-few             there are at most 512 groups
--   node-small card-cell shop-cell     the node above a group is one of the nodes, and so are the two where a row hangs
--   node-is                the node above a group and its written limit, by its record
use mathlib.Core.Path.{◌≡◌, sym, ap, ◌∙◌}
use mathlib.Core.Logic.{inl, inr}
use mathlib.Core.List.{List}
use Prim.Native.Nat.{ℕ, ◌+◌, ◌*◌, ◌≤◌, ◌<◌}
use native.Mathlib.Decide.{dec_lt}
use native.Mathlib.Omega.{arith}
use Rattle.theory.specs.Bounds.{max_groups}
use Rattle.claimfile.specs.Day.{count_of, group_of, groups_of, first_of, root_of, above}
use Rattle.claimfile.specs.Day.{parent_of, written_of, card_node, shop_node}
use Rattle.claimfile.specs.Sound.{Sound}
use Rattle.claimfile.specs.declared.Group.{Group}
use Rattle.claimfile.specs.declared.Layout.{Layout}
use Rattle.claimfile.proofs.DayLaws.{parent-on, written_on, sound-formed}
use Rattle.instance.specs.Meaning.{nodes}

pub groups-few : {s : List ℕ} {l : Layout} → Sound s l → groups_of l ≤ 2 * max_groups
groups-few sound = omega (arith, sound.cards_most, sound.shops_most)

module _ (s : List ℕ) (l : Layout) (sound : Sound s l) where
  pub node-small : (v : ℕ) → v < groups_of l → parent_of s l v < nodes
  node-small v h =
      elim (dec_lt v l.cards) [
        | yes k ↦
            elim ((sound-formed s l sound).card_parent v k) [
              | inl q ↦ omega (arith, groups-few sound)
              | inr q ↦ omega (arith, groups-few sound)
            ]
        | no k ↦
            elim ((sound-formed s l sound).shop_parent v (omega arith) h) [
              | inl q ↦ omega (arith, q.1, groups-few sound)
              | inr q ↦ omega (arith, groups-few sound)
            ]
      ]

  pub node-is :
      (side own v : ℕ) → own < count_of l side → first_of l side + own ≡ v → v < groups_of l →
      (g : Group) → g ≡ group_of s l side own →
      (up : ℕ) → up ≡ above own g.parent (first_of l side) (root_of l side) →
      (up ≡ parent_of s l v) × (g.limit ≡ written_of s l v) × (up < nodes)
  node-is side own v inside e within g is up by = (
    parent,
    ap (λ (x : Group). x.limit) is ∙ sym (written_on s l side own inside) ∙ ap (written_of s l) e,
    omega (arith, parent, node-small v within),
  )
    where
      parent : up ≡ parent_of s l v
      parent =
          by
          ∙ ap (λ (x : Group). above own x.parent (first_of l side) (root_of l side)) is
          ∙ sym (parent-on s l side own inside)
          ∙ ap (parent_of s l) e

  pub card-cell : (c : ℕ) → c < l.rows → card_node s l c < nodes
  card-cell c h =
      elim ((sound-formed s l sound).card_node c h) [
        | inl n ↦ omega (arith, sound.cards_most)
        | inr n ↦ omega (arith, groups-few sound)
      ]

  pub shop-cell : (c : ℕ) → c < l.rows → shop_node s l c < nodes
  shop-cell c h =
      elim ((sound-formed s l sound).shop_node c h) [
        | inl n ↦ omega (arith, n.1, groups-few sound)
        | inr n ↦ omega (arith, groups-few sound)
      ]
