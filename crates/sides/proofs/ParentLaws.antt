-- Laws of the parents of a side.
--   parent-lower parent-root   the parent by the number in a group's record
--   parent_above               it is the node above the group, among the groups of its own side
--   side-rooted side-down      a side's parents make a forest
use mathlib.Core.Path.{◌≡◌, sym, ap}
use mathlib.Core.List.{List}
use mathlib.Core.Logic.{inl, inr}
use Prim.Native.Nat.{ℕ, ◌≤◌, ◌<◌}
use native.Mathlib.Decide.{dec_lt}
use native.Mathlib.Nat.{zero-add}
use native.Mathlib.Omega.{arith}
use lib.Dec.{ltb}
use borrow.Author.Tests.{lt-ltb, le-ltb}
use Rattle.theory.specs.Sum.{pick}
use Rattle.theory.specs.Forest.{Down}
use Rattle.theory.specs.Rise.{Rooted}
use Rattle.theory.proofs.LandLaws.{rooted-down}
use Rattle.claimfile.specs.Day.{count_of, group_of, above}
use Rattle.claimfile.specs.declared.Layout.{Layout}
use Rattle.sides.specs.Side.{parent_by, parent_in}

module _ (G u h : ℕ) where
  pub parent-lower : u < h → u ≡ parent_by G u h
  parent-lower m = rw (lt-ltb _ _ m)

  pub parent-root : h ≤ u → G ≡ parent_by G u h
  parent-root m = rw (le-ltb _ _ m)

  pub parent_above : above h u 0 G ≡ parent_by G u h
  parent_above = ap (λ (x : ℕ). pick (ltb u h) x G) (zero-add u)

module _ (s : List ℕ) (l : Layout) (side : ℕ) where
  parent_is : (h : ℕ) → (group_of s l side h).parent < h → parent_in s l side h ≡ (group_of s l side h).parent
  parent_is h m = sym (parent-lower (count_of l side) (group_of s l side h).parent h m)

  parent-top : (h : ℕ) → h ≤ (group_of s l side h).parent → parent_in s l side h ≡ count_of l side
  parent-top h m = sym (parent-root (count_of l side) (group_of s l side h).parent h m)

  pub side-rooted : Rooted (count_of l side) (parent_in s l side)
  side-rooted v m =
      elim (dec_lt (group_of s l side v).parent v) [
        | yes h ↦ inl (omega (arith, parent_is v h))
        | no h ↦ inr (parent-top v (omega arith))
      ]

  pub side-down : Down (count_of l side) (parent_in s l side)
  side-down = rooted-down (count_of l side) (parent_in s l side) side-rooted
