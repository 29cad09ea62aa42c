-- Laws of the way up from a group of a side.
--   UpsTo                      the parents of the groups before g
--   lists-none lists-up        the groups from g up as a list: none from a root; g, and those from its parent up
--   climbed-top climbed-up     one law for each branch of the walk
--   climbed-chain chained-none the walk from the group where a row hangs lists the groups that it counts in; a row at the top has none
use mathlib.Core.Path.{◌≡◌, sym, ◌∙◌, ap, subst}
use mathlib.Core.List.{List}
use mathlib.Core.Logic.{inl, inr}
use Prim.Native.Nat.{ℕ, ◌+◌, ◌≤◌, ◌<◌}
use native.Mathlib.Decide.{ℕ_discrete}
use native.Mathlib.Nat.{le_refl}
use native.Mathlib.Omega.{arith}
use lib.ListN.{length, set}
use lib.Seq.{get_or-set_same, get_or-set_other}
use Rattle.theory.specs.Bounds.{max_groups}
use Rattle.theory.specs.Forest.{Down}
use Rattle.theory.specs.Matroid.{row}
use Rattle.theory.proofs.ForestLaws.{chain-out, up_one, up-own, up_next, up_split}
use Rattle.claimfile.specs.Day.{count_of}
use Rattle.claimfile.specs.declared.Layout.{Layout}
use Rattle.sides.specs.Side.{parent_in, up_in, hangs}
use Rattle.sides.proofs.ParentLaws.{side-rooted, side-down}
use Rattle.spare.specs.Chain.{Ups, Lists, Climbed, Chained}

--------------------------------------------------------------------------------
-- The groups from g up as a list

-- the parents of the groups before g
abbrev pub UpsTo : List ℕ → Layout → ℕ → List ℕ → ℕ → Type 0
UpsTo s l side ups g = (h : ℕ) → h < g → row ups h ≡ parent_in s l side h

-- there is none from a root up
lists-none : (s : List ℕ) (l : Layout) (side g n : ℕ) (list : List ℕ) → count_of l side ≤ g → Lists s l side g n n list
lists-none s l side g n list root =
    record {
      each = λ j m k. absurd (omega arith);
      all = λ h m e. absurd (omega (arith, chain-out (count_of l side) (parent_in s l side) (side-down s l side) g h root));
    }

-- group g in cell n, and those from its parent up behind it
lists-up :
    (s : List ℕ) (l : Layout) (side g n r : ℕ) (list : List ℕ) → g < count_of l side → row list n ≡ g → n < r →
    Lists s l side (parent_in s l side g) (n + 1) r list → Lists s l side g n r list
lists-up s l side g n r list inside here some rest =
    record {
      each = λ j m k.
          elim (ℕ_discrete n j) [
            | yes q ↦ subst On (sym here ∙ ap (row list) q) (inside, one g (up-own down g inside))
            | no q ↦
                let behind = rest.each j (omega arith) k in
                (behind.0, one (row list j) (up_next down g inside (row list j) (omega (arith, behind.1))))
          ];
      all = λ h m e.
          elim (up_split down g inside h (omega arith)) [
            | inl q ↦ (n, le_refl n, some, here ∙ q)
            | inr o ↦
                let behind = rest.all h m (up_one down (parent_in s l side g) h o) in
                (behind.0, omega (arith, behind.1), behind.2, behind.3)
          ];
    }
  where
    On : ℕ → Type 0
    On v = (v < count_of l side) × (up_in s l side g v ≡ 1)

    down : Down (count_of l side) (parent_in s l side)
    down = side-down s l side

    one : (v : ℕ) → 1 ≤ up_in s l side g v → up_in s l side g v ≡ 1
    one = up_one down g

-- one law for each branch of the walk; u is the number beside group g
module _ (ups : List ℕ) (g n u : ℕ) (list : List ℕ) (long : n < length list) (beside : u ≡ row ups g) where
  pub climbed-top : g ≤ u → Climbed ups g n list (set list n g) (n + 1)
  climbed-top m =
      record {
        some = omega arith;
        most = omega arith;
        old = λ j k. get_or-set_other list n j g 0 (λ e. omega arith);
        lists = λ s l side up inside.
            lists-up s l side g n (n + 1) (set list n g) inside (get_or-set_same list n g 0 long) (omega arith)
            (lists-none s l side (parent_in s l side g) (n + 1) (set list n g) (root s l side inside (beside ∙ up g inside)));
      }
    where
      root :
          (s : List ℕ) (l : Layout) (side : ℕ) → g < count_of l side → u ≡ parent_in s l side g →
          count_of l side ≤ parent_in s l side g
      root s l side inside e =
          elim (side-rooted s l side g inside) [ inl d ↦ absurd (omega arith) | inr d ↦ omega arith ]

  pub climbed-up :
      u < g → (list' : List ℕ) (r : ℕ) → Climbed ups u (n + 1) (set list n g) list' r → Climbed ups g n list list' r
  climbed-up m list' r c =
      record {
        some = omega (arith, c.some);
        most = omega (arith, c.most);
        old = λ j k. c.old j (omega arith) ∙ get_or-set_other list n j g 0 (λ e. omega arith);
        lists = λ s l side up inside.
            let e : u ≡ parent_in s l side g = beside ∙ up g inside in
            lists-up s l side g n r list' inside (c.old n (omega arith) ∙ get_or-set_same list n g 0 long) (omega (arith, c.some))
            (subst (λ v. Lists s l side v (n + 1) r list') e (c.lists s l side up (omega arith)));
      }

pub climbed-chain :
    (s : List ℕ) (l : Layout) (side x : ℕ) (ups : List ℕ) → Ups s l side ups → (g : ℕ) → g ≡ hangs s l side x →
    hangs s l side x < count_of l side → count_of l side ≤ max_groups → (list list' : List ℕ) (r : ℕ) → Climbed ups g 0 list list' r →
    Chained s l side x list' r
climbed-chain s l side x ups up g is inside few list list' r c =
    record {
      most = omega (arith, c.most);
      lists = subst (λ v. Lists s l side v 0 r list') is (c.lists s l side up (omega arith));
    }

pub chained-none :
    (s : List ℕ) (l : Layout) (side x : ℕ) (list : List ℕ) → count_of l side ≤ hangs s l side x → Chained s l side x list 0
chained-none s l side x list root =
    record { most = omega arith; lists = lists-none s l side (hangs s l side x) 0 list root }
