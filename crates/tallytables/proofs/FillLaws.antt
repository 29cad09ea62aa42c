-- Laws of the cells of an accepted file, by what is read of it.
--   in_table                   a cell by its place in its table
--   parent-none parent_is      the node above a node
--   limit-none limit-alone limit-lowered       its limit, by the cells before it
--   card-none shop-none card-is shop-is        the nodes of a row
use mathlib.Core.Path.{◌≡◌, sym, ap, ◌∙◌}
use mathlib.Core.Logic.{inl, inr}
use mathlib.Core.List.{List}
use Prim.Native.Nat.{ℕ, ◌+◌, ◌-◌, min, ◌<◌, ◌≤◌}
use native.Mathlib.Omega.{arith}
use lib.ListN.{get_or}
use Rattle.theory.specs.Network.{Instance}
use Rattle.theory.proofs.LoweredLaws.{lowered-top, lowered-below}
use Rattle.claimfile.specs.declared.Layout.{Layout}
use Rattle.claimfile.specs.declared.Claim.{Claim}
use Rattle.claimfile.specs.Day.{claim_of, groups_of, parent_of, written_of, limit_of, card_under, card_node, shop_node, network_of, instance_of}
use Rattle.claimfile.proofs.DayLaws.{day-down}
use Rattle.instance.proofs.RowLaws.{card-hung, shop-hung}
use Rattle.tally.specs.Cells.{to_cell, parent_cell, limit_cell, row_cell, cell_of}
use Rattle.tally.proofs.CellLaws.{up-to-in, up-to-past, cell-parent, cell-limit, to-group, to-root}
use Rattle.tallytables.specs.Begin.{Reads}

-- a cell by its place in its table
pub in_table : (i : Instance) (first j : ℕ) → first ≤ j → cell_of i (first + (j - first)) ≡ cell_of i j
in_table i first j h = ap (cell_of i) (omega arith)

--------------------------------------------------------------------------------
-- The cells of a node

module _ (s : List ℕ) (l : Layout) (v : ℕ) where
  pub parent-none : groups_of l ≤ v → 0 ≡ parent_cell (network_of s l) v
  parent-none past = sym (up-to-past (groups_of l) (λ w. to_cell (groups_of l) (parent_of s l w)) v past)

  pub limit-none : groups_of l ≤ v → 0 ≡ limit_cell (instance_of s l) v
  limit-none past = sym (up-to-past (groups_of l) (limit_of s l) v past)

  module _ (h : v < groups_of l) where
    pub parent_is : (p r : ℕ) → p ≡ parent_of s l v → r ≡ to_cell (groups_of l) p → r ≡ parent_cell (network_of s l) v
    parent_is p r is e =
        e
        ∙ ap (to_cell (groups_of l)) is
        ∙ sym (up-to-in (groups_of l) (λ w. to_cell (groups_of l) (parent_of s l w)) v h)

    -- the limit by the cells before it
    module _ (limit up : ℕ) (tb : List ℕ) (low : v < 512) (reads : Reads s l (512 + v) tb) (is : limit ≡ written_of s l v)
        (by : up ≡ get_or tb v 0)
      where
        up_is : up ≡ to_cell (groups_of l) (parent_of s l v)
        up_is =
            by
            ∙ reads.table v (omega arith)
            ∙ cell-parent (instance_of s l) v low
            ∙ up-to-in (groups_of l) (λ w. to_cell (groups_of l) (parent_of s l w)) v h

        in_cell : limit_cell (instance_of s l) v ≡ limit_of s l v
        in_cell = up-to-in (groups_of l) (limit_of s l) v h

        pub limit-alone : v ≤ up → limit ≡ limit_cell (instance_of s l) v
        unfolding limit_of
        limit-alone large =
            elim (day-down s l v h) [
              | inl small ↦ absurd (omega (arith, up_is, to-group (groups_of l) (parent_of s l v) (omega arith)))
              | inr past ↦
                  is ∙ sym (in_cell ∙ lowered-top (groups_of l) (parent_of s l) (day-down s l) (written_of s l) v h past)
            ]

        pub limit-lowered :
            up < v → (most : ℕ) → most ≡ get_or tb (512 + up) 0 → min limit most ≡ limit_cell (instance_of s l) v
        unfolding limit_of
        limit-lowered small most above-is =
            elim (day-down s l v h) [
              | inl q ↦
                  let p : parent_of s l v ≡ up = sym (up_is ∙ to-group (groups_of l) (parent_of s l v) (omega arith)) in
                  let other : most ≡ limit_of s l up =
                  above-is
                  ∙ reads.table (512 + up) (omega arith)
                  ∙ cell-limit (instance_of s l) up (omega arith)
                  ∙ up-to-in (groups_of l) (limit_of s l) up (omega arith)
                  in
                  let down = lowered-below (groups_of l) (parent_of s l) (day-down s l) (written_of s l) v h (omega arith) in
                  omega (arith, is, other, down, ap (limit_of s l) p, in_cell)
              | inr past ↦ absurd (omega (arith, up_is, to-root (groups_of l) (parent_of s l v) past))
            ]

--------------------------------------------------------------------------------
-- The cells of a row

module _ (s : List ℕ) (l : Layout) (c : ℕ) where
  pub card-none : l.rows ≤ c → 0 ≡ row_cell (network_of s l) 0 c
  card-none past = sym (up-to-past l.rows (λ i. to_cell (groups_of l) (card_node s l i)) c past)

  pub shop-none : l.rows ≤ c → 0 ≡ row_cell (network_of s l) 1 c
  shop-none past = sym (up-to-past l.rows (λ i. to_cell (groups_of l) (shop_node s l i)) c past)

  module _ (h : c < l.rows) (claim : Claim) (is : claim ≡ claim_of s l c) (r : ℕ) where
    pub card-is :
        claim.card < l.cards → (u : ℕ) → u ≡ card_under s l (groups_of l) claim → r ≡ to_cell (groups_of l) u →
        r ≡ row_cell (network_of s l) 0 c
    card-is inside u e cell =
        cell
        ∙ ap (to_cell (groups_of l)) (e ∙ card-hung s l c claim is inside)
        ∙ sym (up-to-in l.rows (λ i. to_cell (groups_of l) (card_node s l i)) c h)

    -- the shop node of a row is a group
    pub shop-is : claim.shop < l.shops → r ≡ l.cards + claim.shop → r ≡ row_cell (network_of s l) 1 c
    shop-is inside e =
        let node : r ≡ shop_node s l c = e ∙ shop-hung s l c claim is in
        node
        ∙ sym
        (up-to-in l.rows (λ i. to_cell (groups_of l) (shop_node s l i)) c h
        ∙ to-group (groups_of l) (shop_node s l c) (omega (arith, node)))
