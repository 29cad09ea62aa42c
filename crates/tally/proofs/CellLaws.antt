-- Laws of the cells of a tally's tables.
--   up-to-in up-to-past up-to-cong     a number below n, and one past it; functions that agree below n
--   cell-parent cell-limit cell-card cell-shop     a cell of the tables, by the table that it is in
--   cell-node              the node of a row on either side
--   to-group to-root       a node as a cell has it
--   stands-cell            so it stands for the node in a forest of 512 nodes
--   table_none table_more  a table of no cell, and one cell more
use mathlib.Core.Path.{◌≡◌, sym, ap, ◌∙◌}
use mathlib.Core.Logic.{inl, inr}
use mathlib.Core.List.{List}
use Prim.Native.Nat.{ℕ, zero, suc, ◌+◌, ◌-◌, ◌<◌, ◌≤◌}
use native.Mathlib.Decide.{dec_lt}
use native.Mathlib.Omega.{arith}
use lib.ListN.{length, set}
use borrow.Author.Tests.{lt-ltb, le-ltb}
use Rattle.theory.specs.Network.{Instance, node}
use Rattle.theory.proofs.EmbedLaws.{Stands}
use Rattle.tally.specs.Cells.{cells, Table, up_to, to_cell, parent_cell, limit_cell, row_cell, cell_of}
use Rattle.tally.specs.Walks.{node_in}
use Rattle.tally.proofs.WalkLaws.{at_set}

module _ (n : ℕ) (f : ℕ → ℕ) (i : ℕ) where
  pub up-to-in : i < n → up_to n f i ≡ f i
  up-to-in h = rw (lt-ltb _ _ h)

  pub up-to-past : n ≤ i → up_to n f i ≡ 0
  up-to-past h = rw (le-ltb _ _ h)

-- functions that agree below n
pub up-to-cong : (n : ℕ) (f g : ℕ → ℕ) (i : ℕ) → (i < n → f i ≡ g i) → up_to n f i ≡ up_to n g i
up-to-cong n f g i e =
    elim (dec_lt i n) [
      | yes h ↦ up-to-in n f i h ∙ e h ∙ sym (up-to-in n g i h)
      | no h ↦ up-to-past n f i (omega arith) ∙ sym (up-to-past n g i (omega arith))
    ]

module _ (i : Instance) where
  pub cell-parent : (v : ℕ) → v < 512 → cell_of i v ≡ parent_cell i.net v
  unfolding cell_of
  cell-parent v h = rw (lt-ltb _ _ h)

  pub cell-limit : (v : ℕ) → v < 512 → cell_of i (512 + v) ≡ limit_cell i v
  unfolding cell_of
  cell-limit v h =
      let past : 512 ≤ 512 + v = omega arith in
      let here : 512 + v < 1024 = omega arith in
      let back : 512 + v - 512 ≡ v = omega arith in
      rw (le-ltb _ _ past, lt-ltb _ _ here) (ap (limit_cell i) back)

  pub cell-card : (c : ℕ) → c < 512 → cell_of i (1024 + c) ≡ row_cell i.net 0 c
  unfolding cell_of
  cell-card c h =
      let past : 512 ≤ 1024 + c = omega arith in
      let past2 : 1024 ≤ 1024 + c = omega arith in
      let here : 1024 + c < 1536 = omega arith in
      let back : 1024 + c - 1024 ≡ c = omega arith in
      rw (le-ltb _ _ past, le-ltb _ _ past2, lt-ltb _ _ here) (ap (row_cell i.net 0) back)

  pub cell-shop : (c : ℕ) → cell_of i (1536 + c) ≡ row_cell i.net 1 c
  unfolding cell_of
  cell-shop c =
      let past : 512 ≤ 1536 + c = omega arith in
      let past2 : 1024 ≤ 1536 + c = omega arith in
      let past3 : 1536 ≤ 1536 + c = omega arith in
      let back : 1536 + c - 1536 ≡ c = omega arith in
      rw (le-ltb _ _ past, le-ltb _ _ past2, le-ltb _ _ past3) (ap (row_cell i.net 1) back)

  -- the node of a row on either side
  pub cell-node :
      (tb : List ℕ) → Table cells (cell_of i) tb → (side : ℕ) → side < 2 → (c : ℕ) → c < 512 → c < i.net.rows →
      node_in tb side c ≡ to_cell i.net.groups (node i.net side c)
  cell-node tb table zero s c h k =
      table (1024 + c) (omega arith) ∙ cell-card c h ∙ up-to-in i.net.rows (λ j. to_cell i.net.groups (i.net.card j)) c k
  cell-node tb table (suc zero) s c h k =
      table (1536 + c) (omega arith) ∙ cell-shop c ∙ up-to-in i.net.rows (λ j. to_cell i.net.groups (i.net.shop j)) c k
  cell-node tb table (suc (suc side)) s c h k = absurd (omega arith)

module _ (G u : ℕ) where
  pub to-group : u < G → to_cell G u ≡ u
  to-group h = rw (lt-ltb _ _ h)

  pub to-root : G ≤ u → to_cell G u ≡ 512
  to-root h = rw (le-ltb _ _ h)

  pub stands-cell : Stands G 512 0 u (to_cell G u)
  stands-cell =
      elim (dec_lt u G) [
        | yes h ↦ inl (h, omega (arith, to-group h))
        | no h ↦
            let past : G ≤ u = omega arith in
            inr (past, omega (arith, to-root past))
      ]

pub table_none : (f : ℕ → ℕ) (xs : List ℕ) → Table 0 f xs
table_none f xs i h = absurd (omega arith)

pub table_more :
    (f : ℕ → ℕ) (xs : List ℕ) (n x : ℕ) → n < length xs → x ≡ f n → Table n f xs → Table (n + 1) f (set xs n x)
table_more f xs n x long is table i h =
    elim (at_set xs n x i long) [
      | inl q ↦ q.1 ∙ is ∙ ap f (sym q.0)
      | inr q ↦ q.1 ∙ table i (omega (arith, q.0))
    ]
