-- The cells of a tally's tables (document 02, E14: "A tally begun from a file and a day holds its tables").
--   nodes, cells           the most nodes, and how many cells the tables have
--   Table n f xs           the list xs holds f 0, f 1, .. in its first n places
--   up_to n f i             f i where i is below n, else 0
-- Of a day, with 0 for each node that is no group and each row that is not there:
--   to_cell G u             node u as a cell has it: one that is none of the G groups is 512
--   parent_cell, limit_cell  the node above a node, and its limit
--   row_cell d side         where a row hangs on a side
--   cell_of i j             cell j of the tables: 512 parents, 512 limits, the card nodes of 512 rows and the shop nodes of 512 rows
use Rattle.std.specs.Prelude.{◌≡◌, List, ℕ, ◌-◌, ◌<◌, ltb, get_or}
use Rattle.theory.specs.Sum.{pick}
use Rattle.theory.specs.Network.{Network, Instance, node}

abbrev pub nodes : ℕ
nodes = 512

abbrev pub cells : ℕ
cells = 2048

abbrev pub Table : ℕ → (ℕ → ℕ) → List ℕ → Type 0
Table n f xs = (i : ℕ) → i < n → get_or xs i 0 ≡ f i

abbrev pub up_to : ℕ → (ℕ → ℕ) → ℕ → ℕ
up_to n f i = pick (ltb i n) (f i) 0

--------------------------------------------------------------------------------
-- The tables of a day

abbrev pub to_cell : ℕ → ℕ → ℕ
to_cell G u = pick (ltb u G) u nodes

abbrev pub parent_cell : Network → ℕ → ℕ
parent_cell d = up_to d.groups (λ v. to_cell d.groups (d.parent v))

abbrev pub limit_cell : Instance → ℕ → ℕ
limit_cell i = up_to i.net.groups i.limit

abbrev pub row_cell : Network → ℕ → ℕ → ℕ
row_cell d side = up_to d.rows (λ c. to_cell d.groups (node d side c))

unfoldable pub cell_of : Instance → ℕ → ℕ
cell_of i j =
    pick (ltb j 512)
    (parent_cell i.net j)
    (pick (ltb j 1024)
    (limit_cell i (j - 512))
    (pick (ltb j 1536) (row_cell i.net 0 (j - 1024)) (row_cell i.net 1 (j - 1536))))
