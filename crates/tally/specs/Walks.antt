-- What the functions on a tally's cells ask and promise, whatever the tables tb and the counts k hold.
--   above_in tb v           the node above v, and 512 where that is no smaller node
--   up_in tb u v            1 where v is u, or the node above u, and so on up, else 0
--   limit_in tb v           the limit of node v
--   node_in tb side c       the node of row c on a side
--   HasPlace tb k u r      r says whether u and each node above it has a place left; then each count can rise by 1 (`stepped`)
--   HasPlaces tb k c r     the same of both nodes of row c
--   stepped more n         a count with one row more or one row less, from 0 to 65535
--   Counted more tb k k' u     the counts k' are k, with one row more or one row less at u and at each node above it
--   CountedRow more tb k k' c  the same at both nodes of row c
-- What is told of row c, by how many rows there are and by the bytes sel of the rows that are in:
--   Lacks, Lies            there is no such row, or there is
--   LacksRow rows c r      r says which
--   PutTold tb rows k sel c n      n is the number that putting it in answers: 9, 18, 20, or 0 where it has places
--   TakeTold rows sel c n          n is the number that taking it out answers: 9, 19, or 0 where it is in
-- Of a group of a side:
--   node_of cards shops side g      its node, and 512 or more where there is none
use Rattle.std.specs.Prelude.{◌≡◌, Bool, true, false, ◌⊎◌, ◌≢◌, List, ℕ, ◌+◌, ◌-◌, ◌*◌, min, ◌<◌, ◌≤◌, ltb, leb, eqb, length, get_or}
use Rattle.theory.specs.Bounds.{max_rows, max_limit}
use Rattle.theory.specs.Sum.{pick}
use Rattle.theory.specs.Forest.{chain}
use Rattle.refusal.specs.declared.Reason.TheVariants.{Value, Inside, Outside, Full}
use Rattle.refusal.specs.Table.{number_of}
use Rattle.tally.specs.Cells.{nodes}

--------------------------------------------------------------------------------
-- The walks

abbrev pub above_in : List ℕ → ℕ → ℕ
above_in tb v = pick (ltb (get_or tb v 0) v) (get_or tb v 0) nodes

abbrev pub up_in : List ℕ → ℕ → ℕ → ℕ
up_in tb u v = chain nodes (above_in tb) u v

abbrev pub limit_in : List ℕ → ℕ → ℕ
limit_in tb v = get_or tb (nodes + v) 0

abbrev pub node_in : List ℕ → ℕ → ℕ → ℕ
node_in tb side c = get_or tb (2 * nodes + max_rows * side + c) 0

pub record HasPlace (tb k : List ℕ) (u : ℕ) (r : Bool) : Type 0 where
  pub places : r ≡ true → (v : ℕ) → up_in tb u v ≡ 1 → (get_or k v 0 < limit_in tb v) × (limit_in tb v ≤ max_limit)
  pub full : r ≡ false → (v : ℕ) × (v < nodes) × (up_in tb u v ≡ 1) × (limit_in tb v ≤ get_or k v 0)

pub record HasPlaces (tb k : List ℕ) (c : ℕ) (r : Bool) : Type 0 where
  pub places : r ≡ true → (side : ℕ) → side < 2 → HasPlace tb k (node_in tb side c) true
  pub full : r ≡ false → (side : ℕ) × (side < 2) × HasPlace tb k (node_in tb side c) false

abbrev pub stepped : Bool → ℕ → ℕ
stepped true n = min (n + 1) max_limit
stepped false n = n - 1

pub record Counted (more : Bool) (tb k k' : List ℕ) (u : ℕ) : Type 0 where
  pub long : length k' ≡ length k
  pub on : nodes ≤ length k → (v : ℕ) → up_in tb u v ≡ 1 → get_or k' v 0 ≡ stepped more (get_or k v 0)
  pub off : (v : ℕ) → up_in tb u v ≡ 0 → get_or k' v 0 ≡ get_or k v 0

pub record CountedRow (more : Bool) (tb k k' : List ℕ) (c : ℕ) : Type 0 where
  pub between : List ℕ
  pub card : Counted more tb k between (node_in tb 0 c)
  pub shop : Counted more tb between k' (node_in tb 1 c)

--------------------------------------------------------------------------------
-- What is told of a row

abbrev pub Lacks : ℕ → ℕ → Type 0
Lacks rows c = (rows ≤ c) ⊎ (max_rows ≤ c)

pub record Lies (rows c : ℕ) : Type 0 where
  pub row : c < rows
  pub cell : c < max_rows

pub record LacksRow (rows c : ℕ) (r : Bool) : Type 0 where
  pub lacks : r ≡ true → Lacks rows c
  pub lies : r ≡ false → Lies rows c

abbrev pub PutTold : List ℕ → ℕ → List ℕ → List ℕ → ℕ → ℕ → Type 0
PutTold tb rows k sel c n =
    ((n ≡ number_of Value) × Lacks rows c)
    ⊎ ((n ≡ number_of Inside) × Lies rows c × (get_or sel c 0 ≢ 0))
    ⊎ ((n ≡ number_of Full) × Lies rows c × (get_or sel c 0 ≡ 0) × HasPlaces tb k c false)
    ⊎ ((n ≡ 0) × Lies rows c × (get_or sel c 0 ≡ 0) × HasPlaces tb k c true)

abbrev pub TakeTold : ℕ → List ℕ → ℕ → ℕ → Type 0
TakeTold rows sel c n =
    ((n ≡ number_of Value) × Lacks rows c)
    ⊎ ((n ≡ number_of Outside) × Lies rows c × (get_or sel c 0 ≡ 0))
    ⊎ ((n ≡ 0) × Lies rows c × (get_or sel c 0 ≢ 0))

--------------------------------------------------------------------------------
-- The node of a group

abbrev pub node_of : ℕ → ℕ → ℕ → ℕ → ℕ
node_of cards shops side g =
    pick (eqb side 0)
    (pick (ltb g cards) g nodes)
    (pick (eqb side 1) (pick (leb shops g) nodes (pick (leb nodes cards) nodes (cards + g))) nodes)
