-- What the functions promise that number the groups of a side (document 02, E3). Their table has a cell for each group: a number
-- below 256 is the group's new number; a group without one has in its cell where to go on from it.
--   cell t g               the cell of group g in the table t
--   way_from d g            the cell of a group without a number: 256 + its parent, or 65535 where it is at the top
--   given d k              how many groups have a number before row k: those whose lowest row is below k
--   cell_before d k g       the cell of group g before row k: its number where a lower row counts in it, else where to go on
--   Rowed d k t n          t is the table before row k, where n groups have a number
--   Numbers d t n          t is the table after the last row: the n used groups have their numbers, the others are dropped
--   Walk t g               a walk in the table t from group g up: the side and the row that it is of. The row counts in g, and
--                          the groups from g up have the cells before that row
--   on w                   the side
--   fresh d k g            how many groups from g up have the lowest row k: these have no number before row k
--   free w                 how many groups have a number once those from g up have one
--   Unnumbered t g n r     whatever walk it is of, r is n plus how many groups from g up have no number
--   Climbs t g n           there is a walk from g up, and n groups have a number after it
--   Climbed w u            in the table u all groups from g up have their numbers, and the other cells are as they were
--   NumberedUp t u g n     it is so whatever walk it is of
use Rattle.std.specs.Prelude.{ℕ, ◌+◌, ◌≤◌, ◌<◌, ◌≡◌, List, ltb, eqb, length, get_or}
use Rattle.theory.specs.Bounds.{max_groups}
use Rattle.theory.specs.Sum.{pick, sum}
use Rattle.claimfile.specs.declared.Layout.{Layout}
use Rattle.claimfile.specs.File.{top}
use Rattle.claimfile.specs.Sound.{Sound}
use Rattle.renumber.specs.Side.{Side, up, counts, lowest, bit, used_groups, number}
use Rattle.renumber.specs.Canonical.{side_of, Used}

abbrev pub cell : List ℕ → ℕ → ℕ
cell t g = get_or t g 0

abbrev pub way_from : Side → ℕ → ℕ
way_from d g = pick (ltb (d.parent g) d.groups) (max_groups + d.parent g) top

--------------------------------------------------------------------------------
-- Between rows

unfoldable pub given : Side → ℕ → ℕ
given d k = sum d.groups (λ g. bit (ltb (lowest d g) k))

abbrev pub cell_before : Side → ℕ → ℕ → ℕ
cell_before d k g = pick (ltb (lowest d g) k) (number d g) (way_from d g)

pub record Rowed (d : Side) (k : ℕ) (t : List ℕ) (n : ℕ) : Type 0 where
  pub size : length t ≡ max_groups
  pub count : n ≡ given d k
  pub cells : (g : ℕ) → g < d.groups → cell t g ≡ cell_before d k g

pub record Numbers (d : Side) (t : List ℕ) (n : ℕ) : Type 0 where
  pub count : n ≡ used_groups d
  pub used : (g : ℕ) → Used d g → cell t g ≡ number d g
  pub dropped : (g : ℕ) → g < d.groups → ¬ Used d g → max_groups ≤ cell t g

--------------------------------------------------------------------------------
-- Within a row

pub record Walk (t : List ℕ) (g : ℕ) : Type 0 where
  pub file : List ℕ
  pub layout : Layout
  pub side : ℕ
  pub row : ℕ
  pub sound : Sound file layout
  pub inside : row < layout.rows
  pub counted : 1 ≤ counts (side_of file layout side) row g
  pub cells : (h : ℕ) → 1 ≤ up (side_of file layout side) g h → cell t h ≡ cell_before (side_of file layout side) row h

abbrev pub on : {t : List ℕ} {g : ℕ} → Walk t g → Side
on w = side_of w.file w.layout w.side

unfoldable pub fresh : Side → ℕ → ℕ → ℕ
fresh d k g = sum d.groups (λ h. pick (eqb (lowest d h) k) (up d g h) 0)

abbrev pub free : {t : List ℕ} {g : ℕ} → Walk t g → ℕ
free {g = g} w = given (on w) w.row + fresh (on w) w.row g

abbrev pub Unnumbered : List ℕ → ℕ → ℕ → ℕ → Type 0
Unnumbered t g n r = (w : Walk t g) → r ≡ n + fresh (on w) w.row g

pub record Climbs (t : List ℕ) (g n : ℕ) : Type 0 where
  pub size : length t ≡ max_groups
  pub walk : Walk t g
  pub end : n ≡ free walk

pub record Climbed {t : List ℕ} {g : ℕ} (w : Walk t g) (u : List ℕ) : Type 0 where
  pub size : length u ≡ length t
  pub numbered : (h : ℕ) → 1 ≤ up (on w) g h → cell u h ≡ number (on w) h
  pub kept : (h : ℕ) → up (on w) g h ≡ 0 → cell u h ≡ cell t h

abbrev pub NumberedUp : List ℕ → List ℕ → ℕ → ℕ → Type 0
NumberedUp t u g n = (w : Walk t g) → n ≡ free w → Climbed w u
