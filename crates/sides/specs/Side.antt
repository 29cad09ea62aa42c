-- What the functions of one side promise, in the numbers of the side's own groups: side 0 is card, side 1 is shop.
--   parent_by G u h         the parent of group h of G groups, by the number u in its record: one that is no smaller group stands
--                          for the root, which is G
--   parent_in s l side h    the parent of group h of a side
--   limit_in s l side h     the limit in its record
--   up_in s l side g h      1 where group h is g, its parent, and so on up to the top, else 0
--   hangs s l side c       where row c hangs on a side: a group, or the root, whose number is that of the groups
--   counts_in s l side c h  1 where row c counts in group h, else 0
-- For the counts k, a cell for each group and one for the top:
--   Zero k                 all 0
--   Counted s sel l side k     each group counts the selected rows that hang at it
--   Held s l side k        the file is sound, and there are cells enough
--   Passes s l side k g    what is needed to pass on what came to group g
--   PassedOn s l side k next g r   what came to group g, but no more than its limit, was passed on; r says whether that was all
--   Named s l side X k     each group counts the rows of X that hang at it
--   Begun s l side k       it does so for some rows
--   FitsBy s l side limit X    no group of the side counts more rows of X than `limit` gives
--   FitsIn s l side X      the same of the written limits: what fits these fits the lowered ones (`side-fits`, proofs/SideLaws.antt)
--   Lifted s l side X next f   the rows X have risen: f tells their rank and whether they fit, and where they do, each group counts
--                          the rows that count in it
--   Rose s l side k next f     the same for whatever rows were counted
--   Placed s sel l side next f     the same for the selected rows
use Rattle.std.specs.Prelude.{ℕ, zero, suc, ◌+◌, ◌*◌, min, ◌<◌, ◌≡◌, List, Bool, true, false, length, ltb, leb}
use Rattle.theory.specs.Bounds.{max_groups}
use Rattle.theory.specs.Sum.{pick, same}
use Rattle.theory.specs.Forest.{chain, hung}
use Rattle.theory.specs.Incidence.{Selection, load, Fits}
use Rattle.theory.specs.Matroid.{Rank, row}
use Rattle.theory.specs.Rise.{own}
use Rattle.claimfile.specs.Day.{count_of, group_of, claim_of, named_shop, card_by}
use Rattle.claimfile.specs.Sound.{Sound}
use Rattle.claimfile.specs.declared.Layout.{Layout}
use Rattle.sides.specs.declared.Found.{Found}

abbrev pub parent_by : ℕ → ℕ → ℕ → ℕ
parent_by G u h = pick (ltb u h) u G

abbrev pub parent_in : List ℕ → Layout → ℕ → ℕ → ℕ
parent_in s l side h = parent_by (count_of l side) (group_of s l side h).parent h

abbrev pub limit_in : List ℕ → Layout → ℕ → ℕ → ℕ
limit_in s l side h = (group_of s l side h).limit

abbrev pub up_in : List ℕ → Layout → ℕ → ℕ → ℕ → ℕ
up_in s l side g h = chain (count_of l side) (parent_in s l side) g h

abbrev pub hangs : List ℕ → Layout → ℕ → ℕ → ℕ
hangs s l zero c = card_by (parent_in s l 0) (claim_of s l c)
hangs s l (suc n) c = named_shop s l c

abbrev pub counts_in : List ℕ → Layout → ℕ → ℕ → ℕ → ℕ
counts_in s l side = hung (count_of l side) (parent_in s l side) (hangs s l side)

--------------------------------------------------------------------------------
-- The counts of the rows, at the groups that they name and as they rise

pub record Zero (k : List ℕ) : Type 0 where
  pub long : max_groups < length k
  pub zero : (h : ℕ) → row k h ≡ 0

pub record Counted (s sel : List ℕ) (l : Layout) (side : ℕ) (k : List ℕ) : Type 0 where
  pub long : max_groups < length k
  pub counts : (h : ℕ) → row k h ≡ own l.rows (hangs s l side) (row sel) h

pub record Held (s : List ℕ) (l : Layout) (side : ℕ) (k : List ℕ) : Type 0 where
  pub sound : Sound s l
  pub long : count_of l side < length k

pub record Passes (s : List ℕ) (l : Layout) (side : ℕ) (k : List ℕ) (g : ℕ) : Type 0 where
  pub held : Held s l side k
  pub inside : g < count_of l side
  pub small : row k (parent_in s l side g) + row k g < 65536

pub record PassedOn (s : List ℕ) (l : Layout) (side : ℕ) (k next : List ℕ) (g : ℕ) (r : Bool) : Type 0 where
  pub moves : (h : ℕ) → row next h ≡ row k h + min (row k g) (limit_in s l side g) * same (parent_in s l side g) h
  pub all : r ≡ leb (row k g) (limit_in s l side g)

pub record Named (s : List ℕ) (l : Layout) (side : ℕ) (X : ℕ → ℕ) (k : List ℕ) : Type 0 where
  pub bits : Selection l.rows X
  pub counts : (h : ℕ) → row k h ≡ own l.rows (hangs s l side) X h

pub record Begun (s : List ℕ) (l : Layout) (side : ℕ) (k : List ℕ) : Type 0 where
  pub held : Held s l side k
  pub chosen : ℕ → ℕ
  pub named : Named s l side chosen k

abbrev pub FitsBy : List ℕ → Layout → ℕ → (ℕ → ℕ) → (ℕ → ℕ) → Type 0
FitsBy s l side limit X = Fits l.rows (count_of l side) (counts_in s l side) limit X

abbrev pub FitsIn : List ℕ → Layout → ℕ → (ℕ → ℕ) → Type 0
FitsIn s l side X = FitsBy s l side (limit_in s l side) X

pub record Lifted (s : List ℕ) (l : Layout) (side : ℕ) (X : ℕ → ℕ) (next : List ℕ) (f : Found) : Type 0 where
  pub rank : Rank l.rows (λ Y. Selection l.rows Y × FitsIn s l side Y) X f.rank
  pub fits : f.fits ≡ true → FitsIn s l side X
  pub unfit : f.fits ≡ false → ¬ FitsIn s l side X
  pub counts : f.fits ≡ true → (h : ℕ) → h < count_of l side → row next h ≡ load l.rows (counts_in s l side) X h

abbrev pub Rose : List ℕ → Layout → ℕ → List ℕ → List ℕ → Found → Type 0
Rose s l side k next f = (X : ℕ → ℕ) → Named s l side X k → Lifted s l side X next f

pub record Placed (s sel : List ℕ) (l : Layout) (side : ℕ) (next : List ℕ) (f : Found) : Type 0 where
  pub lifted : Lifted s l side (row sel) next f
  pub held : Held s l side next
