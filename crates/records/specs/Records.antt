-- The record of a group in the canonical file, for an accepted file s with the layout l, and how much of that file is put.
--   parent_for t g parent   the number that stands for the parent of group g, by the table t of the new numbers
--   limit_for t new day side parent limit   the limit of a day in a new record, by the one in the file: no more than that of the same
--                          day in the parent's record in the buffer t, where the parent is a group
--   Numbered s l new side t    the table t has the new numbers of a side; `new` is the layout of the canonical file
--   LimitsTo s l new side g parent t n limits  the limits of the first n days in the new record of group g, where `parent` stands for
--                          its parent
--   GroupsTo s l side g x i    group i of side x of the canonical file is one of those put so far: all groups of the sides before
--                          `side`, and on this side those whose number in s is below g
--   PutTo s l side g c old out     so much of the canonical file is written over the buffer `old`: the counts, these groups and
--                          the claims before c
--   Given s l new out      the file is sound, and the buffer has room for the canonical file
--   Ready s l new side g c out     so it is, and so much is written in the buffer
use Rattle.std.specs.Prelude.{ℕ, ◌<◌, ◌≡◌, ◌⊎◌, List, length, ltb}
use Rattle.theory.specs.Sum.{pick}
use Rattle.theory.specs.Matroid.{row}
use Rattle.theory.specs.Lowered.{lesser}
use Rattle.claimfile.specs.declared.Layout.{Layout}
use Rattle.claimfile.specs.File.{top, days}
use Rattle.claimfile.specs.Day.{count_of, group_of, on_day}
use Rattle.claimfile.specs.Sound.{Sound}
use Rattle.claimwriter.specs.Put.{Room, Begun}
use Rattle.renumber.specs.Side.{group}
use Rattle.renumber.specs.Canonical.{side_of, canonical_contents, canonical_layout}
use Rattle.renumber.specs.Numbers.{Numbers}

abbrev pub parent_for : List ℕ → ℕ → ℕ → ℕ
parent_for t g parent = pick (ltb parent g) (row t parent) top

abbrev pub limit_for : List ℕ → Layout → ℕ → ℕ → ℕ → ℕ → ℕ
limit_for t new day side parent limit = lesser (count_of new side) parent limit (group_of t (on_day new day) side parent).limit

abbrev pub Numbered : List ℕ → Layout → Layout → ℕ → List ℕ → Type 0
Numbered s l new side t = Numbers (side_of s l side) t (count_of new side)

-- "The parent test and the lowering of E4 hold for each of the seven."
pub record LimitsTo (s : List ℕ) (l new : Layout) (side g parent : ℕ) (t : List ℕ) (n : ℕ) (limits : List ℕ) : Type 0 where
  pub size : length limits ≡ days
  pub each : (k : ℕ) → k < n → row limits k ≡ limit_for t new k side parent (group_of s (on_day l k) side g).limit

abbrev pub GroupsTo : List ℕ → Layout → ℕ → ℕ → ℕ → ℕ → Type 0
GroupsTo s l side g x i = (x < side) ⊎ ((x ≡ side) × (group (side_of s l side) i < g))

pub record PutTo (s : List ℕ) (l : Layout) (side g c : ℕ) (old out : List ℕ) : Type 0 where
  pub begun : Begun (canonical_contents s l) (GroupsTo s l side g) (λ r. r < c) old out

pub record Given (s : List ℕ) (l new : Layout) (out : List ℕ) : Type 0 where
  pub sound : Sound s l
  pub layout : new ≡ canonical_layout s l
  pub room : Room new out

pub record Ready (s : List ℕ) (l new : Layout) (side g c : ℕ) (out : List ℕ) : Type 0 where
  pub given : Given s l new out
  pub put : PutTo s l side g c out out
