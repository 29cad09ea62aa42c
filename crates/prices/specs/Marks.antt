-- The sheet when its prices are read off as marks, in place. Cell v is group v's mark and cell groups + c is row c's. While the
-- solver runs, the map (crate scratch) owns the cells of the groups, which hold their prices. The module `marks` owns the cells
-- of the rows, and writes each cell of a group once, when no other cell needs its price any more.
--   group_mark sheet v, row_mark sh sheet c      the marks in the sheet
--   PutMark sheet sheet' i x                   cell i becomes x, and nothing else changed
--   Priced sh sheet t                          the buffers are long enough and the network is well formed
--   Marking sh sheet t sheet' m n              the groups from m on and the first n rows have their marks, and nothing else changed
--   Marked sh sheet t sheet'                   all of them have
use Rattle.std.specs.Prelude.{◌≡◌, List, ℕ, ◌+◌, ◌≤◌, ◌<◌, length, get_or}
use Rattle.theory.specs.Turn.{Puts}
use Rattle.theory.specs.Formed.{Formed}
use Rattle.theory.specs.Level.{mark, rest}
use Rattle.scratch.specs.declared.Shape.{Shape}
use Rattle.scratch.specs.Map.{Room, weight_of, price_of}
use Rattle.scratch.specs.View.{net_of}

abbrev pub group_mark : List ℕ → ℕ → ℕ
group_mark sheet v = get_or sheet v 0

abbrev pub row_mark : Shape → List ℕ → ℕ → ℕ
row_mark sh sheet c = get_or sheet (sh.groups + c) 0

pub record PutMark (sheet sheet' : List ℕ) (i x : ℕ) : Type 0 where
  pub long : length sheet' ≡ length sheet
  pub puts : Puts (group_mark sheet) (group_mark sheet') i x

pub record Priced (sh : Shape) (sheet t : List ℕ) : Type 0 where
  pub room : Room sh t
  pub long : sh.groups + sh.rows ≤ length sheet
  pub formed : Formed (net_of sh t)

pub record Marking (sh : Shape) (sheet t sheet' : List ℕ) (m n : ℕ) : Type 0 where
  pub long : length sheet' ≡ length sheet
  pub groups : (v : ℕ) → m ≤ v → v < sh.groups → group_mark sheet' v ≡ mark (net_of sh t) (price_of sh sheet) v
  pub rows : (c : ℕ) → c < n → row_mark sh sheet' c ≡ rest (net_of sh t) (weight_of sh t) (price_of sh sheet) c
  pub low : (v : ℕ) → v < m → group_mark sheet' v ≡ group_mark sheet v
  pub high : (c : ℕ) → n ≤ c → row_mark sh sheet' c ≡ row_mark sh sheet c

abbrev pub Marked : Shape → List ℕ → List ℕ → List ℕ → Type 0
Marked sh sheet t sheet' = Marking sh sheet t sheet' 0 sh.rows
