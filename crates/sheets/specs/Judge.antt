-- How a sheet is judged, group by group and row by row.
--   most_product            no limit × mark is over it: 2 ^ 48
--   Sheeted s l sheet      a sound file with two kinds of claims, and a sheet that is long enough
--   Zeros t                a table with a cell for each node, all 0
--   price_of s l sheet v    the price of a node: the marks from it up to the top
--   Priced s l sheet t n   the cells of the first n groups hold their prices, or 65535 where that is less; the others are 0
--   Lowers s l t n         the cells of the first n groups hold their limits
--   group_total, row_total   each group's limit × mark, and the rows' marks, summed over the first ones
use Rattle.std.specs.Prelude.{◌≡◌, List, ℕ, ◌+◌, ◌*◌, min, ◌≤◌, ◌<◌, length, get_or}
use Rattle.theory.specs.Bounds.{max_limit, cell_bound}
use Rattle.theory.specs.Sum.{sum}
use Rattle.theory.specs.Chain.{path}
use Rattle.theory.specs.Matroid.{row}
use Rattle.claimfile.specs.Day.{groups_of, parent_of, limit_of, network_of}
use Rattle.claimfile.specs.File.{first_terms}
use Rattle.claimfile.specs.Sound.{Sound, Kinds}
use Rattle.claimfile.specs.declared.Layout.{Layout}
use Rattle.instance.specs.Meaning.{nodes}
use Rattle.closing.specs.Settle.{needed, mark_of}

abbrev pub most_product : ℕ
most_product = (max_limit + 1) * cell_bound

pub record Sheeted (s : List ℕ) (l : Layout) (sheet : List ℕ) : Type 0 where
  pub sound : Sound s l
  pub kinds : Kinds first_terms s l
  pub sheets : needed (network_of s l) ≤ length sheet

pub record Zeros (t : List ℕ) : Type 0 where
  pub long : nodes ≤ length t
  pub zero : (v : ℕ) → row t v ≡ 0

abbrev pub price_of : List ℕ → Layout → List ℕ → ℕ → ℕ
price_of s l sheet = path (groups_of l) (parent_of s l) (mark_of sheet)

pub record Priced (s : List ℕ) (l : Layout) (sheet t : List ℕ) (n : ℕ) : Type 0 where
  pub long : nodes ≤ length t
  pub here : (v : ℕ) → v < n → row t v ≡ min (price_of s l sheet v) max_limit
  pub zero : (v : ℕ) → n ≤ v → row t v ≡ 0

pub record Lowers (s : List ℕ) (l : Layout) (t : List ℕ) (n : ℕ) : Type 0 where
  pub long : nodes ≤ length t
  pub here : (v : ℕ) → v < n → row t v ≡ limit_of s l v

abbrev pub group_total : List ℕ → Layout → List ℕ → ℕ → ℕ
group_total s l sheet n = sum n (λ v. limit_of s l v * mark_of sheet v)

abbrev pub row_total : List ℕ → ℕ → ℕ → ℕ
row_total sheet groups n = sum n (λ c. get_or sheet (groups + c) 0)
