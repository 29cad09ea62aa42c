-- The bounds of document 01, "The claim file", and of the cells that hold a day's numbers.
--   max_groups              the most groups of a section
--   max_rows                the most claims
--   max_limit               the greatest limit, which is the greatest number of 16 bits
--   cell_bound              what every number in a cell of 32 bits is below: 2 ^ 32
use Rattle.std.specs.Prelude.{ℕ}

-- "At most 256 groups stand in each section"
abbrev pub max_groups : ℕ
max_groups = 256

-- "and at most 512 claims."
abbrev pub max_rows : ℕ
max_rows = 512

-- "A limit is 0 to 65535, every value a plain number."
abbrev pub max_limit : ℕ
max_limit = 65535

abbrev pub cell_bound : ℕ
cell_bound = 4294967296
