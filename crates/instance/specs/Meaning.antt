-- Bounds on what a group and a row of an accepted file mean; their meaning itself is in claimfile/specs/Day.antt.
--   nodes                  how many nodes there are at most: the groups of both sides, and a root for each
--   heaviest               the greatest weight: 512 rows, and kind 3
use Rattle.std.specs.Prelude.{ℕ, ◌+◌, ◌*◌}
use Rattle.theory.specs.Bounds.{max_groups}

abbrev pub nodes : ℕ
nodes = 2 * max_groups + 2

abbrev pub heaviest : ℕ
heaviest = 135005697
