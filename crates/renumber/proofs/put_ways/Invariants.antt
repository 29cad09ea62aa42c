-- `put_ways` meets its contract: the loop keeps that the cells before g are those of groups without a number (`WaysTo`), in 256
-- cells; the side has no more groups.
use mathlib.Core.Path.{◌≡◌}
use lib.ListN.{length}
use Rattle.theory.specs.Bounds.{max_groups}
use Rattle.renumber.specs.Canonical.{side_of}
use Rattle.renumber.proofs.NumberLaws.{WaysTo}
use Rattle.renumber.proofs.put_ways.Given as goal

abbrev pub invariant-loop-g : goal.invariant-loop-g
invariant-loop-g l = (length l.cells ≡ max_groups) × WaysTo (side_of l.file l.layout l.side) l.cells l.g
