-- `ups_of` meets its contract: the loop keeps that the parents of the groups before g are found (`UpsTo`), in as many cells as there
-- were.
use mathlib.Core.Path.{◌≡◌}
use lib.ListN.{length}
use Rattle.spare.proofs.ChainLaws.{UpsTo}
use Rattle.spare.proofs.ups_of.Given as goal

abbrev pub invariant-loop-g : goal.invariant-loop-g
invariant-loop-g l = (length l.ups ≡ 257) × UpsTo l.file l.layout l.side l.ups l.g
