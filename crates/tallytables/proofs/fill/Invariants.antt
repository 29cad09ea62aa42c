-- `fill` meets its contract. The loop keeps that the cells passed are those of the tables.
use mathlib.Core.Path.{◌≡◌}
use lib.ListN.{length}
use Rattle.claimfile.specs.Day.{instance_of}
use Rattle.tally.specs.Cells.{cells, Table, cell_of}
use Rattle.tallytables.proofs.fill.Given as goal

abbrev pub invariant-loop-i : goal.invariant-loop-i
invariant-loop-i l = (length l.tables ≡ cells) × Table l.i (cell_of (instance_of l.file l.layout)) l.tables
