-- `number_rows` meets its contract: the loop keeps that the table is the one before row c (`Rowed`), and after the last row every
-- used group has its number.
use Rattle.renumber.specs.Canonical.{side_of}
use Rattle.renumber.specs.Numbers.{Rowed}
use Rattle.renumber.proofs.number_rows.Given as goal

abbrev pub invariant-loop-c : goal.invariant-loop-c
invariant-loop-c l = Rowed (side_of l.file l.layout l.side) l.c l.cells l.next
