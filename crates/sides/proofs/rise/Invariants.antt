-- `rise` meets its contract. The loop keeps that the groups from g on have passed on what came to them (`Rising`), whatever rows
-- the counts were at first.
use Rattle.sides.proofs.CountLaws.{Rising}
use Rattle.sides.proofs.rise.Given as goal

abbrev pub invariant-loop-g : goal.invariant-loop-g
invariant-loop-g l = Rising l.file l.layout l.side l.initial.counts l.counts l.g l.fits
