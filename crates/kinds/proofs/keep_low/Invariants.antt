-- The invariant: the cells before i hold their low halves, and the others what they held.
use Rattle.kinds.proofs.LowLaws.{Keeping}
use Rattle.kinds.proofs.keep_low.Given as goal

abbrev pub invariant-loop-i : goal.invariant-loop-i
invariant-loop-i l = Keeping l.initial.cells l.cells l.i
