-- The bytes before row c hold what the labels of their rows' nodes tell (`Coding`).
use Rattle.labels.specs.Label.{Coding}
use Rattle.labels.proofs.put_codes.Given as goal

abbrev pub invariant-loop-c : goal.invariant-loop-c
invariant-loop-c g l = Coding l.sh (g.W.Width.memory l.scratch) l.initial.codes l.codes l.c
