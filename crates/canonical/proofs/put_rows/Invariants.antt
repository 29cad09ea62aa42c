-- `put_rows` meets its contract. The loop's invariant: the claims before `c` are put.
use Rattle.records.specs.Records.{PutTo}
use Rattle.canonical.proofs.put_rows.Given as goal

abbrev pub invariant-loop-c : goal.invariant-loop-c
invariant-loop-c l = PutTo l.file l.layout 2 0 l.c l.initial.out l.out
