-- `put_groups` meets its contract. The loop's invariant: the groups of the side that are numbered below `g` in the file are put.
use Rattle.records.specs.Records.{PutTo}
use Rattle.canonical.proofs.put_groups.Given as goal

abbrev pub invariant-loop-g : goal.invariant-loop-g
invariant-loop-g l = PutTo l.file l.layout l.side l.g 0 l.initial.out l.out
