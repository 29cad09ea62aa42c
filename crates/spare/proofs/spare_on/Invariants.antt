-- `spare_on` meets its contract. With the sides before `side` done, the selection fits them, and the number is the greatest, up to 65535,
-- for which each group that the row counts in there has places (`Sides`). The inner loop keeps the same of the groups in the first k
-- cells of the row's chain (`Groups`). Where a side does not fit, or a group has no place left, the number is 0 whatever is left.
use Rattle.spare.proofs.SpareLaws.{Sides, Groups}
use Rattle.spare.proofs.spare_on.Given as goal

abbrev pub invariant-loop-k : goal.invariant-loop-k
invariant-loop-k l = Groups l.file l.selection l.layout l.row l.side l.initial.spare l.list l.k l.spare

abbrev pub invariant-sides : goal.invariant-sides
invariant-sides l = Sides l.file l.selection l.layout l.row l.side l.spare
