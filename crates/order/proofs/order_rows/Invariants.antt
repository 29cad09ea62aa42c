-- The loop's invariant, `Placed`: the rows below i are in order and in no list, and there are `next` classes. Placing row i gives the same for
-- i + 1 (`placed-then`).
use Rattle.order.specs.Order.{Placed}
use Rattle.order.proofs.order_rows.Given as goal

abbrev pub invariant-loop-i : goal.invariant-loop-i
invariant-loop-i g l = Placed l.sh l.initial.choice (g.W.Width.memory l.sheet) (g.W.Width.memory l.initial.scratch) l.choice (g.W.Width.memory l.scratch) l.i l.next
