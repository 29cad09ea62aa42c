use native.Mathlib.Omega.{arith}
use Rattle.order.proofs.OrderLaws.{placed-start, placed-then, placed-all, at_next}
use Rattle.order.proofs.order_rows.Goals as goal

pub loop-i-init : goal.loop-i-init
loop-i-init g c = placed-start c.requires

pub place_row-next-requires-clause-placing : goal.place_row-next-requires-clause-placing
place_row-next-requires-clause-placing g c =
    let P = c.loop-i.invariant in
    record {
      at = at_next P.filled c.requires.none (omega (arith, c.loop-i-test.true)) P.order;
      classes = P.classes;
    }

pub loop-i-preserved : goal.loop-i-preserved
loop-i-preserved g c = placed-then c.loop-i.invariant.filled c.place_row-next.ensures

pub returns : goal.returns
returns g c = placed-all c.loop-i.invariant (omega arith)
