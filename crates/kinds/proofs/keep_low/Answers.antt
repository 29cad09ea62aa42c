use native.Mathlib.Omega.{arith}
use Rattle.kinds.proofs.LowLaws.{keeping_none, keeping-more, keeping_all}
use Rattle.kinds.proofs.keep_low.Goals as goal

pub loop-i-init : goal.loop-i-init
loop-i-init c = keeping_none c.args.cells.now

pub loop-i-preserved : goal.loop-i-preserved
loop-i-preserved c = keeping-more c.args.cells.now c.loop-i.cells c.loop-i.i c.loop-i.invariant (omega arith)

pub returns : goal.returns
returns c = keeping_all c.args.cells.now c.loop-i.cells c.loop-i.i c.loop-i.invariant (omega arith)
