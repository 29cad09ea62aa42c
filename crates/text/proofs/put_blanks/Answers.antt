-- A blank more is one append more, and the blanks so far are fewer than the ones that there is room for.
use Rattle.std.proofs.Common.{arith}
use Rattle.text.specs.Text.{blanks}
use Rattle.text.proofs.TextLaws.{blanks-more, blanks-length}
use Rattle.text.proofs.BufferLaws.{none, then}
use Rattle.text.proofs.put_blanks.Goals as goal

pub loop-init : goal.loop-init
unfolding blanks
loop-init c = none c.args.out.now c.args.at

pub put-next-requires : goal.put-next-requires
put-next-requires c = omega (arith, blanks-length)

pub loop-preserved : goal.loop-preserved
loop-preserved c = rw blanks-more (then c.loop.invariant c.put-next.ensures)
