use mathlib.Core.Path.{refl}
use Rattle.scratch.proofs.MapLaws.{keeps-none, keeps_then, put_keeps}
use Rattle.moves.proofs.fill.open_all.Goals as goal

pub loop-v-init : goal.loop-v-init
loop-v-init g c = keeps-none

pub loop-v-preserved : goal.loop-v-preserved
loop-v-preserved g c = keeps_then c.loop-v.invariant (put_keeps refl c.set_queue.ensures)
