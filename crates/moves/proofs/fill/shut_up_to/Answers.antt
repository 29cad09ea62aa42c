use mathlib.Core.Path.{refl}
use Rattle.scratch.proofs.MapLaws.{keeps-none, keeps_then, put_keeps}
use Rattle.moves.proofs.PlaceLaws.{marks-places, depth_falls}
use Rattle.moves.proofs.fill.shut_up_to.Goals as goal

pub loop-v-init : goal.loop-v-init
loop-v-init g c = keeps-none

pub returns-then-v-end : goal.returns-then-v-end
returns-then-v-end g c = keeps_then c.loop-v.invariant (put_keeps refl c.set_queue.ensures)

pub loop-v-smaller : goal.loop-v-smaller
loop-v-smaller g c =
    depth_falls c.requires (marks-places (keeps_then c.loop-v.invariant (put_keeps refl c.set_queue.ensures)))
    c.loop-v-test.true c.parent-v.ensures

pub loop-v-preserved : goal.loop-v-preserved
loop-v-preserved g c = keeps_then c.loop-v.invariant (put_keeps refl c.set_queue.ensures)
