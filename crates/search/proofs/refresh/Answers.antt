use Rattle.search.proofs.QueueLaws.{fresh-none, fresh-more}
use Rattle.search.proofs.refresh.Goals as goal

pub loop-v-init : goal.loop-v-init
loop-v-init g c = fresh-none

pub loop-v-preserved : goal.loop-v-preserved
loop-v-preserved g c =
    fresh-more c.loop-v.invariant c.set_label.ensures
