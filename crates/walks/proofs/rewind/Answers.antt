use Rattle.walks.proofs.RoundLaws.{rewound-none, rewound-more, first-half}
use Rattle.walks.proofs.rewind.Goals as goal

pub loop-v-init : goal.loop-v-init
loop-v-init g c = rewound-none

pub set_queue-requires-clause-x_lt_half : goal.set_queue-requires-clause-x_lt_half
set_queue-requires-clause-x_lt_half g c =
    first-half _ c.loop-v.invariant c.first-j.ensures

pub loop-v-preserved : goal.loop-v-preserved
loop-v-preserved g c = rewound-more c.loop-v.invariant c.first-j.ensures c.set_queue.ensures
