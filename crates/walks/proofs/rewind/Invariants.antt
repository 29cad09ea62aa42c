-- The loop's invariant, `Rewound`: the cells of the nodes below v are their first items, and only the queue changed.
use Rattle.walks.specs.Walk.{Rewound}
use Rattle.walks.proofs.rewind.Given as goal

abbrev pub invariant-loop-v : goal.invariant-loop-v
invariant-loop-v g l = Rewound l.sh (g.W.Width.memory l.initial.scratch) (g.W.Width.memory l.scratch) l.v
