use mathlib.Core.Path.{◌∙◌}
use native.Mathlib.Omega.{arith}
use Rattle.search.proofs.QueueLaws.{labels-none, labels-read, labels-more}
use Rattle.search.proofs.relabel.Goals as goal

pub loop-i-init : goal.loop-i-init
loop-i-init g c = labels-none

pub set_label-requires-clause-v_bound : goal.set_label-requires-clause-v_bound
set_label-requires-clause-v_bound g c =
    let L = c.loop-i in
    omega (arith, c.queue-v.ensures, labels-read L.invariant c.loop-i.i, c.requires.queued.node c.loop-i.i c.loop-i-test.true)

pub loop-i-preserved : goal.loop-i-preserved
loop-i-preserved g c =
    labels-more c.loop-i.invariant (c.queue-v.ensures ∙ labels-read c.loop-i.invariant c.loop-i.i) c.set_label.ensures
