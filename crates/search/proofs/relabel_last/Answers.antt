use mathlib.Core.Path.{◌∙◌}
use Prim.Native.Nat.{◌+◌, ◌-◌}
use native.Mathlib.Omega.{arith}
use Rattle.search.proofs.QueueLaws.{labels-none, labels-read, labels-more}
use Rattle.search.proofs.relabel_last.Goals as goal

pub loop-i-init : goal.loop-i-init
loop-i-init g c = labels-none

pub set_label-requires-clause-v_bound : goal.set_label-requires-clause-v_bound
set_label-requires-clause-v_bound g c =
    let L = c.loop-i in
    let at = c.args.sh.groups + 2 - L.i in
    omega (
      arith,
      c.queue-v.ensures,
      labels-read L.invariant at,
      c.requires.queued.node L.i
          c.loop-i-test.true,
    )

pub loop-i-preserved : goal.loop-i-preserved
loop-i-preserved g c =
    let L = c.loop-i in
    let at = c.args.sh.groups + 2 - L.i in labels-more L.invariant (c.queue-v.ensures ∙ labels-read L.invariant at) c.set_label.ensures
