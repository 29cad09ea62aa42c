use Prim.Native.Nat.{◌-◌}
use native.Mathlib.Omega.{arith}
use Rattle.prices.proofs.MarkLaws.{priced-long, marking-none, marking-group}
use Rattle.prices.proofs.marks.mark_groups.Goals as goal
use Rattle.prices.proofs.marks.mark_groups.Goals.{Start}

pub loop-v-init : goal.loop-v-init
loop-v-init g c = marking-none c.args.sh (g.W.Width.memory c.args.sheet.now) (g.W.Width.memory c.args.scratch.now)

pub mark_group-requires-clause-priced : goal.mark_group-requires-clause-priced
mark_group-requires-clause-priced g c =
    priced-long c.args.sh (g.W.Width.memory c.args.sheet.now) (g.W.Width.memory c.args.scratch.now) (g.W.Width.memory c.loop-v.sheet)
    c.loop-v.invariant.long c.requires

pub loop-v-preserved : goal.loop-v-preserved
loop-v-preserved g c =
    marking-group c.args.sh (g.W.Width.memory c.args.sheet.now) (g.W.Width.memory c.args.scratch.now) (g.W.Width.memory c.loop-v.sheet) c.loop-v.v
    (c.loop-v.v - 1)
    (omega arith) c.requires (omega arith) c.loop-v.invariant
    (g.W.Width.memory c.mark_group.new.sheet)
    c.mark_group.ensures
