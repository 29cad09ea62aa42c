use Rattle.prices.proofs.MarkLaws.{priced-long, marking-none, marking-row}
use Rattle.prices.proofs.marks.mark_rows.Goals as goal
use Rattle.prices.proofs.marks.mark_rows.Goals.{Start}

pub loop-c-init : goal.loop-c-init
loop-c-init g c = marking-none c.args.sh (g.W.Width.memory c.args.sheet.now) (g.W.Width.memory c.args.scratch.now)

pub mark_row-requires-clause-priced : goal.mark_row-requires-clause-priced
mark_row-requires-clause-priced g c =
    priced-long c.args.sh (g.W.Width.memory c.args.sheet.now) (g.W.Width.memory c.args.scratch.now) (g.W.Width.memory c.loop-c.sheet)
    c.loop-c.invariant.long c.requires

pub loop-c-preserved : goal.loop-c-preserved
loop-c-preserved g c =
    marking-row c.args.sh (g.W.Width.memory c.args.sheet.now) (g.W.Width.memory c.args.scratch.now) (g.W.Width.memory c.loop-c.sheet) c.loop-c.c
    c.loop-c.invariant
    (g.W.Width.memory c.mark_row.new.sheet)
    c.mark_row.ensures
