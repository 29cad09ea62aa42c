-- The rows are marked first, while all prices are there, and then the groups, whose cells no row's mark uses (`marking-both`).
use Rattle.prices.proofs.MarkLaws.{priced-long, marking-both}
use Rattle.prices.proofs.marks.read_marks.Goals as goal
use Rattle.prices.proofs.marks.read_marks.Goals.{Start}

pub mark_groups-requires : goal.mark_groups-requires
mark_groups-requires g c =
    priced-long c.args.sh (g.W.Width.memory c.args.sheet.now) (g.W.Width.memory c.args.scratch.now)
    (g.W.Width.memory c.mark_rows.new.sheet)
    c.mark_rows.ensures.long c.requires

pub returns : goal.returns
returns g c =
    marking-both c.args.sh (g.W.Width.memory c.args.sheet.now) (g.W.Width.memory c.args.scratch.now)
    (g.W.Width.memory c.mark_rows.new.sheet) c.args.sh.rows
    c.mark_rows.ensures
    (g.W.Width.memory c.mark_groups.new.sheet)
    c.mark_groups.ensures
