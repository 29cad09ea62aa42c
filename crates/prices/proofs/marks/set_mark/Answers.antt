-- One cell of the sheet is put, and the others stay (`put-mark`).
use Rattle.prices.proofs.MarkLaws.{put-mark}
use Rattle.prices.proofs.marks.set_mark.Goals as goal

pub returns : goal.returns
returns g c =
    rw c.put.ensures
    (put-mark (g.W.Width.memory c.args.sheet.now) c.args.i c.args.x c.requires.i_in_bounds)
