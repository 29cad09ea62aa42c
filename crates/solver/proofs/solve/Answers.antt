-- Each call leaves what the next one asks. The start runs at the whole toll (`started-running`), the toll that is lowered leaves a state at
-- toll 0 (`lowered-paid`), the rows in order keep its prices (`arranged-priced`), and the marks that are read off them certify the choice
-- (`solved`).
use mathlib.Core.Path.{sym, ◌∙◌}
use Rattle.solver.proofs.SolveLaws.{started-running, lowered-paid, arranged-priced, solved}
use Rattle.solver.proofs.solve.Goals as goal

pub lower_toll-requires : goal.lower_toll-requires
lower_toll-requires g c = started-running c.requires.tables c.start.ensures

pub order_rows-requires : goal.order_rows-requires
order_rows-requires g c = rw c.with_toll-paid.ensures (lowered-paid c.requires.tables c.start.ensures c.lower_toll.ensures)

pub read_marks-requires : goal.read_marks-requires
read_marks-requires g c =
    let long = g.met.W.Width.memory_long in
    rw c.with_toll-paid.ensures
    (arranged-priced c.requires.tables c.start.ensures c.lower_toll.ensures
    (rw c.with_toll-paid.ensures at c.order_rows.ensures)
    c.requires.marks
    (long c.lower_toll.new.sheet ∙ c.lower_toll.auto.sheet ∙ c.start.auto.sheet ∙ sym (long c.args.sheet.now)))

pub returns : goal.returns
returns g c =
    solved c.requires.tables c.start.ensures c.lower_toll.ensures
    (rw c.with_toll-paid.ensures at c.order_rows.ensures)
    (rw c.with_toll-paid.ensures at c.read_marks.ensures)
