-- Before the first row nothing is counted.
use Rattle.selection.proofs.CountLaws.{counted_none}
use Rattle.selection.proofs.count_rows.Goals as goal

pub loop-c-init : goal.loop-c-init
loop-c-init c =
    let a = c.args in
    counted_none a.file.now a.layout a.kind a.selection.now
