-- `rise_on` meets its contract: what `count_rows` leaves is where `rise` begins, for the selected rows.
use Rattle.sides.proofs.CountLaws.{counted-begun, placed}
use Rattle.sides.proofs.rise_on.Goals as goal

pub rise-requires : goal.rise-requires
rise-requires c =
    let a = c.args in
    counted-begun a.file.now a.selection.now a.layout a.side _ c.requires.ready c.count_rows.ensures

pub returns : goal.returns
returns c =
    let a = c.args in
    placed a.file.now a.selection.now a.layout a.side _ c.requires.ready c.count_rows.ensures _
    c.rise.result c.rise.auto.counts c.rise.ensures
