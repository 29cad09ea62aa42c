use Rattle.tables.proofs.WriteLaws.{rows_more}
use Rattle.tables.proofs.write.write_rows.Goals as goal

pub loop-c-preserved : goal.loop-c-preserved
loop-c-preserved g c =
    let a = c.args in
    rows_more a.file.now a.layout a.sh a.spot _ _ _ c.loop-c.c c.loop-c.invariant c.write_row.ensures
