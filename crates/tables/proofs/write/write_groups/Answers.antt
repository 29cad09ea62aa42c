use Rattle.tables.proofs.WriteLaws.{groups-more}
use Rattle.tables.proofs.write.write_groups.Goals as goal

pub loop-g-preserved : goal.loop-g-preserved
loop-g-preserved g c =
    let a = c.args in
    groups-more a.file.now a.layout a.side a.first a.root a.sh c.requires.over _ _ _ c.loop-g.g
    c.loop-g.invariant c.write_group.ensures
