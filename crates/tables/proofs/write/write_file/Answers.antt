-- The card groups, the shop groups and the rows, one after the other, are the file; none of them takes a place from the next.
use mathlib.Core.Path.{◌∙◌}
use Rattle.tables.proofs.WriteLaws.{stands-keeps, stands-cards, stands-shops}
use Rattle.tables.proofs.write.write_file.Goals as goal

pub write_groups-requires : goal.write_groups-requires
write_groups-requires g c = stands-cards _ _ c.args.sh c.args.spot _ c.requires

pub write_groups-requires-2 : goal.write_groups-requires-2
write_groups-requires-2 g c =
    stands-shops _ _ c.args.sh c.args.spot _
    (stands-keeps _ _ c.args.sh c.args.spot _ _ c.write_groups.ensures.keeps.long c.requires)

pub write_rows-requires : goal.write_rows-requires
write_rows-requires g c =
    stands-keeps _ _ c.args.sh c.args.spot _ _
    (c.write_groups-2.ensures.keeps.long ∙ c.write_groups.ensures.keeps.long) c.requires
