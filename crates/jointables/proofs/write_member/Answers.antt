-- The layout that the counts give is the one that was accepted, so the file is written where it stands. The memory of 32-bit cells is the
-- slice itself.
use Rattle.jointables.proofs.FilesLaws.{member-stands, member-small, wrote-member}
use Rattle.jointables.proofs.write_member.Goals as goal

pub layout_in-layout-requires : goal.layout_in-layout-requires
layout_in-layout-requires c = c.requires.accepted

pub write_file-requires : goal.write_file-requires
write_file-requires c = member-stands _ _ c.args.sh c.args.spot _ c.requires _ c.layout_in-layout.ensures

pub after-requires : goal.after-requires
after-requires c = member-small _ _ c.args.sh c.args.spot _ c.requires _ c.layout_in-layout.ensures

pub returns : goal.returns
returns c =
    wrote-member _ _ c.args.sh c.args.spot _ c.requires _ c.layout_in-layout.ensures _ _
    c.write_file.auto.scratch c.write_file.ensures c.after.ensures
