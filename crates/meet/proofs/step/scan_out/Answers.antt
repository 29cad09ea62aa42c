-- The arc to the parent comes before the items: together these are all steps from the node (`scanned-all`), until one leads to the other
-- end.
use Rattle.meet.proofs.StepLaws.{side-told}
use Rattle.meet.proofs.ScanLaws.{scanned-hit, scanned-on, scanned-all}
use Rattle.meet.proofs.step.scan_out.Goals as goal

pub returns-then-hit-gt0 : goal.returns-then-hit-gt0
returns-then-hit-gt0 g c = scanned-hit c.requires c.look_above-above.ensures c.if-hit-gt0.true

pub look_items-requires : goal.look_items-requires
look_items-requires g c =
    record {
      opened = scanned-on c.requires c.look_above-above.ensures c.if-hit-gt0.false;
      side_of = side-told _ c.args.u
          c.requires.node;
    }

pub returns : goal.returns
returns g c = scanned-all c.requires c.look_above-above.ensures c.if-hit-gt0.false c.look_items.ensures
