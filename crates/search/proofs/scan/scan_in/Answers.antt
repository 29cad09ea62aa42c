-- The up arc of a card comes before the items, and that of a shop group after them: together these are all steps from the node.
use Rattle.search.proofs.ScanLaws.{open-on, scanned-items, scanned-more, scanned-all, rising-card, rising-shop}
use Rattle.search.proofs.scan.scan_in.Goals as goal

pub look_above-k-requires-clause-u_lt_groups : goal.look_above-k-requires-clause-u_lt_groups
look_above-k-requires-clause-u_lt_groups g c =
    let O = c.requires in
    rising-card O

pub items_in-m-requires : goal.items_in-m-requires
items_in-m-requires g c = open-on c.requires c.look_above-k.ensures

pub look_above-requires : goal.look_above-requires
look_above-requires g c =
    let O = c.requires in
    record {
      opened = open-on O (scanned-items O c.look_above-k.ensures c.items_in-m.ensures);
      u_lt_groups = rising-shop c.args.sh c.args.u;
    }

pub returns : goal.returns
returns g c =
    let O = c.requires in
    scanned-all O.free
    (scanned-more O (scanned-items O c.look_above-k.ensures c.items_in-m.ensures) c.look_above.ensures)
