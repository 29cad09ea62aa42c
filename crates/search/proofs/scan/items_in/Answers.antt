use Rattle.search.proofs.ScanLaws.{open-node, open-look, along-first, along-next, along-open, along-item, along-end}
use Rattle.search.proofs.scan.items_in.Goals as goal

pub first-j-requires-clause-v_bound : goal.first-j-requires-clause-v_bound
first-j-requires-clause-v_bound g c =
    let O = c.requires in
    open-node O

pub loop-j-init : goal.loop-j-init
loop-j-init g c = along-first c.requires c.first-j.ensures

pub look_item-k-requires : goal.look_item-k-requires
look_item-k-requires g c =
    let O = c.requires in
    record {
      looking = open-look O c.loop-j.invariant.scan;
      at_item = along-open O c.loop-j.invariant c.loop-j-test.true;
    }

pub after-j-requires : goal.after-j-requires
after-j-requires g c =
    along-item c.requires c.loop-j.invariant
    c.loop-j-test.true
    c.look_item-k.ensures

pub loop-j-preserved : goal.loop-j-preserved
loop-j-preserved g c = along-next c.requires c.loop-j.invariant
    c.look_item-k.ensures
    c.after-j.ensures

pub returns : goal.returns
returns g c =
    along-end c.requires c.loop-j.invariant
    c.loop-j-test.false
