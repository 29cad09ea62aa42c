-- Where a shop has a way up, it is that one (`went_up`); else what there is along the items, and then up from a card (`went-both`).
use Rattle.walks.proofs.WayLaws.{shop-group, went_up, went-both}
use Rattle.walks.proofs.ways.next_way.Goals as goal

pub way_up-up-requires-clause-u_lt_groups : goal.way_up-up-requires-clause-u_lt_groups
way_up-up-requires-clause-u_lt_groups g c =
    shop-group c.requires

pub returns-then-up-u : goal.returns-then-up-u
returns-then-up-u g c = went_up c.requires c.if-up-u.true c.way_up-up.ensures

pub returns : goal.returns
returns g c = went-both c.if-up-u.false c.way_up-up.ensures c.way_on.ensures
