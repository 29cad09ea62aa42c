-- Along an item the way is that of its arc; past all items it is the way up, if there is one.
use Rattle.walks.proofs.WayLaws.{standing-item, onto-ways, card-group, ways-up}
use Rattle.walks.proofs.ways.way_from.Goals as goal

pub way_along-requires-clause-at_item : goal.way_along-requires-clause-at_item
way_along-requires-clause-at_item g c =
    standing-item c.requires.standing c.requires.chosen.point c.if-j-end.true

pub returns-then-j-end : goal.returns-then-j-end
returns-then-j-end g c = onto-ways c.way_along.ensures

pub way_up-requires-clause-u_lt_groups : goal.way_up-requires-clause-u_lt_groups
way_up-requires-clause-u_lt_groups g c =
    card-group c.requires.standing

pub returns : goal.returns
returns g c = ways-up c.requires.standing c.if-j-end.false c.way_up.ensures
