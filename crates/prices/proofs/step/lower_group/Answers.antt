-- The arc down to group v runs from its parent to v and the one up the other way (`along-down`, `along-up`); both are looked at, one after the
-- other (`groups-one`).
use Rattle.prices.proofs.StepLaws.{along-down, along-up, groups-one}
use Rattle.prices.proofs.step.lower_group.Goals as goal

pub lower-below-requires-clause-along_of : goal.lower-below-requires-clause-along_of
lower-below-requires-clause-along_of g c =
    along-down _ _ c.requires.ready.formed c.requires.v_lt_groups c.parent-p.ensures

pub lower-requires-clause-along_of : goal.lower-requires-clause-along_of
lower-requires-clause-along_of g c =
    along-up _ _ c.requires.ready.formed c.requires.v_lt_groups c.parent-p.ensures

pub returns : goal.returns
returns g c = groups-one c.lower-below.ensures c.lower.ensures
