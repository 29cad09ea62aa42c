-- A climb that comes to the root took all places (`tried-all`). One that ends at a group without a place took those below it, and the same
-- walk gives them back; the marks that are set then are no places (`tried-none`).
use Rattle.scratch.proofs.MapLaws.{keeps_then}
use Rattle.moves.proofs.PlaceLaws.{above-places, rooted-places, ready-climbed, tried-all, tried-none}
use Rattle.moves.proofs.fill.take_places.Goals as goal

pub give_back-requires-clause-above : goal.give_back-requires-clause-above
give_back-requires-clause-above g c =
    let C = c.climb-top.ensures in
    above-places C.shifts.only C.above

pub give_back-requires-clause-low : goal.give_back-requires-clause-low
give_back-requires-clause-low g c =
    let C = c.climb-top.ensures in
    let ready = ready-climbed (c.requires.rooted, c.requires.low) C in
    ready.1

pub shut_up_to-requires : goal.shut_up_to-requires
shut_up_to-requires g c =
    rooted-places (keeps_then c.climb-top.ensures.shifts.only c.give_back.ensures.only)
    c.requires.rooted

pub returns-then-top-g : goal.returns-then-top-g
returns-then-top-g g c =
    tried-none c.climb-top.ensures c.if-top-g.true c.give_back.ensures
    c.shut_up_to.ensures

pub returns-else-top-g : goal.returns-else-top-g
returns-else-top-g g c = tried-all c.climb-top.ensures c.if-top-g.false
