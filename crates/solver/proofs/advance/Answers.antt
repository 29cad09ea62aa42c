-- Where the round turned paths, more rows are kept (`moved-round`). Else the toll falls, and what the round changed is not read by the
-- state (`moved-stuck`).
use Rattle.solver.proofs.TollLaws.{running-begun, stuck-cutting, moved-stuck, moved-round}
use Rattle.solver.proofs.advance.Goals as goal

pub turn_more-requires : goal.turn_more-requires
turn_more-requires g c = running-begun c.requires

pub returns-then-turn_more : goal.returns-then-turn_more
returns-then-turn_more g c = moved-round (c.turn_more.ensures.path c.if-turn_more.true)

pub next_toll-requires : goal.next_toll-requires
next_toll-requires g c =
    let stuck = c.turn_more.ensures.none c.if-turn_more.false in
    stuck-cutting c.requires stuck.0.0 stuck.0.1 stuck.1

pub returns : goal.returns
returns g c =
    let stuck = c.turn_more.ensures.none c.if-turn_more.false in
    moved-stuck stuck.0.0 stuck.0.1 c.next_toll.ensures
