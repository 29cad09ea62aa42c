-- Where the walk came to the sink the path is turned and every node is fresh again (`crossed-turn`); else only label and queue changed
-- (`halted-turn`).
use Rattle.walks.proofs.RoundLaws.{flip-room, crossed-turn, halted-turn}
use Rattle.walks.proofs.turn_next.Goals as goal

pub refresh-requires : goal.refresh-requires
refresh-requires g c = flip-room c.requires.begun c.walk.ensures c.flip.ensures

pub returns-then-walk : goal.returns-then-walk
returns-then-walk g c = crossed-turn c.requires.begun c.walk.ensures c.flip.ensures c.refresh.ensures

pub returns : goal.returns
returns g c = halted-turn c.requires.begun c.walk.ensures c.if-walk.false
