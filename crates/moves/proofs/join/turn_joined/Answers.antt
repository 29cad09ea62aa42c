-- The spliced way is a path (`join-path`). Turning it leaves labels and queue, so both ends still stand in the queue, and their nodes are
-- made fresh again (`join-exchanged`).
use Rattle.moves.proofs.JoinLaws.{join-path, join_first, join-second, join-exchanged}
use Rattle.moves.proofs.join.turn_joined.Goals as goal

pub flip-requires : goal.flip-requires
flip-requires g c = join-path c.requires c.splice.ensures

pub relabel-requires-clause-queued : goal.relabel-requires-clause-queued
relabel-requires-clause-queued g c =
    join_first c.requires c.splice.ensures c.flip.ensures

pub relabel_last-requires-clause-queued : goal.relabel_last-requires-clause-queued
relabel_last-requires-clause-queued g c =
    join-second c.requires c.splice.ensures c.flip.ensures c.relabel.ensures

pub returns : goal.returns
returns g c =
    join-exchanged c.requires c.splice.ensures c.flip.ensures c.relabel.ensures
    c.relabel_last.ensures
