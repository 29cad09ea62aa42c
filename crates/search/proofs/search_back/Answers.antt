-- The start is reached first, and the queue goes on from it against open arcs. The source is not fresh, and so it is not gone on from.
use native.Mathlib.Omega.{arith}
use Rattle.search.proofs.QueueLaws.{lit-seeded, lit-searched}
use Rattle.search.proofs.search_back.Goals as goal

pub spread_in-requires : goal.spread_in-requires
spread_in-requires g c =
    lit-seeded c.requires.asked c.reach.ensures (omega (arith, c.requires.asked.ready.buffers.room.few)) (λ e. c.requires.groups_nonzero)

pub returns : goal.returns
returns g c =
    lit-searched c.requires.asked c.reach.ensures (omega (arith, c.requires.asked.ready.buffers.room.few))
    c.spread_in.ensures
