-- Where the search did not meet, no rows make way for the row (`swap-blocked`). Else the path is turned and the row goes in
-- (`swap-crossed`).
use native.Mathlib.Omega.{arith}
use Rattle.order.proofs.SwapLaws.{swap-asked, swap-label, swap-queued, swap-blocked, swap-meeting, swap-crossed}
use Rattle.order.proofs.swap_in.Goals as goal

pub search_both-ends-requires : goal.search_both-ends-requires
search_both-ends-requires g c = swap-asked c.requires

pub overflow_mul-next : goal.overflow_mul-next
overflow_mul-next g c = omega (arith, swap-label c.requires)

pub name_ends-requires : goal.name_ends-requires
name_ends-requires g c =
    record {
      queues = swap-queued c.requires c.search_both-ends.ensures;
      x_lt_cell_bound = swap-label c.requires;
    }

pub overflow_add-result : goal.overflow_add-result
overflow_add-result g c = omega (arith, swap-label c.requires)

pub returns-then-hit-eq0 : goal.returns-then-hit-eq0
returns-then-hit-eq0 g c = swap-blocked c.requires c.search_both-ends.ensures c.if-hit-eq0.true c.name_ends.ensures

pub turn_joined-requires : goal.turn_joined-requires
turn_joined-requires g c = swap-meeting c.requires c.search_both-ends.ensures (omega (arith, c.if-hit-eq0.false))

pub returns : goal.returns
returns g c =
    swap-crossed c.requires c.search_both-ends.ensures c.turn_joined.ensures
    c.set_kept.ensures
