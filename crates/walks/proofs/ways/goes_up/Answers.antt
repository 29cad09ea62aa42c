-- The arc up leads to the parent alone (`rise-leads`); so there is a way by it where it is open and the parent is fresh.
use mathlib.Core.Path.{refl, sym, ◌∙◌}
use borrow.Author.Tests.{eqb-true, eqb-false}
use Rattle.look.proofs.StepLaws.{up-node}
use Rattle.walks.proofs.WayLaws.{leads-room, rise-shut, rise-leads, goes-fresh, goes-stale}
use Rattle.walks.proofs.ways.goes_up.Goals as goal

pub is_fresh-requires-clause-v_bound : goal.is_fresh-requires-clause-v_bound
is_fresh-requires-clause-v_bound g c =
    up-node c.requires.ready c.requires.u_lt_groups.0 c.requires.u_lt_groups.1

pub returns-then-room : goal.returns-then-room
returns-then-room g c =
    goes-fresh
    (leads-room c.if-room.true
    (rise-leads c.requires.ready c.price.ensures.0 c.price-then-room.ensures.0 c.spare.ensures
    c.requires.u_lt_groups.0 c.requires.u_lt_groups.1))
    (eqb-true _ _ (sym c.is_fresh.ensures ∙ c.if-is_fresh.true))

pub returns-else-room : goal.returns-else-room
returns-else-room g c = rise-shut c.requires.ready c.spare.ensures c.requires.u_lt_groups.0 c.requires.u_lt_groups.1 c.if-room.false

pub returns-else-is_fresh : goal.returns-else-is_fresh
returns-else-is_fresh g c =
    goes-stale (rise-leads c.requires.ready refl refl refl c.requires.u_lt_groups.0 c.requires.u_lt_groups.1)
    (eqb-false _ _ (sym c.is_fresh.ensures ∙ c.if-is_fresh.false))
