-- The arc down leads to v alone (`fall-leads`); so there is a way by it where it is open and v is fresh.
use mathlib.Core.Path.{refl, sym, ◌∙◌}
use borrow.Author.Tests.{eqb-true, eqb-false}
use Rattle.walks.proofs.WayLaws.{fall-leads, goes-fresh, goes-stale}
use Rattle.walks.proofs.ways.goes_down.Goals as goal

pub returns-then-is_fresh : goal.returns-then-is_fresh
returns-then-is_fresh g c =
    goes-fresh (fall-leads c.requires.ready c.requires.child_item c.spare.ensures)
    (eqb-true _ _ (sym c.is_fresh.ensures ∙ c.if-is_fresh.true))

pub returns : goal.returns
returns g c =
    goes-stale (fall-leads c.requires.ready c.requires.child_item refl) (eqb-false _ _ (sym c.is_fresh.ensures ∙ c.if-is_fresh.false))
