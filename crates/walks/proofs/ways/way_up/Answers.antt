-- Where the parent can be reached, the way leads there (`onto-of`); else, and where `rises` does not hold, there is none.
use mathlib.Core.Path.{refl, sym, ◌∙◌}
use mathlib.Core.Bool.{true≢false}
use Rattle.walks.proofs.WayLaws.{rise-leads, onto-of, onto-ways, ways-none}
use Rattle.walks.proofs.ways.way_up.Goals as goal

pub returns-then-goes_up : goal.returns-then-goes_up
returns-then-goes_up g c =
    let W = c.requires.standing in
    onto-ways
    (onto-of (rise-leads W.ready refl refl refl (c.requires.u_lt_groups c.if-rises.true) c.parent-v.ensures) refl W.stale
    (c.goes_up.ensures.yes c.if-goes_up.true))

pub returns-else-goes_up : goal.returns-else-goes_up
returns-else-goes_up g c = ways-none refl (λ e r F. c.goes_up.ensures.no c.if-goes_up.false (rw r.1 at F))

pub returns-else-rises : goal.returns-else-rises
returns-else-rises g c = ways-none refl (λ e r F. true≢false (sym r.0 ∙ c.if-rises.false))
