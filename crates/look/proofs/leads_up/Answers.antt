-- The arc is open where the prices are the same and the group's side asks for no place, or it has one left.
use Rattle.look.proofs.LookLaws.{up-leads}
use Rattle.look.proofs.leads_up.Goals as goal

pub returns : goal.returns
returns g c =
    up-leads _ _ _ _ c.args.back c.price.ensures.0 c.price_above.ensures c.requires.u_lt_groups.0 c.requires.u_lt_groups.1
    c.pick-easy.ensures c.spare.ensures
