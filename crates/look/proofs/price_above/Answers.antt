-- A root has price 0: where v is no group, a price that is not used is read at u.
use Rattle.look.proofs.LookLaws.{price-told}
use Rattle.look.proofs.price_above.Goals as goal

pub returns : goal.returns
returns g c =
    let a = c.args in
    price-told a.sh (g.W.Width.memory a.sheet.now) a.u a.v c.pick-at.ensures
    c.price.ensures.0 c.pick.ensures
