-- The price of the node above is there, and with the group's own mark it is the group's price (`priced-more`).
use native.Mathlib.Omega.{arith}
use Rattle.sheets.proofs.TableLaws.{priced-more}
use Rattle.sheets.proofs.cover.price_group.Goals as goal

pub returns : goal.returns
returns c =
    let a = c.args in
    priced-more a.file.now a.layout c.requires.0.sound a.sheet.now a.prices.now a.v c.requires.1
    c.requires.2 c.node_at-group.result.parent _ c.node_at-group.ensures.0
    (omega (arith, c.capped.ensures))
