-- The row's mark and the cells of the two nodes where it hangs come to its weight exactly where the true sums do (`covers-is`).
use mathlib.Core.Path.{◌≡◌, ◌∙◌}
use native.Mathlib.Omega.{arith}
use Rattle.claimfile.specs.Day.{card_node, shop_node}
use Rattle.instance.proofs.RowLaws.{card-hung, shop-hung, weighed}
use Rattle.sheets.proofs.CoverLaws.{covers-is}
use Rattle.sheets.proofs.cover.covers_row.Goals as goal
use Rattle.sheets.proofs.cover.covers_row.Goals.{After-card_node-card, After-shop_node-shop}

-- the two nodes are those where the row hangs
card-is :
    (c : After-card_node-card) →
    let a = c.args in
    c.card_node-card.result ≡ card_node a.file.now a.layout a.c
card-is c =
    let claim = c.claim_of-claim.ensures in
    let a = c.args in
    c.card_node-card.ensures.0 ∙ card-hung a.file.now a.layout a.c _ claim.0 claim.1

shop-is :
    (c : After-shop_node-shop) →
    let a = c.args in
    c.shop_node-shop.result ≡ shop_node a.file.now a.layout a.c
shop-is c =
    let a = c.args in
    c.shop_node-shop.ensures ∙ shop-hung a.file.now a.layout a.c _ c.claim_of-claim.ensures.0

pub returns : goal.returns
returns c =
    let a = c.args in
    covers-is a.file.now a.layout c.requires.0.sound c.requires.0.kinds a.sheet.now a.prices.now c.requires.1
    a.c c.requires.2 _ c.from.result _ _ _
    (c.power.ensures.0
    ∙ weighed a.file.now a.layout a.c _ c.claim_of-claim.ensures.0 a.layout.rows)
    (omega (arith, c.from.ensures)) (card-is (goal.at.returns c).After-card_node-card) (shop-is (goal.at.returns c).After-shop_node-shop) c.price_of-price.ensures.0
