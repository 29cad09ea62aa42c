-- The two nodes of a row are read from their tables.
use mathlib.Core.Path.{◌∙◌}
use Rattle.scratch.specs.Map.{card_of, shop_of}
use Rattle.look.proofs.StepLaws.{pick_yes, pick_no}
use Rattle.meet.proofs.step.across.Goals as goal

pub returns-then-shops : goal.returns-then-shops
returns-then-shops g c =
    c.card.ensures ∙ pick_yes _
    (shop_of c.args.sh (g.W.Width.memory c.args.scratch.now)
    c.args.c) c.if-shops.true

pub returns : goal.returns
returns g c =
    c.shop.ensures ∙ pick_no
    (card_of c.args.sh (g.W.Width.memory c.args.scratch.now)
    c.args.c) _ c.if-shops.false
