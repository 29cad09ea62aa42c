-- The number of an arc says where it leads from (`tail-down`, `tail-row`, `tail-up`).
use mathlib.Core.Path.{sym, ◌∙◌}
use Rattle.walks.proofs.WalkLaws.{tail-down, tail-kept, tail-left, tail-up}
use Rattle.walks.proofs.walk.tail.Goals as goal

pub returns-then-e-g : goal.returns-then-e-g
returns-then-e-g g c = tail-down c.requires.good c.pred-e.ensures c.if-e-g.true c.parent.ensures

pub returns-then-kept-eq1 : goal.returns-then-kept-eq1
returns-then-kept-eq1 g c =
    tail-kept c.requires.good c.pred-e.ensures c.if-e-g.false c.if-e-g-2.true
    (sym c.kept.ensures ∙ c.if-kept-eq1.true) c.shop.ensures

pub returns-then-e-g-2 : goal.returns-then-e-g-2
returns-then-e-g-2 g c =
    tail-left c.requires.good c.pred-e.ensures c.if-e-g.false c.if-e-g-2.true
    (λ z. c.if-kept-eq1.false (c.kept.ensures ∙ z)) c.card.ensures

pub returns : goal.returns
returns g c = tail-up c.requires.good c.pred-e.ensures c.if-e-g-2.false
