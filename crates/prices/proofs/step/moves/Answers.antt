-- A price rises at a card group that is not reached (`moving-card`) and at a shop group that is (`moving-shop`); the pred says which is
-- reached.
use Rattle.prices.proofs.StepLaws.{moving-card, moving-shop}
use Rattle.prices.proofs.step.moves.Goals as goal

pub returns-then-v-cards : goal.returns-then-v-cards
returns-then-v-cards g c = moving-card c.pred-by.ensures c.if-v-cards.true

pub returns : goal.returns
returns g c = moving-shop c.pred-by.ensures c.if-v-cards.false
