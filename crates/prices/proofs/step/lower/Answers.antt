-- An arc whose first end is not reached, or whose second one is, does not leave the reached nodes (`lower-stays`). Of the others the slack
-- counts where it is less than `best` and the arc is usable (`lower-take`), and else it does not (`lower-keep`, `lower-shut`).
use Rattle.prices.proofs.StepLaws.{lower-stays, lower-take, lower-keep, lower-shut}
use Rattle.prices.proofs.step.lower.Goals as goal

pub returns-then-stays : goal.returns-then-stays
returns-then-stays g c = lower-stays c.requires.along_of c.pred.ensures c.pred-2.ensures c.if-stays.true

pub returns-then-slack-best : goal.returns-then-slack-best
returns-then-slack-best g c = lower-keep c.arc-a.ensures c.if-slack-best.true

pub returns-then-usable : goal.returns-then-usable
returns-then-usable g c =
    lower-take c.requires.along_of c.pred.ensures c.pred-2.ensures c.arc-a.ensures
    c.if-stays.false
    c.if-usable.true c.if-slack-best.false

pub returns : goal.returns
returns g c = lower-shut c.arc-a.ensures c.if-usable.false
