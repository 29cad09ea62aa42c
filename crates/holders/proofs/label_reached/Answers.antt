-- Where the node has a pred it gets the label; else nothing changes.
use Rattle.holders.proofs.FindLaws.{named-yes, named-no}
use Rattle.holders.proofs.label_reached.Goals as goal

pub returns-then-pred-gt0 : goal.returns-then-pred-gt0
returns-then-pred-gt0 g c = named-yes c.pred.ensures c.if-pred-gt0.true c.set_label.ensures

pub returns-else-pred-gt0 : goal.returns-else-pred-gt0
returns-else-pred-gt0 g c = named-no _ c.pred.ensures c.if-pred-gt0.false
