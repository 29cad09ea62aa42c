-- Two stores: the label says by which arc v was reached, and the queue says in which place. Each leaves the other table alone
-- (`reached-of`).
use Rattle.look.proofs.StepLaws.{reached-of}
use Rattle.look.proofs.reach.Goals as goal

pub returns : goal.returns
returns g c = reached-of c.set_label.ensures c.set_queue.ensures
