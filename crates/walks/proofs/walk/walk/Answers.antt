-- The source gets a label that no arc has; then the walk may begin (`lit-set`), and what it finds is a walk from every node fresh
-- (`lit-walk`).
use Rattle.walks.proofs.WalkLaws.{source-small, lit-set, lit-walk}
use Rattle.walks.proofs.walk.walk.Goals as goal

pub wander-requires : goal.wander-requires
wander-requires g c = lit-set _ c.requires.begun c.set_label.ensures (source-small c.requires.begun) c.requires.ahead

pub returns : goal.returns
returns g c = lit-walk _ c.requires.begun c.set_label.ensures (source-small c.requires.begun) c.wander.ensures
