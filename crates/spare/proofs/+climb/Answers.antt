-- At the top the list holds one group more; else the walk goes on from the parent.
use native.Mathlib.Omega.{arith}
use Rattle.spare.proofs.ChainLaws.{climbed-top, climbed-up}
use Rattle.spare.proofs.+climb.Goals as goal

pub returns-then-g-up : goal.returns-then-g-up
returns-then-g-up t c =
    let a = c.args in
    climbed-top a.ups.now a.g a.n c.from-up.result a.list.now (omega arith) c.from-up.ensures
    (omega arith)

pub returns : goal.returns
returns t c =
    let a = c.args in
    climbed-up a.ups.now a.g a.n c.from-up.result a.list.now (omega arith) c.from-up.ensures
    (omega arith) _ c.climb.result c.climb.ensures
