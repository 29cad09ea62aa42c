-- Groups and rows that are formed one by one, on sides of the given sizes, are a network.
use native.Mathlib.Omega.{arith}
use Rattle.solver_probe.proofs.TestLaws.{sides-crossed, groups-fault, network-rows}
use Rattle.solver_probe.proofs.is_network.Goals as goal

pub returns-then-sh : goal.returns-then-sh
returns-then-sh c = sides-crossed _ _ _ (omega (arith, c.if-sh.true))

pub returns-then-not-groups_formed : goal.returns-then-not-groups_formed
returns-then-not-groups_formed c = groups-fault _ _ _ c.groups_formed.ensures (c.if-not-groups_formed.true)

pub returns : goal.returns
returns c =
    network-rows _ _ _ c.groups_formed.ensures (c.if-not-groups_formed.false) (omega (arith, c.if-sh.false))
    c.rows_formed.ensures
