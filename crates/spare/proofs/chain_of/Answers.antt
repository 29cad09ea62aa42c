-- `chain_of` meets its contract: a row at the top counts in no group, and what `climb` lists from the group where any other row hangs are
-- the groups that it counts in.
use native.Mathlib.Omega.{arith}
use Rattle.claimfile.proofs.DayLaws.{side-most}
use Rattle.spare.proofs.ChainLaws.{climbed-chain, chained-none}
use Rattle.spare.proofs.chain_of.Goals as goal

pub returns-then-groups_on-g : goal.returns-then-groups_on-g
returns-then-groups_on-g c =
    let a = c.args in
    chained-none a.file.now a.layout a.side a.row _
    (omega (arith, c.groups_on.ensures, c.hangs_at-g.ensures.0))

pub returns : goal.returns
returns c =
    let a = c.args in
    climbed-chain a.file.now a.layout a.side a.row _ c.ups_of-ups.ensures c.hangs_at-g.result
    c.hangs_at-g.ensures.0 (omega (arith, c.groups_on.ensures, c.hangs_at-g.ensures.0))
    (side-most a.file.now a.layout c.requires.0 a.side) _ _ c.climb.result c.climb.ensures
