-- `pass_on` meets its contract: one cell grows, the parent's or the top's, by what came to the group, but no more than its limit.
use mathlib.Core.Path.{◌≡◌, ◌∙◌, ap}
use Prim.Native.Nat.{ℕ}
use lib.Dec.{leb}
use Rattle.claimfile.specs.Day.{count_of}
use Rattle.claimfile.specs.declared.Group.{Group}
use Rattle.sides.specs.Side.{parent_by, parent_in}
use Rattle.sides.proofs.ParentLaws.{parent_above}
use Rattle.sides.proofs.CountLaws.{passed_on}
use Rattle.sides.proofs.pass_on.Goals as goal
use Rattle.sides.proofs.pass_on.Goals.{After-above-up}

-- the cell that grows is the parent's
up_is :
    (c : After-above-up) →
    let a = c.args in
    c.above-up.result ≡ parent_in a.file.now a.layout a.side a.g
up_is c =
    let a = c.args in
    c.above-up.ensures.0
    ∙ parent_above c.groups_on.result c.group_of-group.result.parent a.g
    ∙ ap (λ (n : ℕ). parent_by n c.group_of-group.result.parent a.g) c.groups_on.ensures
    ∙ ap (λ (q : Group). parent_by (count_of a.layout a.side) q.parent a.g) c.group_of-group.ensures.0

pub returns : goal.returns
returns c =
    let a = c.args in
    passed_on a.file.now a.layout a.side a.counts.now a.g c.requires c.above-up.result (up_is (goal.at.returns c).After-above-up)
    c.min.result c.group_of-group.result.limit _ (ap (λ (q : Group). q.limit) c.group_of-group.ensures.0)
    c.min.ensures (ap (λ x. leb x c.group_of-group.result.limit) c.from.ensures)
