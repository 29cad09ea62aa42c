-- The limit of the node above is there, so the lesser of it and the written one is the group's limit (`lowers-value`).
use native.Mathlib.Omega.{arith}
use Rattle.sheets.proofs.TableLaws.{lowers-value, lowers-more}
use Rattle.sheets.proofs.total.lower_group.Goals as goal

pub returns : goal.returns
returns c =
    let a = c.args in
    let node = c.node_at-group.ensures in
    let is =
    lowers-value a.file.now a.layout c.requires.0 a.limits.now a.v c.requires.1 c.requires.2 _ _
    c.lower-limit.result node.0 node.1 c.lower-limit.ensures.0
    in (
      lowers-more a.file.now a.layout c.requires.0 a.limits.now a.v c.requires.1 c.requires.2 _ is,
      is,
      omega (arith, c.lower-limit.ensures.1, node.3),
    )
