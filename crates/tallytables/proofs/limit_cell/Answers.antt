-- `limit_cell` meets its contract. At the top the limit is the written one; else it is the lesser of that and the limit of the node above,
-- whose cell stands before.
use mathlib.Core.Path.{◌∙◌}
use native.Mathlib.Omega.{arith}
use Rattle.tallytables.proofs.FillLaws.{limit-alone, limit-lowered}
use Rattle.tallytables.proofs.limit_cell.Goals as goal

pub returns-then-v-up : goal.returns-then-v-up
returns-then-v-up c =
    let a = c.args in (
      limit-alone a.file.now a.layout a.v (omega arith) c.node_at-limit.result.limit c.from-up.result a.tables.now
          (omega arith) c.requires.0 c.node_at-limit.ensures.1 c.from-up.ensures (omega arith),
      omega arith,
    )

pub returns : goal.returns
returns c =
    let a = c.args in
    let lowered =
    limit-lowered a.file.now a.layout a.v (omega arith) c.node_at-limit.result.limit c.from-up.result a.tables.now
    (omega arith) c.requires.0 c.node_at-limit.ensures.1 c.from-up.ensures (omega arith) c.from.result
    c.from.ensures
    in
    (c.lesser.ensures ∙ lowered, omega (arith, c.lesser.ensures))
