-- The next row adds its byte where it hangs, and a count that is at most the rows before it has room for that.
use native.Mathlib.Omega.{arith}
use Rattle.sides.proofs.CountLaws.{counting-start, counting-small, counting-step}
use Rattle.sides.proofs.count_rows.Goals as goal

pub loop-c-init : goal.loop-c-init
loop-c-init c =
    let a = c.args in
    counting-start a.file.now a.selection.now a.layout a.side a.counts.now c.requires.zero

pub overflow_add-counts : goal.overflow_add-counts
overflow_add-counts c =
    let a = c.args in
    omega (
      arith,
      c.from.ensures,
      c.requires.ready.bits c.loop-c.c (omega arith),
      c.requires.ready.sound.rows_most,
      counting-small a.file.now a.selection.now a.layout a.side c.loop-c.counts c.requires.ready.bits
          c.loop-c.c (omega arith) c.loop-c.invariant c.hangs_at-g.result,
    )

pub loop-c-preserved : goal.loop-c-preserved
loop-c-preserved c =
    let a = c.args in
    counting-step a.file.now a.selection.now a.layout a.side c.loop-c.counts c.requires.ready.bits
    c.loop-c.c (omega arith) c.loop-c.invariant c.hangs_at-g.result c.from.result
    c.hangs_at-g.ensures.0 c.from.ensures c.hangs_at-g.ensures.1
