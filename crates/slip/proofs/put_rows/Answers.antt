-- The line of the next row, where it is kept, is one append more, and the lines so far are part of all.
use mathlib.Core.Path.{◌≡◌}
use native.Mathlib.Omega.{arith}
use Rattle.text.proofs.BufferLaws.{none, then}
use Rattle.slip.specs.Slip.{kept_lines}
use Rattle.slip.proofs.SlipLaws.{lines_more, lines-within}
use Rattle.slip.proofs.put_rows.Goals as goal

pub loop-c-init : goal.loop-c-init
unfolding kept_lines
loop-c-init c = none c.args.out.now c.args.at

pub put_kept-next-requires-clause-room : goal.put_kept-next-requires-clause-room
put_kept-next-requires-clause-room c =
    let a = c.args in
    omega (
      arith,
      c.requires.room,
      lines-within a.file.now a.layout a.layout.rows c.loop-c.c a.selection.now (omega arith),
    )

pub loop-c-preserved : goal.loop-c-preserved
loop-c-preserved c = rw lines_more (then c.loop-c.invariant c.put_kept-next.ensures)
