-- The line of the next row is one append more, and the lines so far are part of all.
use mathlib.Core.Path.{ap}
use native.Mathlib.Omega.{arith}
use Rattle.theory.specs.Matroid.{row}
use Rattle.text.proofs.BufferLaws.{none, then}
use Rattle.claimfile.specs.declared.Claim.{Claim}
use Rattle.claimfile.specs.Day.{kind_of}
use Rattle.report.specs.Text.{row_lines}
use Rattle.report.proofs.TextLaws.{rows_more, rows-within}
use Rattle.report.proofs.put_rows.Goals as goal

pub loop-c-init : goal.loop-c-init
unfolding row_lines
loop-c-init c = none c.args.out.now c.args.at

pub put_row-next-requires : goal.put_row-next-requires
put_row-next-requires c =
    let a = c.args in
    rw (ap (λ (x : Claim). x.kind) c.claim_of-claim.ensures.0)
    (omega (
      arith,
      c.requires.room,
      rows-within a.layout.rows c.loop-c.c (kind_of a.file.now a.layout) (row a.choice.now) (omega arith),
    ))

pub loop-c-preserved : goal.loop-c-preserved
loop-c-preserved c =
    let line = rw (ap (λ (x : Claim). x.kind) c.claim_of-claim.ensures.0) at c.put_row-next.ensures in
    rw rows_more (then c.loop-c.invariant line)
