-- `put_kept` meets its contract: a row that is not kept has no line, and one that is has the line of its record.
use native.Mathlib.Omega.{arith}
use Rattle.text.proofs.BufferLaws.{none}
use Rattle.slip.proofs.SlipLaws.{line-out, line-by}
use Rattle.slip.proofs.put_kept.Goals as goal

pub returns-then-selection-c-ne1 : goal.returns-then-selection-c-ne1
returns-then-selection-c-ne1 c =
    let a = c.args in
    rw (line-out a.file.now a.layout a.c a.selection.now (λ e. omega (arith, c.if-selection-c-ne1.true)))
    (none a.out.now a.at)

pub put_row-requires : goal.put_row-requires
put_row-requires c =
    let a = c.args in
    rw (line-by a.file.now a.layout a.c a.selection.now _ c.claim_of-claim.ensures.0 (omega (arith, c.if-selection-c-ne1.false)))
    c.requires.room

pub returns : goal.returns
returns c =
    let a = c.args in
    rw (line-by a.file.now a.layout a.c a.selection.now _ c.claim_of-claim.ensures.0 (omega (arith, c.if-selection-c-ne1.false)))
    at c.put_row.ensures
