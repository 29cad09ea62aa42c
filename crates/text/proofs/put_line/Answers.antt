-- `put_line` meets its contract: the field and then the line feed, which are two appends and so one.
use native.Mathlib.Omega.{arith}
use lib.ListN.{length-append}
use Rattle.text.proofs.BufferLaws.{then}
use Rattle.text.proofs.put_line.Goals as goal

pub put_field-next-requires : goal.put_field-next-requires
put_field-next-requires c = simp length-append (omega (arith, simp length-append at c.requires))

pub put-requires : goal.put-requires
put-requires c = omega (arith, simp length-append at c.requires, simp length-append at c.put_field-next.ensures.end)

pub returns : goal.returns
returns c = then c.put_field-next.ensures c.put.ensures
