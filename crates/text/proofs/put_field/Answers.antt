-- `put_field` meets its contract: the word and then the digits, which are two appends and so one.
use native.Mathlib.Omega.{arith}
use lib.ListN.{length-append}
use Rattle.text.proofs.BufferLaws.{then}
use Rattle.text.proofs.put_field.Goals as goal

pub put_word-next-requires : goal.put_word-next-requires
put_word-next-requires c = omega (arith, simp length-append at c.requires)

pub put_decimal-requires : goal.put_decimal-requires
put_decimal-requires c = omega (arith, simp length-append at c.requires)

pub returns : goal.returns
returns c = then c.put_word-next.ensures c.put_decimal.ensures
