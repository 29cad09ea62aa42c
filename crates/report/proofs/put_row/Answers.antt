-- `put_row` meets its contract: the number, the fate, the kind and a line feed, which are four appends and so one.
use native.Mathlib.Omega.{arith}
use lib.ListN.{length-append}
use Rattle.text.proofs.BufferLaws.{then}
use Rattle.report.specs.Text.{fate as fate_word, kind_word, row_line}
use Rattle.report.proofs.put_row.Goals as goal

pub put_decimal-after_number-requires : goal.put_decimal-after_number-requires
unfolding row_line
put_decimal-after_number-requires c = omega (arith, simp length-append at c.requires)

pub put_either-after_fate-requires : goal.put_either-after_fate-requires
unfolding row_line
put_either-after_fate-requires c = omega (arith, simp length-append at c.requires)

pub put_either-after_kind-requires : goal.put_either-after_kind-requires
unfolding row_line
put_either-after_kind-requires c = omega (arith, simp length-append at c.requires)

pub put-requires : goal.put-requires
unfolding row_line
put-requires c = omega (arith, simp length-append at c.requires)

pub returns : goal.returns
unfolding row_line
returns c =
    let args = c.args in
    let two = then {b = fate_word args.chosen} c.put_decimal-after_number.ensures c.put_either-after_fate.ensures in
    then (then {b = kind_word args.kind} two c.put_either-after_kind.ensures) c.put.ensures
