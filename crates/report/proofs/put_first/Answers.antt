-- `put_first` meets its contract: three fields and a line feed, which are four appends and so one.
use native.Mathlib.Omega.{arith}
use lib.ListN.{length-append}
use Rattle.text.proofs.BufferLaws.{then}
use Rattle.report.specs.Text.{first_line}
use Rattle.report.proofs.put_first.Goals as goal

pub put_field-after_rows-requires : goal.put_field-after_rows-requires
unfolding first_line
put_field-after_rows-requires c = simp length-append (omega (arith, simp length-append at c.requires))

pub put_field-after_earned-requires : goal.put_field-after_earned-requires
unfolding first_line
put_field-after_earned-requires c =
    simp length-append
    (omega (arith, simp length-append at c.requires, simp length-append at c.put_field-after_rows.ensures.end))

pub put_field-after_kept-requires : goal.put_field-after_kept-requires
unfolding first_line
put_field-after_kept-requires c =
    simp length-append
    (omega (
      arith,
      simp length-append at c.requires,
      simp length-append at c.put_field-after_rows.ensures.end,
      simp length-append at c.put_field-after_earned.ensures.end,
    ))

pub put-requires : goal.put-requires
unfolding first_line
put-requires c =
    omega (
      arith,
      simp length-append at c.requires,
      simp length-append at c.put_field-after_rows.ensures.end,
      simp length-append at c.put_field-after_earned.ensures.end,
      simp length-append at c.put_field-after_kept.ensures.end,
    )

pub returns : goal.returns
unfolding first_line
returns c =
    then (then (then c.put_field-after_rows.ensures c.put_field-after_earned.ensures) c.put_field-after_kept.ensures) c.put.ensures
