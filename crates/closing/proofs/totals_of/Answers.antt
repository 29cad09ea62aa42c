-- The kept rows that are not ordinary are earned, and the two counts come to the weight of the kept rows. They are small enough for the
-- product.
use native.Mathlib.Omega.{arith}
use Rattle.closing.proofs.CountLaws.{totals-small, totals-counted}
use Rattle.closing.proofs.totals_of.Goals as goal

pub overflow_mul-result : goal.overflow_mul-result
overflow_mul-result c =
    let pre = c.requires in
    omega (arith, totals-small _ _ _ _ c.count_rows-counts.ensures pre.sound.rows_most)

pub overflow_add-result : goal.overflow_add-result
overflow_add-result c =
    let pre = c.requires in
    omega (arith, totals-small _ _ _ _ c.count_rows-counts.ensures pre.sound.rows_most)

pub returns : goal.returns
returns c =
    let pre = c.requires in
    totals-counted _ _ _ _ c.count_rows-counts.ensures pre.kinds pre.bits _ (omega arith) (omega arith) (omega arith)
