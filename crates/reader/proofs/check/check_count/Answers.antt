-- `check_count` meets its contract: the file ends before or inside the count, the count is over the most, or neither.
use mathlib.Core.Path.{sym}
use native.Mathlib.Omega.{arith}
use Rattle.reader.proofs.FileLaws.{count_cut, count-large, count_fits}
use Rattle.reader.proofs.check.check_count.Goals as goal

pub returns-then-len-lt2 : goal.returns-then-len-lt2
returns-then-len-lt2 c = sym (count_cut _ _ _ _ (omega arith))

pub returns-then-len-at : goal.returns-then-len-at
returns-then-len-at c = sym (count_cut _ _ _ _ (omega arith))

pub returns-then-most-u16_at : goal.returns-then-most-u16_at
returns-then-most-u16_at c = sym (count-large _ _ _ _ (omega arith) (omega (arith, c.u16_at.ensures.0)))

pub returns : goal.returns
returns c = sym (count_fits _ _ _ _ (omega arith) (omega (arith, c.u16_at.ensures.0)))
