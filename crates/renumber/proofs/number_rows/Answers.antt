-- After the last row every used group has its number (`rowed-end`).
use native.Mathlib.Omega.{arith}
use Rattle.renumber.proofs.DayLaws.{side-sound}
use Rattle.renumber.proofs.NumberLaws.{rowed-as, rowed-end}
use Rattle.renumber.proofs.number_rows.Goals as goal

pub returns : goal.returns
returns c =
    rowed-end (side-sound c.requires.sound c.args.side) c.loop-c.cells c.loop-c.next
    (rowed-as (omega arith) c.loop-c.invariant)
