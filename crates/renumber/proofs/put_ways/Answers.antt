-- The next group's cell is written, and no other changes (`ways-step`).
use native.Mathlib.Omega.{arith}
use lib.ListN.{length-set}
use Rattle.claimfile.proofs.DayLaws.{side-most}
use Rattle.renumber.specs.Canonical.{side_of}
use Rattle.renumber.proofs.NumberLaws.{ways-step, ways-rowed}
use Rattle.renumber.proofs.put_ways.Goals as goal

pub loop-g-preserved : goal.loop-g-preserved
loop-g-preserved c =
    let a = c.args in (
      simp length-set c.loop-g.invariant.0,
      ways-step (side_of a.file.now a.layout a.side) c.loop-g.cells c.loop-g.g c.way_from.result
          (omega (arith, side-most a.file.now a.layout c.requires.sound a.side)) c.way_from.ensures c.loop-g.invariant.1,
    )

pub returns : goal.returns
returns c =
    let a = c.args in
    ways-rowed (side_of a.file.now a.layout a.side) c.loop-g.cells c.loop-g.invariant.0
    (λ h m. c.loop-g.invariant.1 h (omega arith))
