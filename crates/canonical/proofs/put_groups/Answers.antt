-- With all groups of the side put, the next side is begun (`put-side`).
use mathlib.Core.Path.{◌≡◌}
use native.Mathlib.Omega.{arith}
use Rattle.claimfile.specs.Day.{count_of}
use Rattle.canonical.proofs.PartLaws.{put-side}
use Rattle.canonical.proofs.put_groups.Goals as goal

pub returns : goal.returns
returns c =
    let a = c.args in
    let all : c.loop-g.g ≡ count_of a.layout a.side = omega arith in
    put-side c.requires.0.given.sound (rw all at c.loop-g.invariant)
