-- The number of places left is read, and one less or one more is stored (`shifted-less`, `shifted-more`). The contract asks that there is a
-- place where one is taken, and that one more fits.
use native.Mathlib.Omega.{arith}
use Rattle.paths.proofs.TurnLaws.{shifted-less, shifted-more}
use Rattle.paths.proofs.flip.shift.Goals as goal

pub returns-then-takes : goal.returns-then-takes
returns-then-takes g c =
    shifted-less c.set_spare.ensures c.if-takes.true
    (omega (arith, c.spare-have.ensures, c.requires.places.0 c.if-takes.true))

pub returns-else-takes : goal.returns-else-takes
returns-else-takes g c = shifted-more c.set_spare-else-takes.ensures c.if-takes.false (omega (arith, c.spare-have.ensures))
