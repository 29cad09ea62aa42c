-- Each length is compared in its turn, and the last comparison decides.
use native.Mathlib.Omega.{arith}
use Rattle.scratch.specs.Map.{cells}
use Rattle.solver_probe.proofs.TestLaws.{tells-no, tells-same, leb_tells}
use Rattle.solver_probe.proofs.lengths_are.Goals as goal

pub returns-then-g : goal.returns-then-g
returns-then-g c = tells-no (λ L. omega (arith, L.few.groups, c.if-g.true))

pub returns-then-n-gt-MAX_ROWS : goal.returns-then-n-gt-MAX_ROWS
returns-then-n-gt-MAX_ROWS c = tells-no (λ L. omega (arith, L.few.rows, c.if-n-gt-MAX_ROWS.true))

pub returns-then-groups-g : goal.returns-then-groups-g
returns-then-groups-g c = tells-no (λ L. omega (arith, L.groups, c.if-groups-g.true))

pub returns-then-rows-n : goal.returns-then-rows-n
returns-then-rows-n c = tells-no (λ L. omega (arith, L.rows, c.if-rows-n.true))

pub returns-then-g-eq0 : goal.returns-then-g-eq0
returns-then-g-eq0 c = tells-no (λ L. omega (arith, L.few.some, c.if-g-eq0.true))

pub returns : goal.returns
returns c =
    let sh = c.args.sh in
    tells-same
    (λ long.
    record {
      few = record { some = omega arith; groups = omega arith; rows = omega arith; fresh = omega arith };
      groups = omega arith;
      rows = omega arith;
      size = long;
    })
    (λ L. L.size) (leb_tells (cells sh) _)
