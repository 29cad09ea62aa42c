use native.Mathlib.Omega.{arith}
use Rattle.renumber.proofs.WalkLaws.{climbs-inside, climbs-some, climbs-up, climb-none, climb-top, climb-up}
use Rattle.renumber.proofs.+number_up.Goals as goal

-- g has no number: it gets one below 256
pub overflow_sub-last : goal.overflow_sub-last
overflow_sub-last t c = (climbs-some c.requires (omega (arith, c.from-cell.ensures))).0

pub overflow_cast-cells : goal.overflow_cast-cells
overflow_cast-cells t c = omega (arith, (climbs-some c.requires (omega (arith, c.from-cell.ensures))).1)

pub offset_bounds-cells-g : goal.offset_bounds-cells-g
offset_bounds-cells-g t c = omega (arith, climbs-inside c.requires)

pub bounds-cells-g : goal.bounds-cells-g
bounds-cells-g t c = climbs-inside c.requires

pub returns-then-cell-lt-MAX_GROUPS : goal.returns-then-cell-lt-MAX_GROUPS
returns-then-cell-lt-MAX_GROUPS t c = climb-none c.requires (omega (arith, c.from-cell.ensures))

pub returns-then-g-up : goal.returns-then-g-up
returns-then-g-up t c =
    let is = c.from-cell.ensures in
    let some = climbs-some c.requires (omega (arith, is)) in
    climb-top c.requires (omega (arith, is)) _ (omega (arith, some)) (omega (arith, is))

pub number_up-requires : goal.number_up-requires
number_up-requires t c =
    let is = c.from-cell.ensures in
    let some = climbs-some c.requires (omega (arith, is)) in (
      omega arith,
      climbs-up c.requires (omega (arith, is)) _ (omega (arith, some)) _ (omega (arith, is)) (omega arith) _ (omega arith),
    )

pub returns : goal.returns
returns t c =
    let is = c.from-cell.ensures in
    let some = climbs-some c.requires (omega (arith, is)) in
    climb-up c.requires (omega (arith, is)) _ (omega (arith, some)) _
    (omega (arith, is)) (omega arith) _ (omega arith) _ c.number_up.ensures
