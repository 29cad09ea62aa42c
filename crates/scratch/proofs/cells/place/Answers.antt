-- `place` meets its contract: the sum is the place by definition, and every cell of a table lies below the end of the map (`place-low`).
use Prim.Native.Nat.{ℕ, ◌+◌, ◌*◌, ◌<◌}
use mathlib.Core.Path.{◌≡◌, ap}
use native.Mathlib.Omega.{arith}
use Rattle.scratch.specs.declared.Shape.{Shape}
use Rattle.scratch.specs.Map.{cells, base, stride, place, Few, Cell}
use Rattle.scratch.proofs.MapLaws.{place-low}
use Rattle.scratch.proofs.cells.place.Goals as goal

-- a is where table k begins and d is its stride
there :
    {sh : Shape} {k i a d : ℕ} → Few sh → Cell sh k i → a ≡ base sh k → d ≡ stride k →
    (a + d * i ≡ place sh k i) × (a + d * i < cells sh)
there {sh} {k} {i} few C p q =
    let m = ap (λ x. x * i) q in
    (omega (arith, p, m), omega (arith, p, m, place-low sh k i few.some C.index))

pub overflow_add-result : goal.overflow_add-result
overflow_add-result c =
    omega (arith, c.requires.few, there c.requires.few c.requires.cell c.table_start.ensures c.table_stride.ensures)

pub returns : goal.returns
returns c = there c.requires.few c.requires.cell c.table_start.ensures c.table_stride.ensures
