-- The loop keeps that the groups before v have their limits (`Lowers`), and the sum so far, of products up to `most_product`.
use mathlib.Core.Path.{◌≡◌}
use Prim.Native.Nat.{◌*◌, ◌≤◌}
use lib.ListN.{length}
use Rattle.sheets.specs.Judge.{most_product, Lowers, group_total}
use Rattle.sheets.proofs.total.total_groups.Given as goal

abbrev pub invariant-loop-v : goal.invariant-loop-v
invariant-loop-v l = (length l.limits ≡ length l.initial.limits) × Lowers l.file l.layout l.limits l.v × (l.total ≡ group_total l.file l.layout l.sheet l.v)
    × (l.total ≤ most_product * l.v)
