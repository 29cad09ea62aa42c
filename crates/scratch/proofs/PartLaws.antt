-- Laws of the parts of a cell: the whole, the low half and the high half.
--   half-fits                what is below 2 ^ 16 fits every part
--   part-here                a part after a store into it
--   Beside p q, part-beside  p and q are the two halves, and a store into the one leaves the other
--   part_small half-part     a part is no greater than the cell, and a half is below 2 ^ 16
use mathlib.Core.Path.{◌≡◌, refl}
use mathlib.Core.Logic.{◌≢◌}
use Prim.Native.Nat.{ℕ, zero, suc, ◌≤◌, ◌<◌}
use native.Mathlib.Omega.{arith}
use Rattle.scratch.specs.Map.{half, part_of, with_part, bound}

pub half-fits : (p x : ℕ) → x < half → x < bound p
half-fits zero x l = omega arith
half-fits (suc p) x l = l

pub part-here : (p x y : ℕ) → y < bound p → part_of p (with_part p x y) ≡ y
part-here zero x y l = refl
part-here (suc zero) x y l = omega arith
part-here (suc (suc p)) x y l = omega arith

-- two halves of a cell
pub record Beside (p q : ℕ) : Type 0 where
  pub half : (0 < p) × (p ≤ 2)
  pub other : (0 < q) × (q ≤ 2)
  pub differ : p ≢ q

pub part-beside : (p q x y : ℕ) → Beside p q → y < bound q → part_of p (with_part q x y) ≡ part_of p x
part-beside zero q x y b l = absurd (omega (arith, b.half))
part-beside (suc zero) zero x y b l = absurd (omega (arith, b.other))
part-beside (suc zero) (suc zero) x y b l = absurd (b.differ refl)
part-beside (suc zero) (suc (suc q)) x y b l = omega arith
part-beside (suc (suc p)) zero x y b l = absurd (omega (arith, b.other))
part-beside (suc (suc p)) (suc zero) x y b l = omega arith
part-beside (suc (suc p)) (suc (suc q)) x y b l = absurd (omega (arith, b.half, b.other, b.differ))

pub part_small : (p x m : ℕ) → x < m → part_of p x < m
part_small zero x m l = l
part_small (suc zero) x m l = omega arith
part_small (suc (suc p)) x m l = omega arith

pub half-part : (p x : ℕ) → 0 < p → part_of p x < half
half-part zero x l = absurd (omega arith)
half-part (suc zero) x l = omega arith
half-part (suc (suc p)) x l = omega arith
