-- `weigh` meets its contract: three products of small numbers, and their sum.
use mathlib.Core.Path.{ap}
use Prim.Native.Nat.{ℕ, ◌*◌}
use native.Mathlib.Omega.{arith}
use Rattle.kinds.proofs.CountLaws.{product-most}
use Rattle.kinds.proofs.weigh.Goals as goal

pub overflow_mul-result : goal.overflow_mul-result
overflow_mul-result c =
    let pre = c.requires in
    omega (arith, product-most _ _ pre.2 c.power.ensures.1)

pub overflow_add-result : goal.overflow_add-result
overflow_add-result c =
    let pre = c.requires in
    omega (arith, pre.1, product-most _ _ pre.2 c.power.ensures.1)

pub overflow_mul-result-2 : goal.overflow_mul-result-2
overflow_mul-result-2 c =
    let pre = c.requires in
    omega (arith, product-most _ _ pre.3 c.power-2.ensures.1)

pub overflow_add-result-2 : goal.overflow_add-result-2
overflow_add-result-2 c =
    let pre = c.requires in
    omega (
      arith,
      pre.1,
      product-most _ _ pre.2 c.power.ensures.1,
      product-most _ _ pre.3 c.power-2.ensures.1,
    )

pub overflow_mul-result-3 : goal.overflow_mul-result-3
overflow_mul-result-3 c =
    let pre = c.requires in
    omega (arith, product-most _ _ pre.4 c.power-3.ensures.1)

pub overflow_add-result-3 : goal.overflow_add-result-3
overflow_add-result-3 c =
    let pre = c.requires in
    omega (
      arith,
      pre.1,
      product-most _ _ pre.2 c.power.ensures.1,
      product-most _ _ pre.3 c.power-2.ensures.1,
      product-most _ _ pre.4 c.power-3.ensures.1,
    )

pub returns : goal.returns
returns c =
    let a = c.args in
    omega (
      arith,
      ap (λ (x : ℕ). a.kind1 * x) c.power.ensures.0,
      ap (λ (x : ℕ). a.kind2 * x) c.power-2.ensures.0,
      ap (λ (x : ℕ). a.kind3 * x) c.power-3.ensures.0,
    )
