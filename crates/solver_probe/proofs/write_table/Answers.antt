use mathlib.Core.Path.{◌≡◌, sym, subst}
use Prim.Native.Nat.{ℕ, ◌-◌, ◌<◌}
use native.Mathlib.Omega.{arith}
use Rattle.scratch.specs.Map.{part, bound}
use Rattle.scratch.proofs.MapLaws.{room-keeps}
use Rattle.solver_probe.proofs.TableLaws.{copied_none, copied_more}
use Rattle.scratch.specs.Tables.{number_of}
use Rattle.solver_probe.proofs.write_table.Goals as goal

pub loop-i-init : goal.loop-i-init
loop-i-init c = copied_none _ _ _ _ _

pub overflow_add-from : goal.overflow_add-from
overflow_add-from c = omega (arith, c.requires.n_bound.0)

pub number-requires : goal.number-requires
number-requires c = omega (arith, c.loop-i-test.true, c.requires.n_bound.1)

pub set_cell-requires : goal.set_cell-requires
set_cell-requires c =
    record {
      room = room-keeps c.loop-i.invariant.keeps.long c.requires.room;
      cell = record { table = c.requires.k_bound.0; index = omega (arith, c.loop-i-test.true, c.requires.k_bound.1) };
      x_bound = subst (λ (x : ℕ). x < bound (part (number_of c.args.k))) (sym c.number.ensures.0)
          (c.requires.fitting c.loop-i.i (omega (arith, c.loop-i-test.true)));
    }

pub loop-i-preserved : goal.loop-i-preserved
loop-i-preserved c = copied_more _ _ _ _ _ _ _ c.loop-i.i _ c.loop-i.invariant c.number.ensures.0 c.set_cell.ensures

pub returns : goal.returns
returns c =
    let all : c.loop-i.i ≡ c.args.n = omega arith in
    rw all at c.loop-i.invariant
