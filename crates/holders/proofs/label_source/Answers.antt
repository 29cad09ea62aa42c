use native.Mathlib.Omega.{arith}
use native.Mathlib.Nat.{le_antisymm}
use Rattle.scratch.proofs.MapLaws.{room-keeps}
use Rattle.holders.proofs.FindLaws.{named_none, named_more}
use Rattle.holders.proofs.label_source.Goals as goal

pub overflow_add-v-end : goal.overflow_add-v-end
overflow_add-v-end g c = omega (arith, c.requires.few.groups)

pub loop-v-init : goal.loop-v-init
loop-v-init g c = (named_none, omega arith)

pub label_reached-requires : goal.label_reached-requires
label_reached-requires g c =
    record {
      room = room-keeps c.loop-v.invariant.0.only.long c.requires;
      v_bound = omega (arith, c.loop-v-test.true);
    }

pub loop-v-smaller : goal.loop-v-smaller
loop-v-smaller g c = omega (arith, c.loop-v-test.true)

pub loop-v-preserved : goal.loop-v-preserved
loop-v-preserved g c = (named_more c.loop-v.invariant.0 c.label_reached.ensures, omega (arith, c.loop-v-test.true))

pub returns : goal.returns
returns g c =
    let I = c.loop-v.invariant in
    rw (le_antisymm I.1 c.loop-v-test.false) at I.0
