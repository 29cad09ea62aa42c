use Prim.Native.Nat.{◌-◌}
use native.Mathlib.Omega.{arith}
use Rattle.solver_probe.specs.Probe.{GroupFormed}
use Rattle.solver_probe.proofs.TestLaws.{tells-yes, every_more, one-fails}
use Rattle.solver_probe.proofs.groups_formed.Goals as goal

pub loop-v-init : goal.loop-v-init
loop-v-init c = λ i l. absurd (omega arith)

pub group_formed-requires : goal.group_formed-requires
group_formed-requires c = (c.requires.0, c.requires.1, c.loop-v-test.true)

pub returns-then-not-group_formed : goal.returns-then-not-group_formed
returns-then-not-group_formed c =
    let a = c.args in
    one-fails (GroupFormed a.sh a.groups.now) _ c.loop-v-test.true
    c.group_formed.ensures (c.if-not-group_formed.true)

pub loop-v-preserved : goal.loop-v-preserved
loop-v-preserved c =
    let a = c.args in
    every_more (GroupFormed a.sh a.groups.now) c.loop-v.v c.loop-v.invariant
    (c.group_formed.ensures.holds (c.if-not-group_formed.false))

pub returns : goal.returns
returns c = tells-yes (λ i l. c.loop-v.invariant i (omega arith))
