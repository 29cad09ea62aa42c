use mathlib.Core.Path.{◌≡◌}
use native.Mathlib.Omega.{arith}
use Rattle.prices.proofs.StepLaws.{groups_none, groups-more}
use Rattle.prices.proofs.step.least_groups.Goals as goal

pub loop-v-init : goal.loop-v-init
loop-v-init g c = groups_none

pub loop-v-preserved : goal.loop-v-preserved
loop-v-preserved g c = groups-more c.loop-v.invariant c.lower_group-best.ensures

pub returns : goal.returns
returns g c =
    let all : c.loop-v.v ≡ c.args.sh.groups = omega arith in
    rw all at c.loop-v.invariant
