use native.Mathlib.Omega.{arith}
use Rattle.labels.proofs.ReadLaws.{coding-none, coding-next, coding-all}
use Rattle.labels.proofs.put_codes.Goals as goal

pub loop-c-init : goal.loop-c-init
loop-c-init g c = coding-none

pub set_kept-requires : goal.set_kept-requires
set_kept-requires g c = omega (arith, c.loop-c.invariant.long, c.requires.1)

pub loop-c-preserved : goal.loop-c-preserved
loop-c-preserved g c = coding-next c.loop-c.invariant c.code_at-code.ensures c.set_kept.ensures

pub returns : goal.returns
returns g c = coding-all c.loop-c.invariant (omega arith)
