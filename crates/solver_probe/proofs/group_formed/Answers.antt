-- A limit that is too high is a fault; else the parent decides, by the side that the group is of.
use native.Mathlib.Omega.{arith}
use Rattle.solver_probe.proofs.TestLaws.{group-high, group-card, group-shop}
use Rattle.solver_probe.proofs.group_formed.Goals as goal

pub returns-then-number-gt-MAX_SPARE : goal.returns-then-number-gt-MAX_SPARE
returns-then-number-gt-MAX_SPARE c = group-high _ _ _ _ c.number.ensures.0 (omega (arith, c.if-number-gt-MAX_SPARE.true))

pub returns-then-v-cards : goal.returns-then-v-cards
returns-then-v-cards c =
    group-card _ _ _ _ c.number.ensures.0 (omega (arith, c.if-number-gt-MAX_SPARE.false)) _ c.number-up.ensures.0
    (omega (arith, c.if-v-cards.true)) c.hangs.ensures

pub returns : goal.returns
returns c =
    group-shop _ _ _ _ c.number.ensures.0 (omega (arith, c.if-number-gt-MAX_SPARE.false)) _ c.number-up.ensures.0
    (omega (arith, c.if-v-cards.false)) c.hangs-2.ensures
