-- The day is decided, the scratch is cleared, and the choice is counted.
use native.Mathlib.Omega.{arith}
use Rattle.closing.proofs.SettleLaws.{settlement-bits}
use Rattle.kinds.proofs.close_kinds.Goals as goal

pub count_kinds-requires : goal.count_kinds-requires
count_kinds-requires c =
    let lent = c.requires in
    record {
      sound = lent.sound;
      kinds = lent.kinds;
      long = omega (arith, lent.choices);
      bits = settlement-bits _ _ _ lent.kinds _ _ c.decide_kinds.ensures;
    }

pub returns : goal.returns
returns c =
    record {
      settlement = c.decide_kinds.ensures;
      counted = c.count_kinds.ensures;
      clear = c.clear.ensures.zero;
    }
