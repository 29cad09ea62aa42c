-- The day is decided, the scratch is cleared, and the choice, which is of bits since it is the best one, is counted.
use native.Mathlib.Omega.{arith}
use borrow.Author.Rules.{rules}
use Rattle.closing.proofs.SettleLaws.{settlement-bits}
use Rattle.closing.proofs.close.Goals as goal

pub totals_of-requires : goal.totals_of-requires
totals_of-requires c =
    record {
      sound = c.requires.sound;
      kinds = c.requires.kinds;
      long = omega (arith, c.requires.choices);
      bits = settlement-bits _ _ _ c.requires.kinds _ _ c.decide.ensures;
    }

pub returns : goal.returns
returns c = record { settlement = search rules; counted = search rules; clear = search rules }
