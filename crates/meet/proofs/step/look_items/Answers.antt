use native.Mathlib.Omega.{arith}
use Rattle.meet.proofs.ScanLaws.{along-first, along_look, along-open, along-side, along-end}
use Rattle.meet.proofs.ScanLaws.{along-hit, along-item, along-raw, along-next-side, along-next}
use Rattle.meet.proofs.step.look_items.Goals as goal

pub loop-j-init : goal.loop-j-init
loop-j-init g c = along-first c.requires.opened c.first-j.ensures

pub look_item-seen-requires : goal.look_item-seen-requires
look_item-seen-requires g c =
    record {
      looking = along_look c.requires.opened c.loop-j.invariant;
      at_item = along-open c.requires.opened c.loop-j.invariant (omega (arith, c.loop-j-test.true));
      side_of = along-side c.requires.opened
          c.loop-j.invariant c.requires.side_of;
    }

pub returns-then-hit-gt0 : goal.returns-then-hit-gt0
returns-then-hit-gt0 g c = along-hit c.requires.opened c.loop-j.invariant c.look_item-seen.ensures c.if-hit-gt0.true

pub after_item-j-requires : goal.after_item-j-requires
after_item-j-requires g c =
    record {
      at_item = along-item c.requires.opened c.loop-j.invariant c.look_item-seen.ensures (omega (arith, c.loop-j-test.true));
      raw = along-raw c.requires.opened c.loop-j.invariant c.look_item-seen.ensures;
      side_of = along-next-side c.requires.opened
          c.loop-j.invariant c.look_item-seen.ensures c.requires.side_of;
    }

pub loop-j-preserved : goal.loop-j-preserved
loop-j-preserved g c = along-next c.requires.opened c.loop-j.invariant
    c.look_item-seen.ensures c.if-hit-gt0.false c.after_item-j.ensures

pub returns : goal.returns
returns g c = along-end c.requires.opened c.loop-j.invariant (omega (arith, c.loop-j-test.false))
