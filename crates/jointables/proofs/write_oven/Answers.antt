-- Two stores for the first shop group: its parent, which is the sink, and its limit, cut off.
use native.Mathlib.Omega.{arith}
use Rattle.scratch.proofs.MapLaws.{room-keeps}
use Rattle.jointables.proofs.FilesLaws.{put-oven}
use Rattle.jointables.proofs.write_oven.Goals as goal

pub overflow_add-sink : goal.overflow_add-sink
overflow_add-sink c = omega (arith, c.requires.0.few.groups)

pub set_parent-requires : goal.set_parent-requires
set_parent-requires c =
    record {
      room = c.requires.0;
      v_lt_groups = omega (arith, c.requires.1);
      x_lt_half = omega (arith, c.requires.0.few.groups);
    }

pub set_spare-requires : goal.set_spare-requires
set_spare-requires c =
    record {
      room = room-keeps c.set_parent.ensures.long c.requires.0;
      v_lt_groups = omega (arith, c.requires.1);
      x_lt_half = omega (arith, c.cut_off-limit.ensures);
    }

pub returns : goal.returns
returns c = put-oven c.args.sh _ _ _ _ _ c.cut_off-limit.ensures c.set_parent.ensures c.set_spare.ensures
