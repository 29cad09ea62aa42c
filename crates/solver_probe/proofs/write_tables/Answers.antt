-- Each table is copied whole, and no later one changes it. What is given is a network, so that its numbers fit the cells of their tables.
use mathlib.Core.Path.{◌∙◌}
use native.Mathlib.Omega.{arith}
use Rattle.scratch.specs.Map.{parents, spares, card_nodes, shop_nodes, weights}
use Rattle.scratch.proofs.MapLaws.{room-keeps}
use Rattle.solver_probe.proofs.TableLaws.{copied-from, written, fitting-from}
use Rattle.solver_probe.proofs.TableLaws.{parents-fit, limits-fit, cards-fit, shops-fit, weights-fit}
use Rattle.solver_probe.proofs.write_tables.Goals as goal

pub write_table-requires : goal.write_table-requires
write_table-requires c =
    let few = c.requires.room.few in
    let a = c.args in
    record {
      room = c.requires.room;
      k_bound = (omega arith, omega arith);
      n_bound = (omega (arith, few.groups, few.rows), omega (arith, c.requires.groups_len.0));
      fitting = fitting-from parents a.groups.now (omega arith) (omega arith)
          (parents-fit a.sh a.groups.now a.rows.now few c.requires.network.0);
    }

pub write_table-requires-2 : goal.write_table-requires-2
write_table-requires-2 c =
    let few = c.requires.room.few in
    let a = c.args in
    record {
      room = room-keeps c.write_table.ensures.keeps.long c.requires.room;
      k_bound = (omega arith, omega arith);
      n_bound = (omega (arith, few.groups, few.rows), omega (arith, c.requires.groups_len.0));
      fitting = fitting-from spares a.groups.now (omega arith) (omega arith)
          (limits-fit a.sh a.groups.now a.rows.now few c.requires.network.0);
    }

pub write_table-requires-3 : goal.write_table-requires-3
write_table-requires-3 c =
    let few = c.requires.room.few in
    let a = c.args in
    record {
      room = room-keeps (c.write_table-2.ensures.keeps.long ∙ c.write_table.ensures.keeps.long) c.requires.room;
      k_bound = (omega arith, omega arith);
      n_bound = (omega (arith, few.groups, few.rows), omega (arith, c.requires.groups_len.1));
      fitting = fitting-from card_nodes a.rows.now (omega arith) (omega arith)
          (cards-fit a.sh a.groups.now a.rows.now few c.requires.network.0);
    }

pub write_table-requires-4 : goal.write_table-requires-4
write_table-requires-4 c =
    let few = c.requires.room.few in
    let a = c.args in
    record {
      room = room-keeps
          (c.write_table-3.ensures.keeps.long
          ∙ c.write_table-2.ensures.keeps.long
          ∙ c.write_table.ensures.keeps.long) c.requires.room;
      k_bound = (omega arith, omega arith);
      n_bound = (omega (arith, few.groups, few.rows), omega (arith, c.requires.groups_len.1));
      fitting = fitting-from shop_nodes a.rows.now (omega arith) (omega arith)
          (shops-fit a.sh a.groups.now a.rows.now few c.requires.network.0);
    }

pub write_table-requires-5 : goal.write_table-requires-5
write_table-requires-5 c =
    let few = c.requires.room.few in
    let a = c.args in
    record {
      room = room-keeps
          (c.write_table-4.ensures.keeps.long
          ∙ c.write_table-3.ensures.keeps.long
          ∙ c.write_table-2.ensures.keeps.long
          ∙ c.write_table.ensures.keeps.long) c.requires.room;
      k_bound = (omega arith, omega arith);
      n_bound = (omega (arith, few.groups, few.rows), omega (arith, c.requires.groups_len.1));
      fitting = fitting-from weights a.rows.now (omega arith) (omega arith)
          (weights-fit a.sh a.groups.now a.rows.now few c.requires.network.0 c.requires.network.1);
    }

pub returns : goal.returns
returns c =
    written _ _ _ _ _ _ _ _ _ (copied-from (omega arith) c.write_table.ensures)
    (copied-from (omega arith) c.write_table-2.ensures) (copied-from (omega arith) c.write_table-3.ensures)
    (copied-from (omega arith) c.write_table-4.ensures) (copied-from (omega arith) c.write_table-5.ensures)
