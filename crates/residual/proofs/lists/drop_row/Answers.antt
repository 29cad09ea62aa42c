-- `drop_row` meets its contract: the row leaves the list of its card node and then that of its shop node (`dropped-placed`). The next items
-- take half a cell, so each fits as a first item.
use native.Mathlib.Omega.{arith}
use Rattle.scratch.specs.Map.{card_afters, shop_afters}
use Rattle.scratch.proofs.MapLaws.{half-small}
use Rattle.residual.proofs.LinkLaws.{card-node, shop-node, dropped-placed}
use Rattle.residual.proofs.lists.drop_row.Goals as goal

pub drop_at-requires-clause-u_bound : goal.drop_at-requires-clause-u_bound
drop_at-requires-clause-u_bound g c =
    let memory₀ = g.W.Width.memory c.args.scratch.now in (
      card-node c.requires.linkable c.requires.c_lt_rows c.card-a.ensures,
      rw c.after_card.ensures (half-small c.args.sh memory₀ card_afters _ (omega arith)),
    )

pub drop_at-requires-2-clause-u_bound : goal.drop_at-requires-2-clause-u_bound
drop_at-requires-2-clause-u_bound g c = (
  shop-node c.requires.linkable c.requires.c_lt_rows c.shop-b.ensures,
  rw c.after_shop.ensures (half-small c.args.sh _ shop_afters _ (omega arith)),
)

pub returns : goal.returns
returns g c =
    dropped-placed c.requires.linkable c.requires.c_lt_rows c.requires.links c.card-a.ensures c.shop-b.ensures
    c.after_card.ensures c.after_shop.ensures c.drop_at.ensures c.drop_at-2.ensures
