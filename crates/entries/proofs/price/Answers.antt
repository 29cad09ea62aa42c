-- A group's price is its cell of the sheet (`price-at`); the source and the sink have the price 0 (`price-out`).
use mathlib.Core.Path.{sym, ◌∙◌}
use native.Mathlib.Omega.{arith}
use Rattle.scratch.proofs.MapLaws.{price-at, price-out}
use Rattle.entries.proofs.price.Goals as goal

pub returns-then-v-g : goal.returns-then-v-g
returns-then-v-g g c = (
  c.number.ensures.0
      ∙ c.get.ensures
      ∙ sym (price-at c.args.sh (g.W.Width.memory c.args.sheet.now) c.args.v c.if-v-g.true),
  c.number.ensures.1,
)

pub returns : goal.returns
returns g c = (sym (price-out c.args.sh (g.W.Width.memory c.args.sheet.now) c.args.v c.if-v-g.false), omega arith)
