-- A row that is in goes out, and its arc came from its shop node; one that is out goes in, and its arc came from its card node. A byte of the
-- choice is at most 1, so there is no third case (`row-turned`).
use mathlib.Core.Path.{◌≡◌, sym, ◌∙◌}
use mathlib.Core.Logic.{inl, inr}
use native.Mathlib.Omega.{arith}
use Rattle.scratch.specs.Map.{kept_of}
use Rattle.paths.proofs.TurnLaws.{row-turned}
use Rattle.paths.proofs.flip.turn_row.Goals as goal

pub returns-then-kept-eq1 : goal.returns-then-kept-eq1
returns-then-kept-eq1 g c =
    let in-choice : kept_of c.args.choice.now c.args.c ≡ 1 = sym c.kept.ensures ∙ c.if-kept-eq1.true in
    row-turned c.set_kept.ensures (omega arith) (inl (in-choice, c.shop.ensures))

pub returns : goal.returns
returns g c =
    let left_out : kept_of c.args.choice.now c.args.c ≡ 0 = omega (arith, c.kept.ensures, c.if-kept-eq1.false, c.requires.c_bound) in
    row-turned c.set_kept-2.ensures (omega arith) (inr (left_out, c.card.ensures))
