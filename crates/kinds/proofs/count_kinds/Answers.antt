-- `count_kinds` meets its contract: the four counts are those of the choice, and so are their sum and their weight.
use mathlib.Core.Path.{refl}
use native.Mathlib.Omega.{arith}
use Rattle.selection.proofs.CountLaws.{kept-of-kept}
use Rattle.kinds.proofs.CountLaws.{counted-kinds}
use Rattle.kinds.proofs.count_kinds.Goals as goal

pub returns : goal.returns
returns c =
    let a = c.args in
    let is = kept-of-kept a.layout.rows a.choice.now c.requires.bits a.file.now a.layout in
    counted-kinds _ c.requires.kinds _ _ (omega (arith, c.kept_of_kind-kind0.ensures.0, is 0))
    (omega (arith, c.kept_of_kind-kind1.ensures.0, is 1)) (omega (arith, c.kept_of_kind-kind2.ensures.0, is 2))
    (omega (arith, c.kept_of_kind-kind3.ensures.0, is 3)) refl c.weigh.ensures
