-- What is added up is what keeping the row costs, `dues`; since the slacks are numbers, neither difference goes below 0.
use mathlib.Core.Path.{◌≡◌, sym, ◌∙◌}
use native.Mathlib.Omega.{arith}
use Rattle.scratch.specs.Map.{spare_of, kept_of}
use Rattle.scratch.specs.View.{residual_of}
use Rattle.residual.proofs.ArcLaws.{leb-says, row_in, row_out}
use Rattle.residual.proofs.arcs.row_arc.Goals as goal
use Rattle.residual.proofs.arcs.row_arc.Goals.{Start}

pub returns-then-kept-eq1 : goal.returns-then-kept-eq1
returns-then-kept-eq1 g c =
    let z = sym c.kept.ensures ∙ c.if-kept-eq1.true in
    row_in (residual_of c.args.sh (g.W.Width.memory c.args.sheet.now) (g.W.Width.memory c.args.scratch.now)) (kept_of c.args.choice.now)
    (spare_of c.args.sh (g.W.Width.memory c.args.scratch.now)) c.requires.ready.formed c.args.c c.requires.c_lt_rows _ (leb-says _ _) z
    c.shop-b.ensures c.card-a.ensures
    (omega (arith, c.row_price.ensures, c.weight-w.ensures.0, c.requires.ready.priced.kept _ c.requires.c_lt_rows z))

pub returns : goal.returns
returns g c =
    let z : kept_of c.args.choice.now c.args.c ≡ 0 =
    omega (arith, c.kept.ensures, c.requires.ready.priced.bits _ c.requires.c_lt_rows, c.if-kept-eq1.false) in
    row_out (residual_of c.args.sh (g.W.Width.memory c.args.sheet.now) (g.W.Width.memory c.args.scratch.now)) (kept_of c.args.choice.now)
    (spare_of c.args.sh (g.W.Width.memory c.args.scratch.now)) c.requires.ready.formed c.args.c c.requires.c_lt_rows _ (leb-says _ _) z
    c.card-a.ensures c.shop-b.ensures
    (omega (arith, c.row_price.ensures, c.weight-w.ensures.0, c.requires.ready.priced.out _ c.requires.c_lt_rows z))
