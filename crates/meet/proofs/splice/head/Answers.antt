-- By its number an arc leads down to a group, along a row, or up to a parent.
use mathlib.Core.Path.{refl, sym, ◌∙◌}
use Prim.Native.Nat.{ℕ, ◌-◌}
use Rattle.scratch.specs.Map.{spare_of, kept_of}
use Rattle.scratch.specs.View.{residual_of}
use Rattle.theory.specs.Residual.{Residual}
use Rattle.meet.proofs.SpliceLaws.{head-down, head_in, head-out, head-up}
use Rattle.meet.proofs.splice.head.Goals as goal
use Rattle.meet.proofs.splice.head.Given as given
use Rattle.meet.proofs.splice.head.Goals.{Start}

-- the residual network and the places left at entry
abbrev res : (g : given.Over) → goal.Start g → Residual
res g S = residual_of S.args.sh (g.W.Width.memory S.args.sheet.now) (g.W.Width.memory S.args.scratch.now)

abbrev left : (g : given.Over) → goal.Start g → ℕ → ℕ
left g S = spare_of S.args.sh (g.W.Width.memory S.args.scratch.now)

abbrev bytes : (g : given.Over) → goal.Start g → ℕ → ℕ
bytes g S = kept_of S.args.choice.now

pub returns-then-e-g : goal.returns-then-e-g
returns-then-e-g g c =
    head-down (res g (goal.at.returns-then-e-g g c).Start) (bytes g (goal.at.returns-then-e-g g c).Start) (left g (goal.at.returns-then-e-g g c).Start) c.args.e c.if-e-g.true

pub returns-then-kept-eq1 : goal.returns-then-kept-eq1
returns-then-kept-eq1 g c =
    head-out (res g (goal.at.returns-then-kept-eq1 g c).Start) (bytes g (goal.at.returns-then-kept-eq1 g c).Start) (left g (goal.at.returns-then-kept-eq1 g c).Start) c.args.e (c.args.e - c.args.sh.groups) refl c.if-e-g.false
    c.if-e-g-2.true
    (sym c.kept.ensures ∙ c.if-kept-eq1.true) c.card.ensures

pub returns-then-e-g-2 : goal.returns-then-e-g-2
returns-then-e-g-2 g c =
    head_in (res g (goal.at.returns-then-e-g-2 g c).Start) (bytes g (goal.at.returns-then-e-g-2 g c).Start) (left g (goal.at.returns-then-e-g-2 g c).Start) c.args.e (c.args.e - c.args.sh.groups) refl c.if-e-g.false
    c.if-e-g-2.true
    (λ z. c.if-kept-eq1.false (c.kept.ensures ∙ z)) c.shop.ensures

pub returns : goal.returns
returns g c =
    head-up (res g (goal.at.returns g c).Start) (bytes g (goal.at.returns g c).Start) (left g (goal.at.returns g c).Start) c.args.e (c.args.e - c.args.sh.groups - c.args.sh.rows) refl
    c.if-e-g-2.false c.parent.ensures
