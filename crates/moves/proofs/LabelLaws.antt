-- Laws of the labels: what a label says of the class with label b.
--   arc-in-class           a node with the label of a class is not reached
--   pred-node              what is reached is a node
use mathlib.Core.Path.{◌≡◌}
use mathlib.Core.List.{List}
use Prim.Native.Nat.{ℕ, ◌+◌, ◌*◌, ◌<◌}
use native.Mathlib.Decide.{dec_lt}
use native.Mathlib.Omega.{arith}
use Rattle.scratch.specs.declared.Shape.{Shape}
use Rattle.scratch.specs.Map.{labels, span, label_of, arc_in, pred_of}
use Rattle.scratch.proofs.MapLaws.{table-out, arc-in-far}
use Rattle.look.proofs.LabelLaws.{arc-in-low}

pub arc-in-class : (b x j k : ℕ) → b ≡ span * j → x ≡ span * k → arc_in b x ≡ 0
arc-in-class b x j k p q =
    elim (dec_lt j k) [
      | yes l ↦ arc-in-far b x (omega arith)
      | no l ↦ arc-in-low b x (omega arith)
    ]

pub pred-node : (sh : Shape) (t : List ℕ) (v : ℕ) → 0 < pred_of sh t v → v < sh.groups + 2
pred-node sh t v some =
    elim (dec_lt v (sh.groups + 2)) [
      | yes l ↦ l
      | no l ↦
          let none : label_of sh t v ≡ 0 = table-out sh t labels v (omega arith) in
          absurd (omega (arith, arc-in-low sh.fresh (label_of sh t v) (omega arith)))
    ]
