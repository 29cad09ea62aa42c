-- Laws of the labels that a search gave.
--   queued-reach           what giving the reached nodes a label asks
--   renamed-reach          and what it does to every node
use mathlib.Core.Path.{◌≡◌, sym, ap, ◌∙◌}
use mathlib.Core.Logic.{inl, inr}
use mathlib.Core.Bool.{Bool}
use mathlib.Core.List.{List}
use Prim.Native.Nat.{ℕ, ◌+◌}
use native.Mathlib.Decide.{dec_lt}
use native.Mathlib.Omega.{arith}
use Rattle.scratch.specs.declared.Shape.{Shape}
use Rattle.scratch.specs.Map.{Room, label_of, pred_of, queue_of}
use Rattle.search.specs.Search.{ReachBy, Queued, Relabelled}
use Rattle.look.proofs.ReachLaws.{reached-most}
use Rattle.moves.specs.Names.{Renamed}

-- the tables t' have the labels and the queue of t
module _
    (sh : Shape) (ch sheet t : List ℕ) {back : Bool} {n : ℕ} (R : ReachBy sh back ch sheet t t n n) {t' : List ℕ}
    (queue : queue_of sh t' ≡ queue_of sh t)
  where
    pub queued-reach : Room sh t' → Queued sh t' n
    queued-reach room = record {
      room = room;
      most = omega (arith, R.size, reached-most (pred_of sh t) (sh.groups + 2));
      node = λ i l. omega (arith, R.node i l, ap (λ (f : ℕ → ℕ). f i) queue);
    }

    pub renamed-reach :
        label_of sh t' ≡ label_of sh t → {t'' : List ℕ} {x : ℕ} → Relabelled sh t' t'' n x → Renamed sh t t'' x
    renamed-reach label {t''} {x} L v node =
        elim (dec_lt 0 (pred_of sh t v)) [
          | yes some ↦
              let at = R.spot v node some in
              let place : queue_of sh t' at.0 ≡ v = ap (λ (f : ℕ → ℕ). f at.0) queue ∙ at.2 in
              inl (some, sym (ap (label_of sh t'') place) ∙ L.given at.0 at.1)
          | no none ↦
              inr (
                omega arith,
                L.else v
                    (λ i l e.
                    none
                    (omega (
                      arith,
                      R.seen i l,
                      ap (pred_of sh t) (sym (ap (λ (f : ℕ → ℕ). f i) queue) ∙ e),
                    )))
                    ∙ ap (λ (f : ℕ → ℕ). f v) label,
              )
        ]
