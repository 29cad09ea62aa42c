-- Labels that are given to the nodes that were reached.
--   Renamed sh t t' x      the nodes that are reached in t have the label x in t', and the others the label that they had
use Rattle.std.specs.Prelude.{◌≡◌, ◌⊎◌, List, ℕ, ◌+◌, ◌<◌}
use Rattle.scratch.specs.declared.Shape.{Shape}
use Rattle.scratch.specs.Map.{label_of, pred_of}

abbrev pub Renamed : Shape → List ℕ → List ℕ → ℕ → Type 0
Renamed sh t t' x =
    (v : ℕ) → v < sh.groups + 2 →
    ((0 < pred_of sh t v) × (label_of sh t' v ≡ x)) ⊎ ((pred_of sh t v ≡ 0) × (label_of sh t' v ≡ label_of sh t v))
