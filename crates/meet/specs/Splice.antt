-- What the splice asks and promises: a way from the start and a way to the target, with an arc between them, become one way from the start.
--   HeadOf r S spare e v   arc e leads to no other node than v
--   Joined sh ch sheet t start target hit    what the splice asks: a search from both ends has met, by arc hit - 1
--   Spliced sh ch sheet t t' start target    what it promises: only labels changed, those of nodes that were reached from the target
--                          and are reached from the start now; so is the target, by arcs that lead on from the start
use Rattle.std.specs.Prelude.{◌≡◌, ◌⊎◌, true, false, List, ℕ, ◌+◌, ◌*◌, ◌-◌, ◌<◌}
use Rattle.theory.specs.Residual.{Residual, Arc}
use Rattle.scratch.specs.declared.Shape.{Shape}
use Rattle.scratch.specs.Map.{label_of, pred_of, spare_of, kept_of, OnlyLabels}
use Rattle.scratch.specs.View.{residual_of}
use Rattle.residual.specs.State.{Ready}
use Rattle.look.specs.Reach.{Reach}
use Rattle.meet.specs.Meet.{seen_by, queue_by, BothIn, Joint}

abbrev pub HeadOf : Residual → (ℕ → ℕ) → (ℕ → ℕ) → ℕ → ℕ → Type 0
HeadOf r S spare e v = (u w : ℕ) → Arc r S spare e u w 0 → w ≡ v

pub record Joined (sh : Shape) (ch sheet t : List ℕ) (start target hit : ℕ) : Type 0 where
  pub ready : Ready sh ch sheet t
  pub n : ℕ
  pub m : ℕ
  pub both : BothIn sh false ch sheet t t n m
  pub begin : queue_by sh false t 0 ≡ start
  pub end : queue_by sh true t 0 ≡ target
  pub last : seen_by sh true t target ≡ 2 * sh.groups + sh.rows + 1
  pub some : 0 < hit
  pub joint : Joint sh ch sheet t t (hit - 1)

pub record Spliced (sh : Shape) (ch sheet t t' : List ℕ) (start target : ℕ) : Type 0 where
  pub only : OnlyLabels sh t t'
  pub n : ℕ
  pub queue : ℕ → ℕ
  pub reach : Reach false (residual_of sh sheet t) (kept_of ch) (spare_of sh t) (pred_of sh t') queue n n
  pub begin : queue 0 ≡ start
  pub found : 0 < pred_of sh t' target
  pub kept : (v : ℕ) → (label_of sh t' v ≡ label_of sh t v) ⊎ ((0 < seen_by sh true t v) × (0 < pred_of sh t' v))
