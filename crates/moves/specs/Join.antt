-- What turning the path of a search from both ends asks and promises.
--   Seen sh t v            node v was reached, from one end or the other
--   Meeting sh ch sheet t start target n m hit    what it asks: both ends have met by arc hit - 1, with n and m nodes, and no group
--                          has more places left than it is given
--   Exchanged sh ch sheet t ch' t' start target   what it promises: the path was turned, between nodes that were reached, and those nodes
--                          are fresh again; the others have the label that they had
use Rattle.std.specs.Prelude.{◌≡◌, ◌⊎◌, Bool, false, List, ℕ, ◌+◌, ◌≤◌, ◌<◌, length}
use Rattle.theory.specs.Level.{count}
use Rattle.theory.specs.Turn.{Flipped, Inside}
use Rattle.scratch.specs.declared.Shape.{Shape}
use Rattle.scratch.specs.Map.{max_spare, label_of, spare_of, kept_of}
use Rattle.scratch.specs.View.{net_of, residual_of}
use Rattle.meet.specs.Meet.{seen_by, BothIn}
use Rattle.meet.specs.Splice.{Joined}
use Rattle.prices.specs.State.{OnlyMoves}

abbrev pub Seen : Shape → List ℕ → ℕ → Type 0
Seen sh t v = (back : Bool) × (0 < seen_by sh back t v)

pub record Meeting (sh : Shape) (ch sheet t : List ℕ) (start target n m hit : ℕ) : Type 0 where
  pub joined : Joined sh ch sheet t start target hit
  pub both : BothIn sh false ch sheet t t n m
  pub node : target < sh.groups + 2
  pub low : (x : ℕ) → x < sh.groups → spare_of sh t x + count (net_of sh t) (kept_of ch) x ≤ max_spare

pub record Exchanged (sh : Shape) (ch sheet t ch' t' : List ℕ) (start target : ℕ) : Type 0 where
  pub only : OnlyMoves sh t t'
  pub long : length ch' ≡ length ch
  pub flip : Flipped (residual_of sh sheet t) (kept_of ch) (spare_of sh t) (kept_of ch') (spare_of sh t') start target
  pub near : ℕ → ℕ
  pub inside : Inside (residual_of sh sheet t) near (kept_of ch) (spare_of sh t) (kept_of ch') (spare_of sh t')
  pub seen : (v : ℕ) → 0 < near v → (v < sh.groups + 2) × Seen sh t v
  pub labels :
      (v : ℕ) → v < sh.groups + 2 →
      (Seen sh t v × (label_of sh t' v ≡ sh.fresh)) ⊎ (((back : Bool) → seen_by sh back t v ≡ 0) × (label_of sh t' v ≡ label_of sh t v))
