-- What the functions that turn a path round ask and promise. They change the spares and the choice alone.
--   Low sh t               no spare is too large to rise by one
--   Good sh ch sheet t v   the pred of v is an open arc that leads to v
--   Shifted sh t t' v takes    the places of group v fell or rose by one
--   RowTurned sh ch t ch' c x  row c went in or out, and its arc came from x
--   Turning sh ch sheet t v    what turning the arc into v asks
--   Moved r S spare S' spare' u v x    an open arc from u to v was turned, and u is x
--   Turned sh ch sheet t ch' t' v x    what it promises: the arc came from x, and it was turned
--   OldFrom r S spare S' spare' u      the arcs that are open now and lead from u were open before
--   Path sh ch sheet t start target    what a flip asks: the preds lead from the target back to the start. Each node on the way has a
--                          place, and the place falls from a node to the one that it came from
--   Walked sh ch sheet t ch' t' start target   what it promises: the path was turned, between nodes that are reached, and no arc into
--                          the start was
use Rattle.std.specs.Prelude.{◌≡◌, ◌⊎◌, Bool, true, false, List, ℕ, ◌+◌, ◌-◌, ◌≤◌, ◌<◌, length}
use Rattle.theory.specs.Sum.{same}
use Rattle.theory.specs.Residual.{Residual, Arc}
use Rattle.theory.specs.Level.{count}
use Rattle.theory.specs.Turn.{Puts, Flipped, Others, Back, Inside}
use Rattle.theory.specs.Walk.{Stands}
use Rattle.scratch.specs.declared.Shape.{Shape}
use Rattle.scratch.specs.Map.{max_spare, pred_of, spare_of, card_of, shop_of, kept_of, OnlySpare}
use Rattle.scratch.specs.View.{net_of, residual_of}
use Rattle.residual.specs.State.{Ready}

abbrev pub Low : Shape → List ℕ → Type 0
Low sh t = (x : ℕ) → x < sh.groups → spare_of sh t x ≤ max_spare + 1

pub record Good (sh : Shape) (ch sheet t : List ℕ) (v : ℕ) : Type 0 where
  pub u : ℕ
  pub by : ℕ
  pub is : pred_of sh t v ≡ by + 1
  pub arc : Arc (residual_of sh sheet t) (kept_of ch) (spare_of sh t) by u v 0

pub record Shifted (sh : Shape) (t t' : List ℕ) (v : ℕ) (takes : Bool) : Type 0 where
  pub only : OnlySpare sh t t'
  pub falls : takes ≡ true → (z : ℕ) → spare_of sh t' z + same v z ≡ spare_of sh t z
  pub rises : takes ≡ false → (z : ℕ) → spare_of sh t z + same v z ≡ spare_of sh t' z

pub record RowTurned (sh : Shape) (ch t ch' : List ℕ) (c x : ℕ) : Type 0 where
  pub long : length ch' ≡ length ch
  pub puts : Puts (kept_of ch) (kept_of ch') c (1 - kept_of ch c)
  pub from : ((kept_of ch c ≡ 1) × (x ≡ shop_of sh t c)) ⊎ ((kept_of ch c ≡ 0) × (x ≡ card_of sh t c))

pub record Turning (sh : Shape) (ch sheet t : List ℕ) (v : ℕ) : Type 0 where
  pub ready : Ready sh ch sheet t
  pub node : v < sh.groups + 2
  pub good : Good sh ch sheet t v
  pub low : Low sh t

pub record Moved (r : Residual) (S spare S' spare' : ℕ → ℕ) (u v x : ℕ) : Type 0 where
  pub is : x ≡ u
  pub flip : Flipped r S spare S' spare' u v
  pub others : Others r S spare S' spare' v
  pub back : Back r S spare S' spare' u v

pub record Turned (sh : Shape) (ch sheet t ch' t' : List ℕ) (v x : ℕ) : Type 0 where
  pub only : OnlySpare sh t t'
  pub long : length ch' ≡ length ch
  pub move :
      (u : ℕ) → Arc (residual_of sh sheet t) (kept_of ch) (spare_of sh t) (pred_of sh t v - 1) u v 0 →
      Moved (residual_of sh sheet t) (kept_of ch) (spare_of sh t) (kept_of ch') (spare_of sh t') u v x

abbrev pub OldFrom : Residual → (ℕ → ℕ) → (ℕ → ℕ) → (ℕ → ℕ) → (ℕ → ℕ) → ℕ → Type 0
OldFrom r S spare S' spare' u = (e v : ℕ) → Arc r S' spare' e u v 0 → Arc r S spare e u v 0

pub record Path (sh : Shape) (ch sheet t : List ℕ) (start target : ℕ) : Type 0 where
  pub ready : Ready sh ch sheet t
  pub place : ℕ → ℕ
  pub few : place target ≤ sh.groups + 2
  pub stands : Stands (residual_of sh sheet t) (kept_of ch) (spare_of sh t) (pred_of sh t) place start target
  pub begin : 0 < pred_of sh t start
  pub node : target < sh.groups + 2
  pub low : (x : ℕ) → x < sh.groups → spare_of sh t x + count (net_of sh t) (kept_of ch) x ≤ max_spare

pub record Walked (sh : Shape) (ch sheet t ch' t' : List ℕ) (start target : ℕ) : Type 0 where
  pub only : OnlySpare sh t t'
  pub long : length ch' ≡ length ch
  pub flip : Flipped (residual_of sh sheet t) (kept_of ch) (spare_of sh t) (kept_of ch') (spare_of sh t') start target
  pub inside : Inside (residual_of sh sheet t) (pred_of sh t) (kept_of ch) (spare_of sh t) (kept_of ch') (spare_of sh t')
  pub old : OldFrom (residual_of sh sheet t) (kept_of ch) (spare_of sh t) (kept_of ch') (spare_of sh t') start
