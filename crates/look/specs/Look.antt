-- What looking along one arc asks and promises. A step from u to v is by an open arc from u to v, or where `back` holds by one from v to u.
-- Label and queue alone change.
--   Looked sh back ch sheet t t' u e n n'   the step of arc e from u was looked along
--   Reached sh t t' v e n      node v was reached by arc e, in place n
--   Tried sh t t' v e b n n'   node v was reached by arc e, in place n, where b says that the arc is open and v was fresh; else no
--                              label changed, and of the queue at most what lies past its n places
--   Leads sh back ch sheet t e u v b   b says whether arc e is a step from u to v; from u it leads to no other node
--   Looking sh ch sheet t n    what looking along an arc asks, where n nodes are reached
--   Ends sh back t c u v x     row c is a step from u to v where its byte in the choice is x
use Rattle.std.specs.Prelude.{◌≡◌, ◌⊎◌, ◌≢◌, Bool, true, not, List, ℕ, ◌+◌, ◌<◌}
use Rattle.theory.specs.Sum.{pick}
use Rattle.theory.specs.Turn.{Puts}
use Rattle.scratch.specs.declared.Shape.{Shape}
use Rattle.scratch.specs.Map.{label_of, pred_of, queue_of, spare_of, card_of, shop_of, kept_of, OnlySearch}
use Rattle.scratch.specs.View.{residual_of}
use Rattle.residual.specs.State.{Ready}
use Rattle.look.specs.Reach.{Step, reached, Took, Passed}

pub record Looking (sh : Shape) (ch sheet t : List ℕ) (n : ℕ) : Type 0 where
  pub ready : Ready sh ch sheet t
  pub count : n ≡ reached (pred_of sh t) (sh.groups + 2)

-- row c leads from its card node where it is left out, and from its shop node where it is kept; against its arc it is the other way
pub record Ends (sh : Shape) (back : Bool) (t : List ℕ) (c u v x : ℕ) : Type 0 where
  pub row : c < sh.rows
  pub ends :
      ((x ≡ pick back 1 0) × ((u ≡ card_of sh t c) × (v ≡ shop_of sh t c)))
      ⊎ ((x ≡ pick (not back) 1 0) × ((u ≡ shop_of sh t c) × (v ≡ card_of sh t c)))

pub record Reached (sh : Shape) (t t' : List ℕ) (v e n : ℕ) : Type 0 where
  pub only : OnlySearch sh t t'
  pub label : Puts (label_of sh t) (label_of sh t') v (sh.fresh + e + 1)
  pub queue : Puts (queue_of sh t) (queue_of sh t') n v

pub record Tried (sh : Shape) (t t' : List ℕ) (v e : ℕ) (b : Bool) (n n' : ℕ) : Type 0 where
  pub only : OnlySearch sh t t'
  pub queue : Puts (queue_of sh t) (queue_of sh t') n v
  pub step :
      (((b ≡ true) × (label_of sh t v ≡ sh.fresh))
      × (Puts (label_of sh t) (label_of sh t') v (sh.fresh + e + 1) × (n' ≡ n + 1)))
      ⊎ ((b ≡ true → label_of sh t v ≢ sh.fresh) × ((label_of sh t' ≡ label_of sh t) × (n' ≡ n)))

pub record Leads (sh : Shape) (back : Bool) (ch sheet t : List ℕ) (e u v : ℕ) (b : Bool) : Type 0 where
  pub yes : b ≡ true → Step back (residual_of sh sheet t) (kept_of ch) (spare_of sh t) e u v
  pub only : (w : ℕ) → Step back (residual_of sh sheet t) (kept_of ch) (spare_of sh t) e u w → (b ≡ true) × (w ≡ v)

pub record Looked (sh : Shape) (back : Bool) (ch sheet t t' : List ℕ) (u e n n' : ℕ) : Type 0 where
  pub only : OnlySearch sh t t'
  pub step :
      Took back (residual_of sh sheet t) (kept_of ch) (spare_of sh t) sh.fresh (label_of sh t) (queue_of sh t) n (label_of sh t') (queue_of sh t')
      n' u e
      ⊎ Passed back (residual_of sh sheet t) (kept_of ch) (spare_of sh t) sh.fresh (label_of sh t) (queue_of sh t) n (label_of sh t')
      (queue_of sh t') n' u e
