-- A search from both ends, over functions: from the start along open arcs, and from the target against them. What holds of one end is said
-- once, for the direction `back`; `not back` is the other one. f is the label of the fresh nodes.
--   base back f            the label from which those of a direction are counted: a node that is reached by arc e has base back f + e + 1
--   seen_in back f label v  the arc by which node v was reached in a direction, plus 1; 0 where it was not
--   spot g back i          the place of the queue that holds node i of a direction: from 0 up, and from g + 2 down
--   stands_in back g queue  the queue of a direction
--   Half back .. n         one end: n nodes are reached, each but the first by a step from an earlier one
--   Both back .. n m       both ends, that of the direction first
--   Spread back f label label'    a node has its old label, or it was fresh and was reached in this direction
--   Took .. u e            by the step of arc e from u a fresh node was reached
--   Joins .. u e           the step of arc e from u leads to a node that the other end reached
--   Free .. v              node v is neither fresh nor reached from the other end
--   Done .. u              no step from u leads to a node that is fresh or reached from the other end
use Rattle.std.specs.Prelude.{◌≡◌, ◌⊎◌, ◌≢◌, Bool, not, ℕ, ◌+◌, ◌-◌, ◌<◌}
use Rattle.theory.specs.Sum.{pick}
use Rattle.theory.specs.Residual.{Residual}
use Rattle.theory.specs.Turn.{Puts}
use Rattle.scratch.specs.Map.{span}
use Rattle.look.specs.Reach.{Step, pred_in, Reach}

abbrev pub base : Bool → ℕ → ℕ
base back f = pick back (f + span) f

abbrev pub seen_in : Bool → ℕ → (ℕ → ℕ) → ℕ → ℕ
seen_in back f label = pred_in (base back f) label

abbrev pub spot : ℕ → Bool → ℕ → ℕ
spot g back i = pick back (g + 2 - i) i

abbrev pub stands_in : Bool → ℕ → (ℕ → ℕ) → ℕ → ℕ
stands_in back g queue i = queue (spot g back i)

abbrev pub Spread : Bool → ℕ → (ℕ → ℕ) → (ℕ → ℕ) → Type 0
Spread back f label label' = (v : ℕ) → (label' v ≡ label v) ⊎ ((label v ≡ f) × (0 < seen_in back f label' v))

abbrev pub Half : Bool → Residual → (ℕ → ℕ) → (ℕ → ℕ) → ℕ → (ℕ → ℕ) → (ℕ → ℕ) → ℕ → Type 0
Half back r S spare f label queue n = Reach back r S spare (seen_in back f label) (stands_in back r.net.groups queue) n n

pub record Both (back : Bool) (r : Residual) (S spare : ℕ → ℕ) (f : ℕ) (label queue : ℕ → ℕ) (n m : ℕ) : Type 0 where
  pub mine : Half back r S spare f label queue n
  pub other : Half (not back) r S spare f label queue m

module _ (back : Bool) (r : Residual) (S spare : ℕ → ℕ) (f : ℕ) (label : ℕ → ℕ) where
  pub record Took (queue label' queue' : ℕ → ℕ) (n u e : ℕ) : Type 0 where
    pub v : ℕ
    pub node : v < r.net.groups + 2
    pub arc : Step back r S spare e u v
    pub new : label v ≡ f
    pub small : e + 1 < span
    pub label_puts : Puts label label' v (base back f + e + 1)
    pub queue_puts : Puts queue queue' (spot r.net.groups back n) v

  pub record Joins (u e : ℕ) : Type 0 where
    pub v : ℕ
    pub arc : Step back r S spare e u v
    pub met : 0 < seen_in (not back) f label v

  abbrev pub Free : ℕ → Type 0
  Free v = (label v ≢ f) × (seen_in (not back) f label v ≡ 0)

  abbrev pub Done : ℕ → Type 0
  Done u = (e v : ℕ) → Step back r S spare e u v → Free v
