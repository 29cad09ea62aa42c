-- What a search promises, over functions. It goes along open arcs, or against them where `back` holds; both are called steps.
-- `label v` is the label of node v; `pred v` is 0 where node v is not reached, else the arc
-- that reached it plus 1; `queue i` is the node that was reached in place i. A node is fresh where its label is b, that of the class
-- that is searched.
--   Step back r S spare e u v      arc e is open and leads from u to v; where `back` holds, from v to u
--   reached pred m         how many nodes below m are reached
--   Come back r S spare pred queue h i      the node in place i came by a step from an earlier place below h
--   Reach back r S spare pred queue h n     the n places of the queue are the reached nodes, and each but the first came so
--   pred_in b label         the function `pred` of the labels
--   Done back r S spare b label u   no step from u leads to a fresh node
--   Spread b label label'  a node has its old label, or it was fresh and is reached
--   Grew ..                a search went on
--   Took .. u e            by the step of arc e from u it reached a fresh node
--   Passed .. u e          the step of arc e from u leads to no fresh node
use Rattle.std.specs.Prelude.{◌≡◌, ◌⊎◌, ◌≢◌, Bool, ℕ, ◌+◌, ◌≤◌, ◌<◌}
use Rattle.std.proofs.Math.Decide.{dec_lt}
use Rattle.theory.specs.Sum.{sum, is, pick}
use Rattle.theory.specs.Residual.{Residual, Arc}
use Rattle.theory.specs.Turn.{Puts}
use Rattle.scratch.specs.Map.{span, arc_in}

unfoldable pub reached : (ℕ → ℕ) → ℕ → ℕ
reached pred m = sum m (λ v. is (dec_lt 0 (pred v)))

abbrev pub pred_in : ℕ → (ℕ → ℕ) → ℕ → ℕ
pred_in b label v = arc_in b (label v)

abbrev pub Spread : ℕ → (ℕ → ℕ) → (ℕ → ℕ) → Type 0
Spread b label label' = (v : ℕ) → (label' v ≡ label v) ⊎ ((label v ≡ b) × (0 < pred_in b label' v))

abbrev pub Step : Bool → Residual → (ℕ → ℕ) → (ℕ → ℕ) → ℕ → ℕ → ℕ → Type 0
Step back r S spare e u v = Arc r S spare e (pick back v u) (pick back u v) 0

module _ (back : Bool) (r : Residual) (S spare : ℕ → ℕ) where
  pub record Come (pred queue : ℕ → ℕ) (h i : ℕ) : Type 0 where
    pub j : ℕ
    pub before : j < i
    pub early : j < h
    pub by : ℕ
    pub is : pred (queue i) ≡ by + 1
    pub arc : Step back r S spare by (queue j) (queue i)

  pub record Reach (pred queue : ℕ → ℕ) (h n : ℕ) : Type 0 where
    pub some : 0 < n
    pub size : n ≡ reached pred (r.net.groups + 2)
    pub node : (i : ℕ) → i < n → queue i < r.net.groups + 2
    pub seen : (i : ℕ) → i < n → 0 < pred (queue i)
    pub spot : (v : ℕ) → v < r.net.groups + 2 → 0 < pred v → (i : ℕ) × (i < n) × (queue i ≡ v)
    pub come : (i : ℕ) → i < n → 0 < i → Come pred queue h i

  module _ (b : ℕ) where
    abbrev pub Done : (ℕ → ℕ) → ℕ → Type 0
    Done label u = (e v : ℕ) → Step back r S spare e u v → label v ≢ b

    pub record Grew (label queue : ℕ → ℕ) (n : ℕ) (label' queue' : ℕ → ℕ) (h n' : ℕ) : Type 0 where
      pub grow : n ≤ n'
      pub keep : (i : ℕ) → i < n → queue' i ≡ queue i
      pub spread : Spread b label label'
      pub reach : Reach (pred_in b label') queue' h n'

    pub record Took (label queue : ℕ → ℕ) (n : ℕ) (label' queue' : ℕ → ℕ) (n' u e : ℕ) : Type 0 where
      pub v : ℕ
      pub node : v < r.net.groups + 2
      pub arc : Step back r S spare e u v
      pub new : label v ≡ b
      pub small : e + 1 < span
      pub label_puts : Puts label label' v (b + e + 1)
      pub queue_puts : Puts queue queue' n v
      pub more : n' ≡ n + 1

    pub record Passed (label queue : ℕ → ℕ) (n : ℕ) (label' queue' : ℕ → ℕ) (n' u e : ℕ) : Type 0 where
      pub none : (v : ℕ) → Step back r S spare e u v → label v ≢ b
      pub label_same : label' ≡ label
      pub queue_same : (i : ℕ) → i < n → queue' i ≡ queue i
      pub same : n' ≡ n
