-- What the walks up the groups ask and promise. A row is kept by taking one place in each group that it counts in.
--   Rooted sh t                    the scratch is long enough, and its parents make a forest
--   on_chain sh t u x               1 where group x is on node u's chain, else 0
--   Upward G parent e u            node e is u, parent u, parent (parent u), .. or the root where that ends
--   Above sh t u e                 the same in the scratch
--   Low sh t                       no group has more places left than a group is given
--   OnlyMarks sh t t'              only the queue changed, where filling marks the groups that are shut
--   OnlyPlaces sh t t'             only the queue and the spares changed
--   Shifts sh t t' u r             every group on u's chain has one place less, and every group on r's chain one more
--   Climbed sh t t' u r            a walk from u ended at r above it: every group from u up and below r has one place less
--   Tried sh t t' u r              r is a root and every group from u up has one place less; or r is a group and nothing is taken
--   Tight sh ch sheet t c          row c is left out and costs its weight
--   Added sh ch sheet t ch' t'     some rows more are kept, and of the scratch only the queue and the spares changed
use Rattle.std.specs.Prelude.{◌≡◌, List, ℕ, ◌+◌, ◌≤◌, ◌<◌}
use Rattle.theory.specs.Forest.{Down, chain}
use Rattle.scratch.specs.declared.Shape.{Shape}
use Rattle.scratch.specs.Map.{max_spare, Room, Keeps, queues, spares, spare_of, parent_of, weight_of, row_price, kept_of}
use Rattle.prices.specs.State.{Filled}

pub record Rooted (sh : Shape) (t : List ℕ) : Type 0 where
  pub room : Room sh t
  pub down : Down sh.groups (parent_of sh t)

abbrev pub on_chain : Shape → List ℕ → ℕ → ℕ → ℕ
on_chain sh t u x = chain sh.groups (parent_of sh t) u x

pub data Upward (G : ℕ) (parent : ℕ → ℕ) (e : ℕ) : ℕ → Type 0 where
  here : {u : ℕ} → u ≡ e → Upward G parent e u
  next : {u : ℕ} → u < G → Upward G parent e (parent u) → Upward G parent e u

abbrev pub Above : Shape → List ℕ → ℕ → ℕ → Type 0
Above sh t u e = Upward sh.groups (parent_of sh t) e u

abbrev pub Low : Shape → List ℕ → Type 0
Low sh t = (x : ℕ) → x < sh.groups → spare_of sh t x ≤ max_spare

abbrev pub OnlyMarks : Shape → List ℕ → List ℕ → Type 0
OnlyMarks sh t t' = Keeps sh (λ k. k ≡ queues) t t'

abbrev pub OnlyPlaces : Shape → List ℕ → List ℕ → Type 0
OnlyPlaces sh t t' = Keeps sh (λ k. (queues ≤ k) × (k ≤ spares)) t t'

pub record Shifts (sh : Shape) (t t' : List ℕ) (u r : ℕ) : Type 0 where
  pub only : OnlyPlaces sh t t'
  pub places : (x : ℕ) → spare_of sh t' x + on_chain sh t u x ≡ spare_of sh t x + on_chain sh t r x

pub record Climbed (sh : Shape) (t t' : List ℕ) (u r : ℕ) : Type 0 where
  pub shifts : Shifts sh t t' u r
  pub above : Above sh t u r

pub record Tried (sh : Shape) (t t' : List ℕ) (u r : ℕ) : Type 0 where
  pub all : sh.groups ≤ r → Climbed sh t t' u r
  pub none : r < sh.groups → Climbed sh t t' u u

pub record Tight (sh : Shape) (ch sheet t : List ℕ) (c : ℕ) : Type 0 where
  pub out : kept_of ch c ≡ 0
  pub even : row_price sh sheet t c + sh.toll ≡ weight_of sh t c

pub record Added (sh : Shape) (ch sheet t ch' t' : List ℕ) : Type 0 where
  pub filled : Filled sh ch sheet t ch' t'
  pub only : OnlyPlaces sh t t'
