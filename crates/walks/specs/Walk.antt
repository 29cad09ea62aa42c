-- What a walk asks and promises. A walk goes on from node to node along open arcs, each to a fresh node, and back by the arcs that it came
-- by. Cell v of the queue table is the item of node v that is looked along next.
--   Pointed r u j          j is an item of node u that may be listed there, or the number past all items
--   Ahead r queue          so is each cell of the queue
--   Fresh r S spare b label e u    arc e leads from u to a fresh node
--   Goes .. e u x          x says whether it does
--   Barren .. u lo hi      no item of u from lo on and below hi leads to a fresh node
--   Swept .. queue         nor does an item before its node's cell
--   Ways .. u P by to      arc `by` leads from u to the fresh node `to`; where `to` is u, no arc of P leads from u to a fresh node
--   Advanced .. queue queue' u     the cell of u went past items that lead to no fresh node, and no other cell changed
--   Beyond r u lo b e      e is the arc up from u, where b holds, or that of an item of u from lo on
--   Onto sh ch sheet t u by to     arc `by` leads from u to another node `to`, which is fresh
--   Standing sh ch sheet t u       what going on from u asks: u is reached
--   Returns sh ch sheet t u        what going back from u asks
--   Tail .. u x            the arc by which u was reached leads from x
--   Chosen sh ch sheet t u i       i is an item of u that leads to a fresh node, or the number past all items
--   Opened sh ch sheet t u j i     so is i, and no item of u from j on and before i leads to a fresh node
--   Went sh ch sheet t t' u b by to    what it promises: a way on, and the cell of u went past what leads to no fresh node
--   Onward .. label' u x   x was fresh and is reached from u
--   Halted .. queue label' u x     no arc from u leads to a fresh node: x is where u was reached from, or where u is the source no node
--   Stride .. queue label' queue' u x, Stepped sh ch sheet t t' u x    one of the two
--   Begun sh ch sheet t    what a walk asks: a state with its lists, and every node fresh
--   Stuck sh ch sheet t    the nodes that are reached are those to which open arcs lead from the source; the sink is none of them
--   Set sh ch sheet t      what it asks past its first label: the source is reached, and every other node is fresh
--   Walk sh ch sheet t t' b        what it promises: where b holds a path to the sink; else, where `Swept` held, that there is none
--   Crossed sh ch sheet t ch' t'   a path was turned: one row more is kept, and the next walk may begin
--   Turn sh ch sheet t ch' t' b    where b holds, it was; else a walk was made that did not come to the sink
--   Ran sh ch sheet t ch' t'       paths were turned, under the same prices, and the lists stand
--   Rewound sh t t' m      the cells of the nodes below m are their first items
--   Refilled sh ch sheet t ch' t'  more rows are kept, and the next round may begin
--   Round sh ch sheet t ch' t' b   where b holds, paths were turned; else there is none
use Rattle.std.specs.Prelude.{◌≡◌, ◌⊎◌, ◌≢◌, Bool, true, false, List, ℕ, ◌+◌, ◌-◌, ◌≤◌, ◌<◌, ltb}
use Rattle.theory.specs.Incidence.{size}
use Rattle.theory.specs.Residual.{Residual, Cut}
use Rattle.theory.specs.Turn.{Puts}
use Rattle.exchange.specs.Plain.{Forward}
use Rattle.scratch.specs.declared.Shape.{Shape}
use Rattle.scratch.specs.Map.{label_of, pred_of, queue_of, spare_of, first_of, kept_of, queues, span, Keeps, OnlySearch}
use Rattle.scratch.specs.View.{net_of, residual_of}
use Rattle.residual.specs.State.{Ready}
use Rattle.residual.specs.Items.{Item, ItemArc, Lists, rise_at, arc_at}
use Rattle.look.specs.Reach.{Step, pred_in}
use Rattle.paths.specs.Flip.{Good, Path}
use Rattle.prices.specs.State.{AllFresh, State, Filled}

--------------------------------------------------------------------------------
-- Over functions

pub record Pointed (r : Residual) (u j : ℕ) : Type 0 where
  pub live : r.free ≤ j
  pub high : j ≤ r.net.rows + r.net.groups
  pub item : j < r.net.rows + r.net.groups → Item r u j

abbrev pub Ahead : Residual → (ℕ → ℕ) → Type 0
Ahead r queue = (v : ℕ) → v < r.net.groups + 2 → Pointed r v (queue v)

abbrev pub Beyond : Residual → ℕ → ℕ → Bool → ℕ → Type 0
Beyond r u lo b e = ((b ≡ true) × (e ≡ rise_at r.net false u)) ⊎ ((w : ItemArc r false u e) × (lo ≤ w.j))

module _ (r : Residual) (S spare : ℕ → ℕ) (b : ℕ) (label : ℕ → ℕ) where
  pub record Fresh (e u : ℕ) : Type 0 where
    pub v : ℕ
    pub arc : Step false r S spare e u v
    pub new : label v ≡ b

  pub record Goes (e u : ℕ) (x : Bool) : Type 0 where
    pub yes : x ≡ true → Fresh e u
    pub no : x ≡ false → Fresh e u → ⊥

  abbrev pub Barren : ℕ → ℕ → ℕ → Type 0
  Barren u lo hi = (e : ℕ) (w : ItemArc r false u e) → lo ≤ w.j → w.j < hi → Fresh e u → ⊥

  abbrev pub Swept : (ℕ → ℕ) → Type 0
  Swept queue = (u : ℕ) → u < r.net.groups + 2 → Barren u 0 (queue u)

  pub record Ways (u : ℕ) (P : ℕ → Type 0) (by to : ℕ) : Type 0 where
    pub on : to ≢ u → Step false r S spare by u to × (label to ≡ b)
    pub none : to ≡ u → (e : ℕ) → P e → Fresh e u → ⊥

  pub record Advanced (queue queue' : ℕ → ℕ) (u : ℕ) : Type 0 where
    pub else : (v : ℕ) → v ≢ u → queue' v ≡ queue v
    pub point : Pointed r u (queue' u)
    pub barren : Barren u (queue u) (queue' u)

  pub record Onward (label' : ℕ → ℕ) (u x : ℕ) : Type 0 where
    pub by : ℕ
    pub small : by + 1 < span
    pub arc : Step false r S spare by u x
    pub new : label x ≡ b
    pub puts : Puts label label' x (b + by + 1)

  abbrev pub Tail : ℕ → ℕ → Type 0
  Tail u x = (y : ℕ) → Step false r S spare (pred_in b label u - 1) y u → x ≡ y

  pub record Halted (queue label' : ℕ → ℕ) (u x : ℕ) : Type 0 where
    pub same : label' ≡ label
    pub none : (e : ℕ) → Beyond r u (queue u) (ltb u r.net.groups) e → Fresh e u → ⊥
    pub ends : ((u ≡ r.net.groups) × (x ≡ r.net.groups + 2)) ⊎ ((u ≢ r.net.groups) × Tail u x)

  pub record Stride (queue label' queue' : ℕ → ℕ) (u x : ℕ) : Type 0 where
    pub advanced : Advanced queue queue' u
    pub step : Onward label' u x ⊎ Halted queue label' u x

--------------------------------------------------------------------------------
-- In the buffers

abbrev pub FreshOf : Shape → List ℕ → List ℕ → List ℕ → ℕ → ℕ → Type 0
FreshOf sh ch sheet t = Fresh (residual_of sh sheet t) (kept_of ch) (spare_of sh t) sh.fresh (label_of sh t)

abbrev pub GoesOf : Shape → List ℕ → List ℕ → List ℕ → ℕ → ℕ → Bool → Type 0
GoesOf sh ch sheet t = Goes (residual_of sh sheet t) (kept_of ch) (spare_of sh t) sh.fresh (label_of sh t)

abbrev pub BarrenOf : Shape → List ℕ → List ℕ → List ℕ → ℕ → ℕ → ℕ → Type 0
BarrenOf sh ch sheet t = Barren (residual_of sh sheet t) (kept_of ch) (spare_of sh t) sh.fresh (label_of sh t)

abbrev pub SweptOf : Shape → List ℕ → List ℕ → List ℕ → Type 0
SweptOf sh ch sheet t =
    Swept (residual_of sh sheet t) (kept_of ch) (spare_of sh t) sh.fresh (label_of sh t) (queue_of sh t)

abbrev pub WaysOf : Shape → List ℕ → List ℕ → List ℕ → ℕ → (ℕ → Type 0) → ℕ → ℕ → Type 0
WaysOf sh ch sheet t = Ways (residual_of sh sheet t) (kept_of ch) (spare_of sh t) sh.fresh (label_of sh t)

abbrev pub AdvancedOf : Shape → List ℕ → List ℕ → List ℕ → List ℕ → ℕ → Type 0
AdvancedOf sh ch sheet t t' =
    Advanced (residual_of sh sheet t) (kept_of ch) (spare_of sh t) sh.fresh (label_of sh t) (queue_of sh t) (queue_of sh t')

pub record Onto (sh : Shape) (ch sheet t : List ℕ) (u by to : ℕ) : Type 0 where
  pub away : to ≢ u
  pub arc : Step false (residual_of sh sheet t) (kept_of ch) (spare_of sh t) by u to
  pub new : label_of sh t to ≡ sh.fresh

pub record Standing (sh : Shape) (ch sheet t : List ℕ) (u : ℕ) : Type 0 where
  pub ready : Ready sh ch sheet t
  pub free : sh.free ≤ sh.rows
  pub lists : Lists sh sheet t
  pub ahead : Ahead (residual_of sh sheet t) (queue_of sh t)
  pub node : u < sh.groups + 2
  pub stale : label_of sh t u ≢ sh.fresh

-- a node but the source was reached by an arc that is open
abbrev pub Returns : Shape → List ℕ → List ℕ → List ℕ → ℕ → Type 0
Returns sh ch sheet t u = u ≢ sh.groups → Good sh ch sheet t u

abbrev pub TailOf : Shape → List ℕ → List ℕ → List ℕ → ℕ → ℕ → Type 0
TailOf sh ch sheet t = Tail (residual_of sh sheet t) (kept_of ch) (spare_of sh t) sh.fresh (label_of sh t)

pub record Chosen (sh : Shape) (ch sheet t : List ℕ) (u i : ℕ) : Type 0 where
  pub point : Pointed (residual_of sh sheet t) u i
  pub goes : i < sh.rows + sh.groups → FreshOf sh ch sheet t (arc_at (net_of sh t) false i) u

pub record Opened (sh : Shape) (ch sheet t : List ℕ) (u j i : ℕ) : Type 0 where
  pub chosen : Chosen sh ch sheet t u i
  pub barren : BarrenOf sh ch sheet t u j i

pub record Went (sh : Shape) (ch sheet t t' : List ℕ) (u : ℕ) (b : Bool) (by to : ℕ) : Type 0 where
  pub only : Keeps sh (λ l. l ≡ queues) t t'
  pub advanced : AdvancedOf sh ch sheet t t' u
  pub ways : WaysOf sh ch sheet t u (Beyond (residual_of sh sheet t) u (queue_of sh t u) b) by to

pub record Stepped (sh : Shape) (ch sheet t t' : List ℕ) (u x : ℕ) : Type 0 where
  pub only : OnlySearch sh t t'
  pub stride :
      Stride (residual_of sh sheet t) (kept_of ch) (spare_of sh t) sh.fresh (label_of sh t) (queue_of sh t) (label_of sh t') (queue_of sh t')
      u x

--------------------------------------------------------------------------------
-- Whole walks

pub record Begun (sh : Shape) (ch sheet t : List ℕ) : Type 0 where
  pub state : State sh ch sheet t
  pub lists : Lists sh sheet t
  pub free : sh.free ≤ sh.rows
  pub fresh : AllFresh sh t

pub record Set (sh : Shape) (ch sheet t : List ℕ) : Type 0 where
  pub state : State sh ch sheet t
  pub lists : Lists sh sheet t
  pub free : sh.free ≤ sh.rows
  pub ahead : Ahead (residual_of sh sheet t) (queue_of sh t)
  pub source : 0 < pred_of sh t sh.groups
  pub else : (v : ℕ) → v < sh.groups + 2 → v ≢ sh.groups → label_of sh t v ≡ sh.fresh

pub record Stuck (sh : Shape) (ch sheet t : List ℕ) : Type 0 where
  pub cut : Cut (residual_of sh sheet t) (kept_of ch) (spare_of sh t) (pred_of sh t) sh.groups (sh.groups + 1)
  pub rest : (v : ℕ) → v < sh.groups + 2 → pred_of sh t v ≡ 0 → label_of sh t v ≡ sh.fresh
  pub from : (v : ℕ) → v < sh.groups + 2 → 0 < pred_of sh t v → Forward (residual_of sh sheet t) (kept_of ch) (spare_of sh t) v

pub record Walk (sh : Shape) (ch sheet t t' : List ℕ) (b : Bool) : Type 0 where
  pub only : OnlySearch sh t t'
  pub ahead : Ahead (residual_of sh sheet t') (queue_of sh t')
  pub path : b ≡ true → Path sh ch sheet t' sh.groups (sh.groups + 1)
  pub none : b ≡ false → SweptOf sh ch sheet t → Stuck sh ch sheet t'

pub record Crossed (sh : Shape) (ch sheet t ch' t' : List ℕ) : Type 0 where
  pub filled : Filled sh ch sheet t ch' t'
  pub more : size sh.rows (kept_of ch') ≡ size sh.rows (kept_of ch) + 1
  pub begun : Begun sh ch' sheet t'
  pub ahead : Ahead (residual_of sh sheet t') (queue_of sh t')

pub record Turn (sh : Shape) (ch sheet t ch' t' : List ℕ) (b : Bool) : Type 0 where
  pub path : b ≡ true → Crossed sh ch sheet t ch' t'
  pub only : b ≡ false → OnlySearch sh t t' × (ch' ≡ ch)
  pub none : b ≡ false → SweptOf sh ch sheet t → Stuck sh ch sheet t'

pub record Ran (sh : Shape) (ch sheet t ch' t' : List ℕ) : Type 0 where
  pub filled : Filled sh ch sheet t ch' t'
  pub lists : Lists sh sheet t'

pub record Rewound (sh : Shape) (t t' : List ℕ) (m : ℕ) : Type 0 where
  pub only : Keeps sh (λ l. l ≡ queues) t t'
  pub first : (v : ℕ) → v < m → queue_of sh t' v ≡ first_of sh t v

pub record Refilled (sh : Shape) (ch sheet t ch' t' : List ℕ) : Type 0 where
  pub filled : Filled sh ch sheet t ch' t'
  pub more : size sh.rows (kept_of ch) < size sh.rows (kept_of ch')
  pub begun : Begun sh ch' sheet t'

pub record Round (sh : Shape) (ch sheet t ch' t' : List ℕ) (b : Bool) : Type 0 where
  pub path : b ≡ true → Refilled sh ch sheet t ch' t'
  pub none : b ≡ false → (OnlySearch sh t t' × (ch' ≡ ch)) × Stuck sh ch' sheet t'
