-- What the functions of the search from both ends ask and promise. They change label and queue alone.
--   seen_by sh back t v     the arc by which node v was reached in a direction, plus 1; 0 where it was not
--   queue_by sh back t i    node i of a direction
--   BothIn sh back ch sheet t t' n m    both ends in t', by the residual network of t
--   SideOf d u b           b says whether node u is of the shop side
--   Tried sh back t t' v e n n' hit    a step by arc e to node v was taken: v was fresh and is reached, or the other end had reached it and
--                          hit is e + 1, or neither
--   Looked sh back ch sheet t t' u e n n' hit    the step of arc e from u was looked along
--   Looking sh ch sheet t n    what looking along an arc asks, where n nodes are reached
--   Open sh ch sheet t back u n m    what a scan of node u asks, where n nodes are reached in this direction and m in the other: u is
--                          one of the former
--   Scanned sh back ch sheet t t' u n m n' hit P    the steps from u by the arcs of P were looked along: n' nodes are reached, and hit is
--                          an arc that leads to the other end, plus 1; or it is 0 and none of them does, nor to a fresh node
--   Rising sh back u e     e is the arc of a step from u to its parent
--   Every e                e is any arc
--   byte_from back b        the byte in the choice of a row that is a step from a node of the shop side, where b holds, or of the card side
--   Asked sh ch sheet t start target    what the search asks: two different fresh nodes, and no node that is reached
--   Joint sh ch sheet t t' e    arc e leads from a node that was reached from the start to one that was reached from the target
--   Held sh ch sheet t t' start target n m    n nodes are reached from the start and m from the target, and each of them was fresh.
--                          The target itself has a number that no arc has
--   Begun sh ch sheet t start target    what going on from both ends asks
--   Met sh ch sheet t t' start target n m hit out    what the search promises: the same; where hit is above 0, arc hit - 1 leads from
--                          one end to the other. Else, where `out` holds, no open arc leads from the nodes that were reached from the
--                          start to another one that was fresh, and where not, none leads from such a node to those that were reached
--                          from the target
use Rattle.std.specs.Prelude.{◌≡◌, ◌⊎◌, ◌≢◌, Bool, true, false, not, List, ℕ, ◌+◌, ◌*◌, ◌-◌, ◌≤◌, ◌<◌}
use Rattle.theory.specs.Sum.{pick}
use Rattle.theory.specs.Network.{Network}
use Rattle.theory.specs.Formed.{CardNode, ShopNode}
use Rattle.theory.specs.Residual.{Arc}
use Rattle.theory.specs.Turn.{Puts}
use Rattle.scratch.specs.declared.Shape.{Shape}
use Rattle.scratch.specs.Map.{label_of, queue_of, spare_of, kept_of, OnlySearch}
use Rattle.scratch.specs.View.{residual_of}
use Rattle.residual.specs.State.{Ready}
use Rattle.residual.specs.Items.{Lists}
use Rattle.look.specs.Reach.{Step}
use Rattle.meet.specs.Ends.{base, seen_in, spot, stands_in, Spread, Both, Took, Joins, Free, Done}

abbrev pub seen_by : Shape → Bool → List ℕ → ℕ → ℕ
seen_by sh back t = seen_in back sh.fresh (label_of sh t)

abbrev pub queue_by : Shape → Bool → List ℕ → ℕ → ℕ
queue_by sh back t = stands_in back sh.groups (queue_of sh t)

abbrev pub BothIn : Shape → Bool → List ℕ → List ℕ → List ℕ → List ℕ → ℕ → ℕ → Type 0
BothIn sh back ch sheet t t' n m =
    Both back (residual_of sh sheet t) (kept_of ch) (spare_of sh t) sh.fresh (label_of sh t') (queue_of sh t') n m

pub record SideOf (d : Network) (u : ℕ) (b : Bool) : Type 0 where
  pub yes : b ≡ true → ShopNode d u
  pub no : b ≡ false → CardNode d u

abbrev pub byte_from : Bool → Bool → ℕ
byte_from back shops = pick shops (pick (not back) 1 0) (pick back 1 0)

-- the step from u to its parent
abbrev pub Rising : Shape → Bool → ℕ → ℕ → Type 0
Rising sh back u e = (u < sh.groups) × (e ≡ pick back u (sh.groups + sh.rows + u))

abbrev pub Every : ℕ → Type 0
Every e = e ≤ e

-- nothing changed
pub record Still (t t' : List ℕ) (n n' : ℕ) : Type 0 where
  pub same : t' ≡ t
  pub count : n' ≡ n

pub record Reached (sh : Shape) (back : Bool) (t t' : List ℕ) (v e n n' : ℕ) : Type 0 where
  pub new : label_of sh t v ≡ sh.fresh
  pub only : OnlySearch sh t t'
  pub label : Puts (label_of sh t) (label_of sh t') v (base back sh.fresh + e + 1)
  pub queue : Puts (queue_of sh t) (queue_of sh t') (spot sh.groups back n) v
  pub more : n' ≡ n + 1

abbrev pub Tried : Shape → Bool → List ℕ → List ℕ → ℕ → ℕ → ℕ → ℕ → ℕ → Type 0
Tried sh back t t' v e n n' hit =
    (Reached sh back t t' v e n n' × (hit ≡ 0))
    ⊎ ((Still t t' n n' × ((hit ≡ e + 1) × (0 < seen_by sh (not back) t v)))
    ⊎ (Still t t' n n' × ((hit ≡ 0) × ((label_of sh t v ≢ sh.fresh) × (seen_by sh (not back) t v ≡ 0)))))

module _ (sh : Shape) (back : Bool) (ch sheet t t' : List ℕ) where
  abbrev pub LookedTook : ℕ → ℕ → ℕ → Type 0
  LookedTook u e n =
      Took back (residual_of sh sheet t) (kept_of ch) (spare_of sh t) sh.fresh (label_of sh t) (queue_of sh t) (label_of sh t') (queue_of sh t') n u e

  abbrev pub LookedJoins : ℕ → ℕ → Type 0
  LookedJoins u e = Joins back (residual_of sh sheet t) (kept_of ch) (spare_of sh t) sh.fresh (label_of sh t) u e

  abbrev pub LookedPast : ℕ → ℕ → Type 0
  LookedPast u e =
      (v : ℕ) → Step back (residual_of sh sheet t) (kept_of ch) (spare_of sh t) e u v →
      Free back (residual_of sh sheet t) (kept_of ch) (spare_of sh t) sh.fresh (label_of sh t) v

  pub record Looked (u e n n' hit : ℕ) : Type 0 where
    pub step :
        ((OnlySearch sh t t' × LookedTook u e n) × ((n' ≡ n + 1) × (hit ≡ 0)))
        ⊎ ((Still t t' n n' × (LookedJoins u e × (hit ≡ e + 1)))
        ⊎ (Still t t' n n' × (LookedPast u e × (hit ≡ 0))))

  pub record Scanned (u n m n' hit : ℕ) (P : ℕ → Type 0) : Type 0 where
    pub only : OnlySearch sh t t'
    pub grow : n ≤ n'
    pub keep : (i : ℕ) → i < n → queue_by sh back t' i ≡ queue_by sh back t i
    pub rest : (i : ℕ) → i < m → queue_by sh (not back) t' i ≡ queue_by sh (not back) t i
    pub spread : Spread back sh.fresh (label_of sh t) (label_of sh t')
    pub both : BothIn sh back ch sheet t t' n' m
    pub done :
        hit ≡ 0 → (e v : ℕ) → P e → Step back (residual_of sh sheet t) (kept_of ch) (spare_of sh t) e u v →
        Free back (residual_of sh sheet t) (kept_of ch) (spare_of sh t) sh.fresh (label_of sh t') v
    pub joins :
        0 < hit → Joins back (residual_of sh sheet t) (kept_of ch) (spare_of sh t) sh.fresh (label_of sh t') u (hit - 1)

module _ (sh : Shape) (ch sheet t : List ℕ) where
  pub record Looking (n : ℕ) : Type 0 where
    pub ready : Ready sh ch sheet t
    pub most : n ≤ sh.groups + 2

  pub record Open (back : Bool) (u n m : ℕ) : Type 0 where
    pub ready : Ready sh ch sheet t
    pub free : sh.free ≤ sh.rows
    pub lists : Lists sh sheet t
    pub paid : sh.toll ≡ 0
    pub node : u < sh.groups + 2
    pub seen : 0 < seen_by sh back t u
    pub both : BothIn sh back ch sheet t t n m

  pub record Asked (start target : ℕ) : Type 0 where
    pub ready : Ready sh ch sheet t
    pub free : sh.free ≤ sh.rows
    pub lists : Lists sh sheet t
    pub paid : sh.toll ≡ 0
    pub start_node : start < sh.groups + 2
    pub target_node : target < sh.groups + 2
    pub apart : start ≢ target
    pub start_fresh : label_of sh t start ≡ sh.fresh
    pub target_fresh : label_of sh t target ≡ sh.fresh
    pub dark : (back : Bool) (v : ℕ) → v < sh.groups + 2 → seen_by sh back t v ≡ 0

  pub record Joint (t' : List ℕ) (e : ℕ) : Type 0 where
    pub u : ℕ
    pub v : ℕ
    pub from : 0 < seen_by sh false t' u
    pub to : 0 < seen_by sh true t' v
    pub arc : Arc (residual_of sh sheet t) (kept_of ch) (spare_of sh t) e u v 0

  -- a node has its old label, or it was fresh and is reached
  abbrev pub Reaches : List ℕ → Type 0
  Reaches t' = (v : ℕ) → (label_of sh t' v ≡ label_of sh t v) ⊎ ((label_of sh t v ≡ sh.fresh) × ((back : Bool) × (0 < seen_by sh back t' v)))

  pub record Held (t' : List ℕ) (start target n m : ℕ) : Type 0 where
    pub only : OnlySearch sh t t'
    pub both : BothIn sh false ch sheet t t' n m
    pub begin : queue_by sh false t' 0 ≡ start
    pub end : queue_by sh true t' 0 ≡ target
    pub last : seen_by sh true t' target ≡ 2 * sh.groups + sh.rows + 1
    pub reaches : Reaches t'

  pub record Met (t' : List ℕ) (start target n m hit : ℕ) (out : Bool) : Type 0 where
    pub held : Held t' start target n m
    pub joins : 0 < hit → Joint t' (hit - 1)
    pub closed :
        hit ≡ 0 → (u : ℕ) → u < sh.groups + 2 → 0 < seen_by sh (not out) t' u →
        Done (not out) (residual_of sh sheet t) (kept_of ch) (spare_of sh t) sh.fresh (label_of sh t') u

-- both ends are reached in t, and were not in the tables before
pub record Begun (sh : Shape) (ch sheet t : List ℕ) (start target : ℕ) : Type 0 where
  pub old : List ℕ
  pub asked : Asked sh ch sheet old start target
  pub held : Held sh ch sheet old t start target 1 1
