-- What the functions of the search ask and promise. A search changes label and queue alone. It goes along open arcs, or against them where
-- `back` holds: a step from u to v is by an open arc from u to v, or from v to u.
--   ReachBy sh back ch sheet t t' h n   in t' the nodes that are reached by steps of the residual network of t
--   Open sh back ch sheet t u h n   what a scan of node u asks: u stands in place h of the queue; against the arcs it is not the source,
--                              whose list may be short
--   Scanned sh back ch sheet t t' u h n n' P  no step by an arc of P from u leads to a fresh node
--   Rising sh back u b e       e is the arc of a step from u to its parent, and b holds
--   Every e                    e is any arc
--   Seeded sh back ch sheet t target   what the queue asks; against the arcs the source is not fresh, and it is not reached
--   Asked sh ch sheet t start target   what a search asks: the start is fresh, and no node is reached. Where the target is not fresh,
--                              it is not reached, and the search goes to its end
--   SearchedBy sh back ch sheet t t' start target n   what it promises: n nodes are reached, the first of them the start, each other by
--                              a step from one before it, and each was fresh; where the target is not reached, no step leads from a
--                              reached node to a fresh one. Node v is reached exactly where `pred_of sh t' v` is above 0
--   QueuedIn sh t queue n      the first n places of a queue hold nodes
--   RelabelledIn sh queue t t' n x    the nodes in the first n places of a queue have the label x, and the others the old one
--   Queued sh t n, Relabelled sh t t' n x    the same of the queue in the buffer
--   from_last sh t              that queue from its last place down
--   Refreshed sh t t' m        the nodes below m are fresh
use Rattle.std.specs.Prelude.{◌≡◌, ◌≢◌, Bool, true, List, ℕ, ◌+◌, ◌-◌, ◌≤◌, ◌<◌}
use Rattle.theory.specs.Sum.{pick}
use Rattle.scratch.specs.declared.Shape.{Shape}
use Rattle.scratch.specs.Map.{label_of, pred_of, queue_of, spare_of, kept_of, Room, OnlySearch, OnlyLabels}
use Rattle.scratch.specs.View.{residual_of}
use Rattle.residual.specs.State.{Ready}
use Rattle.residual.specs.Items.{Lists}
use Rattle.look.specs.Reach.{Step, Spread, Reach, Done, Grew}

abbrev pub ReachBy : Shape → Bool → List ℕ → List ℕ → List ℕ → List ℕ → ℕ → ℕ → Type 0
ReachBy sh back ch sheet t t' h n = Reach back (residual_of sh sheet t) (kept_of ch) (spare_of sh t) (pred_of sh t') (queue_of sh t') h n

pub record Asked (sh : Shape) (ch sheet t : List ℕ) (start target : ℕ) : Type 0 where
  pub ready : Ready sh ch sheet t
  pub free : sh.free ≤ sh.rows
  pub lists : Lists sh sheet t
  pub start_node : start < sh.groups + 2
  pub target_node : target < sh.groups + 2
  pub start_fresh : label_of sh t start ≡ sh.fresh
  pub dark : (v : ℕ) → v < sh.groups + 2 → pred_of sh t v ≡ 0

module _ (sh : Shape) (back : Bool) (ch sheet t : List ℕ) where
  pub record Open (u h n : ℕ) : Type 0 where
    pub ready : Ready sh ch sheet t
    pub free : sh.free ≤ sh.rows
    pub lists : Lists sh sheet t
    pub early : h < n
    pub at : queue_of sh t h ≡ u
    pub aside : back ≡ true → u ≢ sh.groups
    pub reach : ReachBy sh back ch sheet t t (h + 1) n

  pub record Scanned (t' : List ℕ) (u h n n' : ℕ) (P : ℕ → Type 0) : Type 0 where
    pub only : OnlySearch sh t t'
    pub grew :
        Grew back (residual_of sh sheet t) (kept_of ch) (spare_of sh t) sh.fresh (label_of sh t) (queue_of sh t) n (label_of sh t') (queue_of sh t')
        (h + 1) n'
    pub done :
        (e v : ℕ) → P e → Step back (residual_of sh sheet t) (kept_of ch) (spare_of sh t) e u v → label_of sh t' v ≢ sh.fresh

  pub record Seeded (target : ℕ) : Type 0 where
    pub ready : Ready sh ch sheet t
    pub free : sh.free ≤ sh.rows
    pub lists : Lists sh sheet t
    pub node : target < sh.groups + 2
    pub reach : ReachBy sh back ch sheet t t 0 1
    pub aside : back ≡ true → (label_of sh t sh.groups ≢ sh.fresh) × (pred_of sh t sh.groups ≡ 0)

  pub record SearchedBy (t' : List ℕ) (start target n : ℕ) : Type 0 where
    pub only : OnlySearch sh t t'
    pub reach : ReachBy sh back ch sheet t t' n n
    pub begin : queue_of sh t' 0 ≡ start
    pub spread : Spread sh.fresh (label_of sh t) (label_of sh t')
    pub closed :
        pred_of sh t' target ≡ 0 → (u : ℕ) → u < sh.groups + 2 → 0 < pred_of sh t' u →
        Done back (residual_of sh sheet t) (kept_of ch) (spare_of sh t) sh.fresh (label_of sh t') u

pub record QueuedIn (sh : Shape) (t : List ℕ) (queue : ℕ → ℕ) (n : ℕ) : Type 0 where
  pub room : Room sh t
  pub most : n ≤ sh.groups + 2
  pub node : (i : ℕ) → i < n → queue i < sh.groups + 2

pub record RelabelledIn (sh : Shape) (queue : ℕ → ℕ) (t t' : List ℕ) (n x : ℕ) : Type 0 where
  pub only : OnlyLabels sh t t'
  pub given : (i : ℕ) → i < n → label_of sh t' (queue i) ≡ x
  pub else : (v : ℕ) → ((i : ℕ) → i < n → queue i ≢ v) → label_of sh t' v ≡ label_of sh t v

-- the queue from its first place up
abbrev pub Queued : Shape → List ℕ → ℕ → Type 0
Queued sh t n = QueuedIn sh t (queue_of sh t) n

abbrev pub Relabelled : Shape → List ℕ → List ℕ → ℕ → ℕ → Type 0
Relabelled sh t t' n x = RelabelledIn sh (queue_of sh t) t t' n x

-- and from its last place down
abbrev pub from_last : Shape → List ℕ → ℕ → ℕ
from_last sh t i = queue_of sh t (sh.groups + 2 - i)

pub record Refreshed (sh : Shape) (t t' : List ℕ) (m : ℕ) : Type 0 where
  pub only : OnlyLabels sh t t'
  pub fresh : (v : ℕ) → v < m → label_of sh t' v ≡ sh.fresh

-- the step from u to its parent, where b holds
abbrev pub Rising : Shape → Bool → ℕ → Bool → ℕ → Type 0
Rising sh back u b e = (b ≡ true) × (e ≡ pick back u (sh.groups + sh.rows + u))

abbrev pub Every : ℕ → Type 0
Every e = e ≤ e
