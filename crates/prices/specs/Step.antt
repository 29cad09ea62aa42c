-- The step after a search that failed (DESIGN.md, section 3): the toll falls, and prices rise round the reached nodes.
--   BoundOf sh ch sheet t lo hi most k   k is the least slack of the arcs from lo on and below hi that leave the reached nodes,
--                                        at most `most`
--   GroupsOf sh ch sheet t lo hi most k  the same for both arcs of each group from lo on and below hi
--   GroupArc d lo hi e                   arc e is the one down to such a group, or the one up from it
--   AlongOf sh ch sheet t e a b          arc e leads from node a to node b, if it is usable
--   Groups Along                         GroupsOf and AlongOf of any residual network
--   Moving d R v b                       the answer b says whether the price of group v rises
--   Raised sh sheet t sheet' k m         the prices have risen by k at the groups below m that move
--   Cutting sh ch sheet t                what the step asks: the state with every row free, and a search from the source that
--                                        did not come to the sink
--   Stepped sh ch sheet t sheet' r       what it promises: the toll may fall by r, which is not 0 while there is a toll; then
--                                        the state holds with the new prices, which are in every range that the old ones were in
use Rattle.std.specs.Prelude.{◌≡◌, Bool, true, false, List, ◌⊎◌, ℕ, ◌+◌, ◌-◌, ◌≤◌, ◌<◌, length}
use Rattle.theory.specs.Network.{Network}
use Rattle.theory.specs.Level.{Range}
use Rattle.theory.specs.Residual.{Residual, Arc, Leaves, Cut}
use Rattle.theory.specs.Step.{Moves, Stays, Shift, Bound}
use Rattle.scratch.specs.declared.Shape.{Shape}
use Rattle.scratch.specs.Map.{pred_of, spare_of, price_of, kept_of}
use Rattle.scratch.specs.View.{net_of, residual_of}
use Rattle.prices.specs.State.{State, with_toll}

abbrev pub BoundOf : Shape → List ℕ → List ℕ → List ℕ → ℕ → ℕ → ℕ → ℕ → Type 0
BoundOf sh ch sheet t lo hi most k =
    Bound (residual_of sh sheet t) (kept_of ch) (spare_of sh t) (pred_of sh t) lo hi most k

abbrev pub GroupArc : Network → ℕ → ℕ → ℕ → Type 0
GroupArc d lo hi e = ((lo ≤ e) × (e < hi)) ⊎ ((d.groups + d.rows + lo ≤ e) × (e < d.groups + d.rows + hi))

module _ (r : Residual) (S spare : ℕ → ℕ) where
  pub record Groups (R : ℕ → ℕ) (lo hi most k : ℕ) : Type 0 where
    pub low : k ≤ most
    pub below : (e j : ℕ) → GroupArc r.net lo hi e → Leaves r S spare R e j → k ≤ j
    pub best : (x : ℕ) → x ≤ most → ((e j : ℕ) → GroupArc r.net lo hi e → Leaves r S spare R e j → x ≤ j) → x ≤ k

  pub record Along (e a b : ℕ) : Type 0 where
    pub ends : (u v k : ℕ) → Arc r S spare e u v k → (u ≡ a) × (v ≡ b)
    pub from_node : a < r.net.groups + 2
    pub to_node : b < r.net.groups + 2

abbrev pub GroupsOf : Shape → List ℕ → List ℕ → List ℕ → ℕ → ℕ → ℕ → ℕ → Type 0
GroupsOf sh ch sheet t lo hi most k =
    Groups (residual_of sh sheet t) (kept_of ch) (spare_of sh t) (pred_of sh t) lo hi most k

abbrev pub AlongOf : Shape → List ℕ → List ℕ → List ℕ → ℕ → ℕ → ℕ → Type 0
AlongOf sh ch sheet t e a b = Along (residual_of sh sheet t) (kept_of ch) (spare_of sh t) e a b

pub record Moving (d : Network) (R : ℕ → ℕ) (v : ℕ) (b : Bool) : Type 0 where
  pub moves : b ≡ true → Moves d R v
  pub stays : b ≡ false → Stays d R v

pub record Raised (sh : Shape) (sheet t sheet' : List ℕ) (k m : ℕ) : Type 0 where
  pub long : length sheet' ≡ length sheet
  pub shift : Shift (net_of sh t) (pred_of sh t) (price_of sh sheet) (price_of sh sheet') k m

pub record Cutting (sh : Shape) (ch sheet t : List ℕ) : Type 0 where
  pub state : State sh ch sheet t
  pub all : sh.free ≡ 0
  pub cut :
      Cut (residual_of sh sheet t) (kept_of ch) (spare_of sh t) (pred_of sh t) sh.groups (sh.groups + 1)

pub record Stepped (sh : Shape) (ch sheet t sheet' : List ℕ) (r : ℕ) : Type 0 where
  pub low : r ≤ sh.toll
  pub some : 0 < sh.toll → 0 < r
  pub state : State (with_toll sh (sh.toll - r)) ch sheet' t
  pub range : (top : ℕ) → Range top (price_of sh sheet) sh.toll → Range top (price_of sh sheet') (sh.toll - r)
