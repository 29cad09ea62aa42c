-- The row order, at toll 0 (DESIGN.md, section 4): row after row, a row left out goes in where rows above it can make way.
--   InOrder sh ch t i              the first i rows of the choice are in order
--   Classes sh ch sheet t i next   the nodes are parted into `next` classes, by their labels: the nodes of a class have one rank, and
--                                  no open arc lowers the rank, where the rows from i on may be turned. Between the labels of two classes
--                                  there is room for those that a search gives from either end
--   Paid sh ch sheet t             what the row order asks: the state with no toll left, the lists of all items, and all nodes in one
--                                  class
--   AtRow sh ch sheet t i          the state when row i is to be placed: the rows below it are in order
--   Placing sh ch sheet t i next   the same with the classes: what placing row i asks, beside the lists of the rows from i on
--   Placed sh ch sheet t ch' t' i next    what was done: now the rows below i are in order and in no list, and there are `next`
--                                  classes
--   Arranged sh ch sheet t ch' t'  all rows are in order
--   Parted sh t i r                the answer r says whether row i's two nodes are of different classes
--   LeftOut sh ch sheet t i        row i is left out and costs its weight
--   Staying sh ch sheet t i r      the answer r says whether row i stays as it is: the rows up to it are then in order. Else it is left
--                                  out, and its two nodes are of one class
--   EndsNamed sh t t' n m out x    of the first n nodes of the queue and its last m, the former have the label x where `out` holds, else the
--                                  latter; the others of them are fresh
--   Swapping sh ch sheet t i a b next    what a swap asks: such a row, with these nodes; all rows above it are listed and may be turned,
--                                  and its class be searched
use Rattle.std.specs.Prelude.{◌≡◌, ◌≢◌, Bool, true, false, List, ℕ, ◌+◌, ◌*◌, ◌≤◌, ◌<◌}
use Rattle.theory.specs.Sum.{pick}
use Rattle.theory.specs.Level.{Ordered}
use Rattle.theory.specs.Residual.{freed}
use Rattle.theory.specs.Class.{Sorted}
use Rattle.scratch.specs.declared.Shape.{Shape}
use Rattle.scratch.specs.Map.{span, label_of, spare_of, card_of, shop_of, weight_of, row_price, kept_of}
use Rattle.scratch.specs.View.{net_of, residual_of}
use Rattle.residual.specs.Items.{Links, Lists}
use Rattle.search.specs.Search.{Relabelled, RelabelledIn, from_last}
use Rattle.prices.specs.State.{limit_of, State, Filled}

abbrev pub InOrder : Shape → List ℕ → List ℕ → ℕ → Type 0
InOrder sh ch t i = Ordered (net_of sh t) (limit_of sh ch t) (weight_of sh t) (kept_of ch) i

pub record Classes (sh : Shape) (ch sheet t : List ℕ) (i next : ℕ) : Type 0 where
  pub rank : ℕ → ℕ
  pub sorted : Sorted (freed (residual_of sh sheet t) i) (kept_of ch) (spare_of sh t) rank
  pub alike :
      (u v : ℕ) → u < sh.groups + 2 → v < sh.groups + 2 → label_of sh t u ≡ label_of sh t v → rank u ≡ rank v
  pub apart :
      (u v : ℕ) → u < sh.groups + 2 → v < sh.groups + 2 → rank u ≡ rank v → label_of sh t u ≡ label_of sh t v
  pub named : (v : ℕ) → v < sh.groups + 2 → (k : ℕ) × (label_of sh t v ≡ 2 * span * k) × (k < next)
  pub few : next ≤ i + 1

pub record Paid (sh : Shape) (ch sheet t : List ℕ) : Type 0 where
  pub state : State sh ch sheet t
  pub lists : Links sh sheet t 0
  pub none : sh.toll ≡ 0
  pub one : (v : ℕ) → v < sh.groups + 2 → label_of sh t v ≡ 0

pub record AtRow (sh : Shape) (ch sheet t : List ℕ) (i : ℕ) : Type 0 where
  pub state : State sh ch sheet t
  pub none : sh.toll ≡ 0
  pub row : i < sh.rows
  pub order : InOrder sh ch t i

pub record Placing (sh : Shape) (ch sheet t : List ℕ) (i next : ℕ) : Type 0 where
  pub at : AtRow sh ch sheet t i
  pub classes : Classes sh ch sheet t i next

pub record Placed (sh : Shape) (ch sheet t ch' t' : List ℕ) (i next : ℕ) : Type 0 where
  pub filled : Filled sh ch sheet t ch' t'
  pub lists : Links sh sheet t' i
  pub order : InOrder sh ch' t' i
  pub classes : Classes sh ch' sheet t' i next

pub record Arranged (sh : Shape) (ch sheet t ch' t' : List ℕ) : Type 0 where
  pub filled : Filled sh ch sheet t ch' t'
  pub order : InOrder sh ch' t' sh.rows

pub record Parted (sh : Shape) (t : List ℕ) (i : ℕ) (r : Bool) : Type 0 where
  pub yes : r ≡ true → label_of sh t (card_of sh t i) ≢ label_of sh t (shop_of sh t i)
  pub no : r ≡ false → label_of sh t (card_of sh t i) ≡ label_of sh t (shop_of sh t i)

pub record LeftOut (sh : Shape) (ch sheet t : List ℕ) (i : ℕ) : Type 0 where
  pub out : kept_of ch i ≡ 0
  pub even : row_price sh sheet t i ≡ weight_of sh t i
  pub one : label_of sh t (card_of sh t i) ≡ label_of sh t (shop_of sh t i)

pub record Staying (sh : Shape) (ch sheet t : List ℕ) (i : ℕ) (r : Bool) : Type 0 where
  pub yes : r ≡ true → InOrder sh ch t (i + 1)
  pub no : r ≡ false → LeftOut sh ch sheet t i

pub record EndsNamed (sh : Shape) (t t' : List ℕ) (n m : ℕ) (out : Bool) (x : ℕ) : Type 0 where
  pub between : List ℕ
  pub first : Relabelled sh t between n (pick out x sh.fresh)
  pub last : RelabelledIn sh (from_last sh between) between t' m (pick out sh.fresh x)

pub record Swapping (sh : Shape) (ch sheet t : List ℕ) (i a b next : ℕ) : Type 0 where
  pub placing : Placing sh ch sheet t i next
  pub left : LeftOut sh ch sheet t i
  pub lists : Lists sh sheet t
  pub above : sh.free ≡ i + 1
  pub card : a ≡ card_of sh t i
  pub shop : b ≡ shop_of sh t i
  pub mine : label_of sh t a ≡ sh.fresh
