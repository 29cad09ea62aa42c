-- The solver's state over the lent buffers: the tables in the scratch, the prices in the sheet, the choice.
--   Working l                      the tables that the solver changes while it runs: all but those that are given
--   OnlyMoves sh t t'              only label, queue and spare changed: the item lists stay as they are
--   with_toll sh toll                the shape with another toll
--   with_class sh i b               the shape with another first free row, and for the class of nodes with another label
--   AllFresh sh t                  every node has the shape's label
--   limit_of sh ch t v              the limit of group v: the places that it has left and the kept rows that count in it
--   State sh ch sheet t            the buffers are long enough, the network is well formed, the choice and the prices are Level at
--                                  the shape's toll, and nothing is too large for its cell
--   Filled sh ch sheet t ch' t'    some rows more are kept, under the same prices: only the choice and the working tables changed
use Rattle.std.specs.Prelude.{◌≡◌, List, ℕ, ◌+◌, ◌≤◌, ◌<◌, length}
use Rattle.theory.specs.Incidence.{size}
use Rattle.theory.specs.Formed.{Formed}
use Rattle.theory.specs.Level.{count, Level, Range}
use Rattle.scratch.specs.declared.Shape.{Shape}
use Rattle.scratch.specs.Map.{max_spare, Room, Keeps, firsts, parents, label_of, spare_of, weight_of, price_of, kept_of}
use Rattle.scratch.specs.View.{net_of}
use Rattle.residual.specs.State.{highest}

abbrev pub Working : ℕ → Type 0
Working l = l < parents

abbrev pub OnlyMoves : Shape → List ℕ → List ℕ → Type 0
OnlyMoves sh t t' = Keeps sh (λ l. l < firsts) t t'

abbrev pub with_toll : Shape → ℕ → Shape
with_toll sh toll =
    record { cards = sh.cards; groups = sh.groups; rows = sh.rows; free = sh.free; toll = toll; fresh = sh.fresh }

abbrev pub with_class : Shape → ℕ → ℕ → Shape
with_class sh i b =
    record { cards = sh.cards; groups = sh.groups; rows = sh.rows; free = i; toll = sh.toll; fresh = b }

abbrev pub AllFresh : Shape → List ℕ → Type 0
AllFresh sh t = (v : ℕ) → v < sh.groups + 2 → label_of sh t v ≡ sh.fresh

unfoldable pub limit_of : Shape → List ℕ → List ℕ → ℕ → ℕ
limit_of sh ch t v = spare_of sh t v + count (net_of sh t) (kept_of ch) v

pub record State (sh : Shape) (ch sheet t : List ℕ) : Type 0 where
  pub room : Room sh t
  pub prices : sh.groups ≤ length sheet
  pub choices : sh.rows ≤ length ch
  pub formed : Formed (net_of sh t)
  pub level : Level (net_of sh t) (limit_of sh ch t) (weight_of sh t) (price_of sh sheet) sh.toll (kept_of ch)
  pub range : Range highest (price_of sh sheet) sh.toll
  pub low : (v : ℕ) → v < sh.groups → limit_of sh ch t v ≤ max_spare

pub record Filled (sh : Shape) (ch sheet t ch' t' : List ℕ) : Type 0 where
  pub state : State sh ch' sheet t'
  pub keeps : Keeps sh Working t t'
  pub limits : (v : ℕ) → v < sh.groups → limit_of sh ch' t' v ≡ limit_of sh ch t v
  pub more : size sh.rows (kept_of ch) ≤ size sh.rows (kept_of ch')
