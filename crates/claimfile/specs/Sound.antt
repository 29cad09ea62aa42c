-- What holds of every accepted file of any sort and under either terms (`accepted-sound`), and what the functions on an accepted file
-- ask.
--   SmallerOrTop own parent    a group with its own number may have that parent
--   Sound s l              the file s has the layout l, its sizes are within bounds, and every field but the kinds is in range
--   Kinds K s l            its claims are of K kinds (`accepted-kinds`): 0 to K - 1
--   NoneAbove s l          what holds of every new file besides (`new-below`): on no day a group's limit is above its parent's
use Rattle.std.specs.Prelude.{ℕ, ◌+◌, ◌*◌, ◌<◌, ◌≤◌, ◌≡◌, ◌⊎◌, List, length}
use Rattle.theory.specs.Bounds.{max_groups, max_rows}
use Rattle.claimfile.specs.declared.Layout.{Layout}
use Rattle.claimfile.specs.File.{top, group_width, claim_width}
use Rattle.claimfile.specs.Day.{count_of, group_of, on_day, named_card, named_shop, kind_of}

-- "A parent is a smaller group number of that section, or 65535 for a group at the top."
abbrev pub SmallerOrTop : ℕ → ℕ → Type 0
SmallerOrTop own parent = (parent < own) ⊎ (parent ≡ top)

pub record Sound (s : List ℕ) (l : Layout) : Type 0 where
  pub card_place : l.card_at ≡ 2
  pub shop_place : l.shop_at ≡ 4 + group_width l.week * l.cards
  pub row_place : l.row_at ≡ 6 + group_width l.week * (l.cards + l.shops)
  pub size : length s ≡ 6 + group_width l.week * (l.cards + l.shops) + claim_width * l.rows
  pub cards_most : l.cards ≤ max_groups
  pub shops_most : l.shops ≤ max_groups
  pub rows_most : l.rows ≤ max_rows
  pub parents : (side g : ℕ) → g < count_of l side → SmallerOrTop g (group_of s l side g).parent
  pub row_cards : (c : ℕ) → c < l.rows → named_card s l c < l.cards
  pub row_shops : (c : ℕ) → c < l.rows → named_shop s l c < l.shops

abbrev pub Kinds : ℕ → List ℕ → Layout → Type 0
Kinds K s l = (c : ℕ) → c < l.rows → kind_of s l c < K

abbrev pub NoneAbove : List ℕ → Layout → Type 0
NoneAbove s l =
    (d side g : ℕ) → g < count_of l side → (group_of s l side g).parent < g →
    (group_of s (on_day l d) side g).limit ≤ (group_of s (on_day l d) side (group_of s l side g).parent).limit
