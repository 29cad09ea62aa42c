-- The bytes of a file that holds given records, in the week layout, as it is written. What is written so is accepted, and its records
-- read back (`written-accepted`, `written-group`, `written-claim`, proofs/WrittenLaws.antt).
--   WeekGroup              the record of a group: its parent, and its limit of each day
--   week_group parent limit     such a record
--   on_day_of x k            the same with its limit of day k alone
--   Contents               what a file holds: how many records each section has, the record of each group by side and number, and
--                          of each claim
--   records_on d side       how many groups a side has
--   bytes_of n              a 16-bit number, low byte first
--   group_bytes, claim_bytes a record
--   records n f            f 0, f 1, .. up to f (n - 1), one behind the other
--   section n f            a section: its count, then its records
--   file_bytes d            the whole file
--   layout_for cards shops rows     how a file with so many records is laid out, for day 0
--   layout_in x             the layout of an accepted file, by its reading; for one that is refused, that of a file without records
--   length_for cards shops rows     how many bytes it has
--   layout_of d, length_of d the same for the file of these contents
--   TwoSided d             every side but 0 is the shop side: its groups are those of side 1
--   Ranged d               so it is, the counts are within bounds and every field is in range, so that a stored file may hold this
--   Proper d               so it is, and on no day a group's limit is above its parent's, so that a new file may hold this
--   SameGroup x y          the same parent, and the same limit of each day
--   SameContents d e       the same counts, and the same record of each group and of each claim
-- "Three sections in fixed order, each after its count. Every count and field is unsigned and 16 bits wide, low byte first, except
-- the kind, which is one byte."
use Rattle.std.specs.Prelude.{ℕ, zero, suc, ◌+◌, ◌*◌, ◌/◌, ◌%◌, ◌<◌, ◌≤◌, true, ◌≡◌, List, [], ◌∷◌, ◌++◌, Ok, Err}
use Rattle.theory.specs.Bounds.{max_groups, max_rows, max_limit}
use Rattle.claimfile.specs.declared.Layout.{Layout}
use Rattle.claimfile.specs.declared.Group.{Group}
use Rattle.claimfile.specs.declared.Claim.{Claim}
use Rattle.claimfile.specs.File.{days, group_width, claim_width}
use Rattle.claimfile.specs.Sound.{SmallerOrTop}
use Rattle.reader.specs.Reading.{Reading}

pub record WeekGroup : Type 0 where
  pub parent : ℕ
  pub limit : ℕ → ℕ

abbrev pub week_group : ℕ → (ℕ → ℕ) → WeekGroup
week_group parent limit = record { parent = parent; limit = limit }

abbrev pub on_day_of : WeekGroup → ℕ → Group
on_day_of x k = record { parent = x.parent; limit = x.limit k }

pub record Contents : Type 0 where
  pub cards : ℕ
  pub shops : ℕ
  pub rows : ℕ
  -- side 0 is card, side 1 is shop
  pub group : ℕ → ℕ → WeekGroup
  pub claim : ℕ → Claim

abbrev pub records_on : Contents → ℕ → ℕ
records_on d zero = d.cards
records_on d (suc n) = d.shops

abbrev pub bytes_of : ℕ → List ℕ
bytes_of n = n % 256 ∷ n / 256 ∷ []

abbrev pub claim_bytes : Claim → List ℕ
claim_bytes c = bytes_of c.card ++ bytes_of c.shop ++ c.kind ∷ []

unfoldable pub records : ℕ → (ℕ → List ℕ) → List ℕ
records zero f = []
records (suc n) f = records n f ++ f n

-- "parent, then seven limits of 16 bits, for days 0 to 6"
abbrev pub group_bytes : WeekGroup → List ℕ
group_bytes x = bytes_of x.parent ++ records days (λ k. bytes_of (x.limit k))

unfoldable pub section : ℕ → (ℕ → List ℕ) → List ℕ
section n f = bytes_of n ++ records n f

unfoldable pub file_bytes : Contents → List ℕ
file_bytes d =
    section d.cards (λ g. group_bytes (d.group 0 g))
    ++ section d.shops (λ g. group_bytes (d.group 1 g))
    ++ section d.rows (λ c. claim_bytes (d.claim c))

abbrev pub layout_for : ℕ → ℕ → ℕ → Layout
layout_for cards shops rows = record {
  week = true;
  day = 0;
  cards = cards;
  shops = shops;
  rows = rows;
  card_at = 2;
  shop_at = 4 + group_width true * cards;
  row_at = 6 + group_width true * (cards + shops);
}

abbrev pub layout_in : Reading → Layout
layout_in (Ok l) = l
layout_in (Err why) = layout_for 0 0 0

abbrev pub length_for : ℕ → ℕ → ℕ → ℕ
length_for cards shops rows = 6 + group_width true * (cards + shops) + claim_width * rows

abbrev pub layout_of : Contents → Layout
layout_of d = layout_for d.cards d.shops d.rows

abbrev pub length_of : Contents → ℕ
length_of d = length_for d.cards d.shops d.rows

abbrev pub TwoSided : Contents → Type 0
TwoSided d = (n g : ℕ) → d.group (suc n) g ≡ d.group 1 g

pub record Ranged (d : Contents) : Type 0 where
  pub sides : TwoSided d
  pub cards_most : d.cards ≤ max_groups
  pub shops_most : d.shops ≤ max_groups
  pub rows_most : d.rows ≤ max_rows
  pub parents : (side g : ℕ) → g < records_on d side → SmallerOrTop g (d.group side g).parent
  pub limits : (k side g : ℕ) → k < days → g < records_on d side → (d.group side g).limit k ≤ max_limit
  pub claim_cards : (c : ℕ) → c < d.rows → (d.claim c).card < d.cards
  pub claim_shops : (c : ℕ) → c < d.rows → (d.claim c).shop < d.shops
  pub claim_kinds : (c : ℕ) → c < d.rows → (d.claim c).kind ≤ 1

pub record Proper (d : Contents) : Type 0 where
  pub ranged : Ranged d
  pub below :
      (k side g : ℕ) → k < days → g < records_on d side → (d.group side g).parent < g →
      (d.group side g).limit k ≤ (d.group side (d.group side g).parent).limit k

pub record SameGroup (x y : WeekGroup) : Type 0 where
  pub parent : x.parent ≡ y.parent
  pub limits : (k : ℕ) → k < days → x.limit k ≡ y.limit k

pub record SameContents (d e : Contents) : Type 0 where
  pub cards : d.cards ≡ e.cards
  pub shops : d.shops ≡ e.shops
  pub rows : d.rows ≡ e.rows
  pub groups : (side g : ℕ) → g < records_on d side → SameGroup (d.group side g) (e.group side g)
  pub claims : (c : ℕ) → c < d.rows → d.claim c ≡ e.claim c
