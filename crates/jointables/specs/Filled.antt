-- The tables of a joined day, written file by file, and what the functions that write them ask and leave.
--   spot_of n m k           where file k stands
--   Before n m k v         node v is the oven or a group of the first k files
--   Filled n m oven sh t k     the oven and the first k files are written: parents, limits from the front, rows
--   next_spot z l           where the file after one with that layout stands
--   layout_at day s         the layout of a file, where it is accepted
--   MemberStands, WroteMember  what writing a file asks, and what it leaves
--   PutOven                the oven is written
--   days_of day b ls        the days of the files in a buffer
--   JoinGiven, JoinWrote   what writing all tables asks, and what it leaves
--   FilledAll              what writing the files leaves, where the oven is written
use Rattle.std.specs.Prelude.{◌≡◌, ◌⊎◌, List, length, ℕ, ◌+◌, ◌≤◌, ◌<◌, Ok}
use Rattle.theory.specs.Sum.{sum}
use Rattle.theory.specs.Lowered.{lesser}
use Rattle.theory.specs.Capped.{capped}
use Rattle.theory.specs.Network.{Instance}
use Rattle.theory.specs.Priority as priority
use Rattle.claimfile.specs.File.{new_week}
use Rattle.claimfile.specs.declared.Layout.{Layout}
use Rattle.reader.specs.Reading.{reading}
use Rattle.claimwriter.specs.Written.{layout_in}
use Rattle.scratch.specs.declared.Shape.{Shape}
use Rattle.scratch.specs.Map.{max_spare, parents, spares, spare_of, parent_of, card_of, shop_of, weight_of, Room, Put}
use Rattle.tables.specs.declared.Spot.{Spot}
use Rattle.tables.specs.Tables.{Shaped, Tabled, Stands, PutFile}
use Rattle.counters.specs.Joined.{cards_of, shops_of, rows_of, oven_node, first_shop, all_groups, joined_parent, joined_net, written_limit, joined}
use Rattle.members.specs.Members.{member_of, layouts_of}
use Rattle.members.specs.Accepted.{AllRead}
use Rattle.joinfile.specs.Files.{members}

module _ (n : ℕ) (m : ℕ → Instance) where
  abbrev pub spot_of : ℕ → Spot
  spot_of k = record {
    card = sum k (cards_of n m);
    shop = first_shop n m + sum k (shops_of n m);
    over = oven_node n m;
    row = sum k (rows_of n m);
  }

  abbrev pub Before : ℕ → ℕ → Type 0
  Before k v = (v < sum k (cards_of n m)) ⊎ ((oven_node n m ≤ v) × (v < first_shop n m + sum k (shops_of n m)))

  pub record Filled (oven : ℕ) (sh : Shape) (t : List ℕ) (k : ℕ) : Type 0 where
    pub parents : (v : ℕ) → Before k v → parent_of sh t v ≡ joined_parent n m v
    pub limits :
        (v : ℕ) → Before k v →
        spare_of sh t v
        ≡ lesser (all_groups n m) (joined_parent n m v) (capped max_spare (written_limit n m oven v)) (spare_of sh t (joined_parent n m v))
    pub cards : (c : ℕ) → c < sum k (rows_of n m) → card_of sh t c ≡ (joined_net n m).card c
    pub shops : (c : ℕ) → c < sum k (rows_of n m) → shop_of sh t c ≡ (joined_net n m).shop c
    pub weights :
        (c : ℕ) → c < sum k (rows_of n m) → weight_of sh t c ≡ priority.weight_of (sum n (rows_of n m)) (joined n m oven).kind c

--------------------------------------------------------------------------------
-- One file, and the oven

abbrev pub next_spot : Spot → Layout → Spot
next_spot z l = record { card = z.card + l.cards; shop = z.shop + l.shops; over = z.over; row = z.row + l.rows }

abbrev pub layout_at : ℕ → List ℕ → Layout
layout_at day s = layout_in (reading (new_week day) s)

pub record MemberStands (day : ℕ) (s : List ℕ) (sh : Shape) (spot : Spot) (t : List ℕ) : Type 0 where
  pub accepted : reading (new_week day) s ≡ Ok (layout_at day s)
  pub stands : Stands s (layout_at day s) sh spot t

pub record WroteMember (day : ℕ) (s : List ℕ) (sh : Shape) (spot : Spot) (t t' : List ℕ) (r : Spot) : Type 0 where
  pub wrote : PutFile s (layout_at day s) sh spot t t'
  pub long : length t' ≡ length t
  pub next : r ≡ next_spot spot (layout_at day s)

pub record PutOven (sh : Shape) (t t' : List ℕ) (oven : ℕ) : Type 0 where
  pub between : List ℕ
  pub parent : Put sh t between parents sh.cards (sh.groups + 1)
  pub limit : Put sh between t' spares sh.cards (capped max_spare oven)
  pub long : length t' ≡ length t

--------------------------------------------------------------------------------
-- All of them

abbrev pub days_of : ℕ → List ℕ → List ℕ → ℕ → Instance
days_of day b ls = members (member_of b ls) (layouts_of day b ls)

pub record JoinGiven (day : ℕ) (b ls : List ℕ) (sh : Shape) (t : List ℕ) : Type 0 where
  pub read : AllRead day b ls
  pub shape : Shaped (joined_net (length ls) (days_of day b ls)) sh
  pub room : Room sh t

pub record JoinWrote (day : ℕ) (b ls : List ℕ) (oven : ℕ) (sh : Shape) (t t' : List ℕ) : Type 0 where
  pub long : length t' ≡ length t
  pub tabled : Tabled (joined (length ls) (days_of day b ls) oven) sh t'

-- whichever limit the oven has that is written
pub record FilledAll (day : ℕ) (b ls : List ℕ) (sh : Shape) (t t' : List ℕ) : Type 0 where
  pub long : length t' ≡ length t
  pub filled :
      (oven : ℕ) → Filled (length ls) (days_of day b ls) oven sh t 0 → Filled (length ls) (days_of day b ls) oven sh t' (length ls)
