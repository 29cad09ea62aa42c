-- The joined file of document 02, E13, by what the files hold: "its shop group 0 has the oven limit and stands above all top shop groups, the
-- files' groups and rows follow in file order".
--   cards_in, shops_in, rows_in   how many records each section of file k has
--   group_in side before over k g   the record of group g of a side of file k, where `before` groups of the side stand before the file's own
--                          and `over` is the parent of those at its top: the number of its parent is moved as the node above it is (`above`)
--   card_group_in, shop_group_in   that of card group g and of shop group g of file k, in the joined file
--   oven_group oven         that of the oven: at the top, with its limit on all seven days
--   claim_in k c            that of row c of file k
--   joined_group            the record of each group by side and number: the files' card groups; the oven, and then the files' shop groups
--   joined_contents         what the joined file holds
--   joined_file             the joined file
--   joined_layout           how it is laid out, for a day
--   contents_of s l         what the files s k hold, where l k is the layout of s k
--   members s l            the days that they hold
--   DaysAgree i j          two days that agree at every group and every row
-- `d k` is what file k holds, of n files. The joined file is a stored file in the week layout: a limit above the oven's is lowered to it.
use Rattle.std.specs.Prelude.{◌≡◌, List, ℕ, zero, suc, ◌+◌, ◌-◌, ◌<◌, eqb}
use Rattle.theory.specs.Sum.{pick, sum}
use Rattle.theory.specs.Network.{Instance}
use Rattle.theory.specs.Formed.{Alike}
use Rattle.claimfile.specs.File.{top}
use Rattle.claimfile.specs.Day.{above, instance_of, on_day}
use Rattle.claimfile.specs.declared.Layout.{Layout}
use Rattle.claimfile.specs.declared.Claim.{Claim}
use Rattle.claimwriter.specs.Written.{WeekGroup, week_group, Contents, file_bytes, layout_of}
use Rattle.claimwriter.specs.Week.{contents_in}
use Rattle.counters.specs.Joined.{of_part}

-- "its shop group 0 has the oven limit"
abbrev pub oven_group : ℕ → WeekGroup
oven_group oven = week_group top (λ day. oven)

module _ (n : ℕ) (d : ℕ → Contents) where
  abbrev pub cards_in : ℕ → ℕ
  cards_in k = (d k).cards

  abbrev pub shops_in : ℕ → ℕ
  shops_in k = (d k).shops

  abbrev pub rows_in : ℕ → ℕ
  rows_in k = (d k).rows

  abbrev pub group_in : ℕ → ℕ → ℕ → ℕ → ℕ → WeekGroup
  group_in side before over k g =
      week_group (above g ((d k).group side g).parent before over) ((d k).group side g).limit

  abbrev pub card_group_in : ℕ → ℕ → WeekGroup
  card_group_in k g = group_in 0 (sum k cards_in) top k g

  -- the oven, shop group 0, stands before them and over those at the top
  abbrev pub shop_group_in : ℕ → ℕ → WeekGroup
  shop_group_in k g = group_in 1 (1 + sum k shops_in) 0 k g

  abbrev pub claim_in : ℕ → ℕ → Claim
  claim_in k c = record {
    card = sum k cards_in + ((d k).claim c).card;
    shop = 1 + sum k shops_in + ((d k).claim c).shop;
    kind = ((d k).claim c).kind;
  }

  abbrev pub joined_group : ℕ → ℕ → ℕ → WeekGroup
  joined_group oven zero g = of_part cards_in n card_group_in g
  joined_group oven (suc side) g = pick (eqb g 0) (oven_group oven) (of_part shops_in n shop_group_in (g - 1))

  abbrev pub joined_contents : ℕ → Contents
  joined_contents oven = record {
    cards = sum n cards_in;
    shops = 1 + sum n shops_in;
    rows = sum n rows_in;
    group = joined_group oven;
    claim = of_part rows_in n claim_in;
  }

  abbrev pub joined_file : ℕ → List ℕ
  joined_file oven = file_bytes (joined_contents oven)

  abbrev pub joined_layout : ℕ → ℕ → Layout
  joined_layout oven day = on_day (layout_of (joined_contents oven)) day

abbrev pub contents_of : (ℕ → List ℕ) → (ℕ → Layout) → ℕ → Contents
contents_of s l k = contents_in (s k) (l k)

abbrev pub members : (ℕ → List ℕ) → (ℕ → Layout) → ℕ → Instance
members s l k = instance_of (s k) (l k)

pub record DaysAgree (i j : Instance) : Type 0 where
  pub net : Alike i.net j.net
  pub limits : (v : ℕ) → v < i.net.groups → i.limit v ≡ j.limit v
  pub kinds : (c : ℕ) → c < i.net.rows → i.kind c ≡ j.kind c
