-- The canonical file, and when two files differ only in group numbering and in groups that are dropped (document 02, E3, E4 and E9).
--   named s l side c       the group that row c names on a side: side 0 is card, side 1 is shop
--   side_of s l side        a side of an accepted file, new or stored, in either layout, with its limits of each day as lowered
--   parent_word d g         the number that stands in a record for the parent of group g
--   record_of d g           the record of group g
--   contents_of d kind      what a file holds that has the sides d 0 and d 1 and these kinds
--   canonical_contents s l  what the canonical file of an accepted file holds: its sides in the new numbers
--   canonical_layout s l    how the canonical file is laid out: the week layout, and day 0. Read on day k it is `on_day` of this
--   canonical_by s x        the canonical file of a file with the reading x; no bytes where it is refused
--   canonical f s          the canonical file of a file in the form f, new or stored, in either layout
--   Bytes s                each number of s is a byte
--   Used d g               a row counts in group g
--   Top d g                group g is at the top
--   Carries d e to         `to` takes used groups of d to used groups of e, with the same limits on every day, tops, parents and rows
--   Renumbering d e        the used groups of two sides correspond one to one: they are carried there and back
--   SameDay s k t l        two accepted files, with their layouts, differ only in group numbering and in groups that are dropped
-- E4: "The canonical writer's second call writes a stored file as lowered; where E3 compares files, a stored one is compared as
-- lowered." A new file's limits are the written ones (`new-side-limit`, proofs/DayLaws.antt).
-- E9: "The parent test and the lowering of E4 hold for each of the seven. The canonical form is in the week layout". The canonical writer
-- names no day: a side has the limits of all days, whichever day the layout has (`side-day`, proofs/DayLaws.antt).
use Rattle.std.specs.Prelude.{ℕ, zero, suc, ◌+◌, ◌≤◌, ◌<◌, ◌≡◌, List, [], ltb, get_or, Ok, Err}
use Rattle.theory.specs.Sum.{pick}
use Rattle.claimfile.specs.declared.Form.{Form}
use Rattle.claimfile.specs.declared.Layout.{Layout}
use Rattle.claimfile.specs.File.{top, days}
use Rattle.reader.specs.Reading.{reading, Reading}
use Rattle.claimfile.specs.Day.{count_of, on_day, named_card, named_shop, kind_of, first_of, limit_of}
use Rattle.claimwriter.specs.Written.{WeekGroup, week_group, Contents, file_bytes, layout_for}
use Rattle.sides.specs.Side.{parent_in}
use Rattle.renumber.specs.Side.{Side, counts, canonical_side}

--------------------------------------------------------------------------------
-- The canonical file

abbrev pub named : List ℕ → Layout → ℕ → ℕ → ℕ
named s l zero c = named_card s l c
named s l (suc n) c = named_shop s l c

abbrev pub side_of : List ℕ → Layout → ℕ → Side
side_of s l side = record {
  groups = count_of l side;
  rows = l.rows;
  parent = parent_in s l side;
  limit = λ k g. limit_of s (on_day l k) (first_of l side + g);
  names = named s l side;
}

-- "A parent is a smaller group number of that section, or 65535 for a group at the top."
abbrev pub parent_word : Side → ℕ → ℕ
parent_word d g = pick (ltb (d.parent g) d.groups) (d.parent g) top

abbrev pub record_of : Side → ℕ → WeekGroup
record_of d g = week_group (parent_word d g) (λ k. d.limit k g)

abbrev pub contents_of : (ℕ → Side) → (ℕ → ℕ) → Contents
contents_of d kind = record {
  cards = (d 0).groups;
  shops = (d 1).groups;
  rows = (d 0).rows;
  group = λ side. record_of (d side);
  claim = λ c. record { card = (d 0).names c; shop = (d 1).names c; kind = kind c };
}

abbrev pub canonical_contents : List ℕ → Layout → Contents
canonical_contents s l = contents_of (λ side. canonical_side (side_of s l side)) (kind_of s l)

abbrev pub canonical_layout : List ℕ → Layout → Layout
canonical_layout s l =
    layout_for (canonical_contents s l).cards (canonical_contents s l).shops (canonical_contents s l).rows

abbrev pub canonical_by : List ℕ → Reading → List ℕ
canonical_by s (Ok l) = file_bytes (canonical_contents s l)
canonical_by s (Err why) = []

unfoldable pub canonical : Form → List ℕ → List ℕ
canonical f s = canonical_by s (reading f s)

abbrev pub Bytes : List ℕ → Type 0
Bytes s = (i : ℕ) → get_or s i 0 < 256

--------------------------------------------------------------------------------
-- The same claims, groups and limits

abbrev pub Used : Side → ℕ → Type 0
Used d g = (r : ℕ) × (r < d.rows) × (1 ≤ counts d r g)

abbrev pub Top : Side → ℕ → Type 0
Top d g = d.parent g ≡ d.groups

pub record Carries (d e : Side) (to : ℕ → ℕ) : Type 0 where
  pub used : (g : ℕ) → Used d g → Used e (to g)
  pub limits : (k g : ℕ) → k < days → Used d g → e.limit k (to g) ≡ d.limit k g
  pub tops : (g : ℕ) → Used d g → Top d g → Top e (to g)
  pub parents : (g : ℕ) → Used d g → d.parent g < d.groups → e.parent (to g) ≡ to (d.parent g)
  pub names : (r : ℕ) → r < d.rows → e.names r ≡ to (d.names r)

pub record Renumbering (d e : Side) : Type 0 where
  pub rows : d.rows ≡ e.rows
  pub to : ℕ → ℕ
  pub from : ℕ → ℕ
  pub there : Carries d e to
  pub home : Carries e d from
  pub back : (g : ℕ) → Used d g → from (to g) ≡ g
  pub forth : (h : ℕ) → Used e h → to (from h) ≡ h

-- "they differ only in group numbering and in groups that are dropped"
pub record SameDay (s : List ℕ) (k : Layout) (t : List ℕ) (l : Layout) : Type 0 where
  pub sides : (side : ℕ) → Renumbering (side_of s k side) (side_of t l side)
  pub kinds : (c : ℕ) → c < k.rows → kind_of s k c ≡ kind_of t l c
