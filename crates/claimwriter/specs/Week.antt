-- An accepted file in the week layout (document 02, E9): "Old-layout files .. act as ones with the same limit on seven days." Of such a file
-- each limit is written seven times.
--   week_form f             how a call takes the file there, new or stored as before, for the same day
--   contents_in s l         what an accepted file holds: its records, with the limit of each day
--   as_week s l             the file in the week layout
--   week_layout l           how it is laid out there
--   week_by s x             the file in the week layout, of a file s with the reading x; no bytes where it is refused
use Rattle.std.specs.Prelude.{true, List, [], ℕ, Ok, Err}
use Rattle.claimfile.specs.declared.Form.{Form}
use Rattle.claimfile.specs.declared.Layout.{Layout}
use Rattle.claimfile.specs.Day.{group_of, claim_of, on_day}
use Rattle.claimwriter.specs.Written.{week_group, Contents, file_bytes, layout_for}
use Rattle.reader.specs.Reading.{Reading}

abbrev pub week_form : Form → Form
week_form f = record { week = true; stored = f.stored; day = f.day }

abbrev pub contents_in : List ℕ → Layout → Contents
contents_in s l = record {
  cards = l.cards;
  shops = l.shops;
  rows = l.rows;
  group = λ side g. week_group (group_of s l side g).parent (λ k. (group_of s (on_day l k) side g).limit);
  claim = claim_of s l;
}

unfoldable pub as_week : List ℕ → Layout → List ℕ
as_week s l = file_bytes (contents_in s l)

abbrev pub week_layout : Layout → Layout
week_layout l = on_day (layout_for l.cards l.shops l.rows) l.day

abbrev pub week_by : List ℕ → Reading → List ℕ
week_by s (Ok l) = as_week s l
week_by s (Err why) = []
