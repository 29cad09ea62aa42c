-- The group sections of a file by their side, for document 02, E6: "the same bytes, read as a card section or as a shop section by calls of
-- one sort, give the same groups and end, or the same number" (`sides-same`, `sides-own`, proofs/SectionLaws.antt).
--   behind x               the place behind a section that was read
--   place_on f s side       where the count of a side's section stands: the card section, side 0, at the front, the shop section, side 1,
--                          behind it; of side 2 it is the place behind both
--   section_on f s side     the group section of a side, as the calls for files of the form f read it
--   from_count at x         a section whose count stands at `at`, with its places counted from there
--   OwnBytes s a t b n     n bytes of s from a on are those of t from b on
--   with_rows l n           the layout l with n claims in the place of its own
use Rattle.std.specs.Prelude.{ℕ, zero, suc, ◌+◌, ◌-◌, ◌<◌, ◌≡◌, List, get_or, Result, Ok, Err}
use Rattle.reader.specs.Reading.{read_section, section_at}
use Rattle.claimfile.specs.declared.Form.{Form}
use Rattle.claimfile.specs.declared.Layout.{Layout}
use Rattle.reader.specs.declared.Refusal.{Refusal}
use Rattle.reader.specs.declared.Section.{Section}

abbrev pub behind : Result Section Refusal → ℕ
behind (Ok read) = read.next
behind (Err why) = 0

abbrev pub place_on : Form → List ℕ → ℕ → ℕ
place_on f s zero = 0
place_on f s (suc side) = behind (section_at f s (place_on f s side))

abbrev pub section_on : Form → List ℕ → ℕ → Result Section Refusal
section_on f s side = section_at f s (place_on f s side)

abbrev pub from_count : ℕ → Result Section Refusal → Result Section Refusal
from_count at (Ok read) = Ok (read_section read.count (read.start - at) (read.next - at))
from_count at (Err why) = Err why

abbrev pub OwnBytes : List ℕ → ℕ → List ℕ → ℕ → ℕ → Type 0
OwnBytes s a t b n = (i : ℕ) → i < n → get_or s (a + i) 0 ≡ get_or t (b + i) 0

abbrev pub with_rows : Layout → ℕ → Layout
with_rows l n = record {
  week = l.week;
  day = l.day;
  cards = l.cards;
  shops = l.shops;
  rows = n;
  card_at = l.card_at;
  shop_at = l.shop_at;
  row_at = l.row_at;
}
