-- What any list of bytes is, accepted or refused (document 01, "Turned-away files").
--   Checked                what a check answers: no fault, or the first one
--   Reading                what a file is read as: its layout, or the first fault met
--   read_section count start next    a section that was read, with its fields
--   or_else x y             the first fault of two checks
--   parent_fits own parent  whether a group with its own number may have that parent
--   parent_fault own group  the fault of a group's parent
--   none_above s own parent n   whether none of the n limits of the record at `own` is above that of the record at `parent`
--   limits_fault f s own parent     the fault of a record's limits by its parent's record: none is judged in a stored file
--   group_fault f s start own   the first fault of the fields of group `own` of the section whose records start there
--   claim_fault K claim cards shops     the first fault of a claim's fields, where there are K kinds
--   records_from size start width fault k left   the first fault of the records that are left from record k on, where the first
--                          record starts at `start` of `size` bytes, each has `width` of them, and `fault` is that of its fields
--   groups_from, rows_from   the same for group records and for claim records
--   count_fault s at most over  the first fault of a count: it is not whole, or it is over the most, which is the refusal `over`
--   section_of checked count start width     a section by the check of its count and its records
--   section_by s at most over width checked  the section whose count stands at a place, by the check of its records
--   section_at, claims_at    the group section and the claims section whose count stands at a place
--   after_cards, after_shops, after_claims     the reading of a file, by the section that was read last
--   reading_in K f s        the file with K kinds: accepted with its layout, or refused by the first fault met
--   reading f s            the same under the first terms
--   reading_kinds d s       the same under the second terms: a new file in the week layout, for day d
-- "The file is read from the front and the first fault met is the one told. A count is judged before its records, a record must
-- be whole before its fields are judged, and fields are judged in order (card group, shop group, kind)."
-- Document 02, E4: "11, a group's limit is above its parent's, judged on the same record after 3, and not by the calls for stored
-- files." E9: "A group record becomes 16 bytes: parent, then seven limits of 16 bits, for days 0 to 6. .. Old-layout files .. act as ones with
-- the same limit on seven days. The parent test and the lowering of E4 hold for each of the seven."
use Rattle.std.specs.Prelude.{ℕ, zero, suc, ◌+◌, ◌*◌, List, Bool, true, length, drop, ltb, leb, eqb, Ok, Result, Ok, Err}
use Rattle.theory.specs.Bounds.{max_groups, max_rows}
use Rattle.theory.specs.Sum.{pick, every}
use Rattle.claimfile.specs.declared.Form.{Form}
use Rattle.reader.specs.declared.Refusal.{Refusal}
use Rattle.reader.specs.declared.Refusal.TheVariants.{CutOff, GroupCount, Parent, ClaimCount, NoSuchGroup}
use Rattle.reader.specs.declared.Refusal.TheVariants.{Kind, Trailing, LimitAbove}
use Rattle.reader.specs.declared.Section.{Section}
use Rattle.claimfile.specs.declared.Claim.{Claim}
use Rattle.claimfile.specs.declared.Layout.{Layout}
use Rattle.claimfile.specs.File.{new_week, first_terms, second_terms, top, columns, group_width, claim_width, word, limit_at, record_at, claim_at}

abbrev pub Checked : Type 0
Checked = Result (Unit {0}) Refusal

abbrev pub Reading : Type 0
Reading = Result Layout Refusal

abbrev pub read_section : ℕ → ℕ → ℕ → Section
read_section count start next = record { count = count; start = start; next = next }

--------------------------------------------------------------------------------
-- The records of a section

abbrev pub or_else : Checked → Checked → Checked
or_else (Ok _) next = next
or_else (Err why) next = Err why

-- "A parent is a smaller group number of that section, or 65535 for a group at the top."
abbrev pub parent_fits : ℕ → ℕ → Bool
parent_fits own parent = pick (ltb parent own) true (eqb parent top)

-- refusal 3
abbrev pub parent_fault : ℕ → ℕ → Checked
parent_fault own parent = pick (parent_fits own parent) (Ok tt) (Err Parent)

-- refusal 11, on any day
unfoldable pub none_above : List ℕ → ℕ → ℕ → ℕ → Bool
none_above s own parent n = every n (λ k. leb (limit_at s own k) (limit_at s parent k))

abbrev pub limits_fault : Form → List ℕ → ℕ → ℕ → Checked
limits_fault f s own parent =
    pick f.stored (Ok tt) (pick (none_above s own parent (columns f.week)) (Ok tt) (Err LimitAbove))

-- 3, then 11 on the same record; a group at the top has no parent whose limits could be passed
unfoldable pub group_fault : Form → List ℕ → ℕ → ℕ → Checked
group_fault f s start own =
    let at : ℕ → ℕ = record_at f.week start in
    let parent = word s (at own) in
    or_else (parent_fault own parent) (pick (ltb parent own) (limits_fault f s (at own) (at parent)) (Ok tt))

-- refusals 5 and 6: the fields of one claim in order. Refusal 6 is "a kind is neither 0 nor 1" where there are two kinds, and "a kind
-- over 3" where there are four
unfoldable pub claim_fault : ℕ → Claim → ℕ → ℕ → Checked
claim_fault K claim cards shops =
    pick (leb cards claim.card)
    (Err NoSuchGroup)
    (pick (leb shops claim.shop) (Err NoSuchGroup) (pick (leb K claim.kind) (Err Kind) (Ok tt)))

-- refusal 1 of the next record, then its fields, then the records behind it
unfoldable pub records_from : ℕ → ℕ → ℕ → (ℕ → Checked) → ℕ → ℕ → Checked
records_from size start width fault k zero = Ok tt
records_from size start width fault k (suc left) =
    pick (ltb size (start + width * k + width))
    (Err CutOff)
    (or_else (fault k) (records_from size start width fault (suc k) left))

abbrev pub groups_from : Form → List ℕ → ℕ → ℕ → ℕ → Checked
groups_from f s start = records_from (length s) start (group_width f.week) (group_fault f s start)

abbrev pub rows_from : ℕ → List ℕ → ℕ → ℕ → ℕ → ℕ → Checked
rows_from K r cards shops = records_from (length r) 0 claim_width (λ c. claim_fault K (claim_at r c) cards shops)

--------------------------------------------------------------------------------
-- The sections

-- refusal 1 of a count, then its own refusal: 2 or 4
unfoldable pub count_fault : List ℕ → ℕ → ℕ → Refusal → Checked
count_fault s at most over =
    pick (ltb (length s) (at + 2)) (Err CutOff) (pick (ltb most (word s at)) (Err over) (Ok tt))

abbrev pub section_of : Checked → ℕ → ℕ → ℕ → Result Section Refusal
section_of (Ok _) count start width = Ok (read_section count start (start + width * count))
section_of (Err why) count start width = Err why

abbrev pub section_by : List ℕ → ℕ → ℕ → Refusal → ℕ → Checked → Result Section Refusal
section_by s at most over width checked = section_of (or_else (count_fault s at most over) checked) (word s at) (at + 2) width

-- one definition for cards and for shops
unfoldable pub section_at : Form → List ℕ → ℕ → Result Section Refusal
section_at f s at = section_by s at max_groups GroupCount (group_width f.week) (groups_from f s (at + 2) 0 (word s at))

-- the records are "the part of the file that starts at its first record"
unfoldable pub claims_at : ℕ → List ℕ → ℕ → ℕ → ℕ → Result Section Refusal
claims_at K s at cards shops =
    section_by s at max_rows ClaimCount claim_width (rows_from K (drop (at + 2) s) cards shops 0 (word s at))

--------------------------------------------------------------------------------
-- The file

-- refusal 7, once every claim is read
abbrev pub after_claims : Form → List ℕ → ℕ → ℕ → ℕ → ℕ → Result Section Refusal → Reading
after_claims f s cards shops card_at shop_at (Ok read) =
    pick (ltb read.next (length s))
    (Err Trailing)
    (Ok
    (record {
      week = f.week;
      day = f.day;
      cards = cards;
      shops = shops;
      rows = read.count;
      card_at = card_at;
      shop_at = shop_at;
      row_at = read.start;
    }))
after_claims f s cards shops card_at shop_at (Err why) = Err why

abbrev pub after_shops : ℕ → Form → List ℕ → ℕ → ℕ → Result Section Refusal → Reading
after_shops K f s cards card_at (Ok read) =
    after_claims f s cards read.count card_at read.start (claims_at K s read.next cards read.count)
after_shops K f s cards card_at (Err why) = Err why

abbrev pub after_cards : ℕ → Form → List ℕ → Result Section Refusal → Reading
after_cards K f s (Ok read) = after_shops K f s read.count read.start (section_at f s read.next)
after_cards K f s (Err why) = Err why

unfoldable pub reading_in : ℕ → Form → List ℕ → Reading
reading_in K f s = after_cards K f s (section_at f s 0)

abbrev pub reading : Form → List ℕ → Reading
reading f s = reading_in first_terms f s

-- "four kinds, 0 to 3, in new files of the week layout only"
abbrev pub reading_kinds : ℕ → List ℕ → Reading
reading_kinds d s = reading_in second_terms (new_week d) s
