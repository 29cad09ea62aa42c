-- The claim file of document 01, "The claim file": its sorts, and where the fields of its records stand.
--   form_of w s d           how a call takes its file for day d: in the week layout or in the old one (w), stored before limits were
--                          judged or new (s)
--   new_week d, stored_week d, new_old d, stored_old d     the four sorts of files by name
--   as_stored f, for_day f d the same layout and day, as a stored file; the same sort of file for day d
--   top                    the parent of a group at the top, which is the greatest number of 16 bits
--   days                   how many days a week has, numbered from 0
--   columns week           how many limits a group record has: one a day in the week layout, one for all days in the old one
--   column_of week day      which of them is that of a day; of a day that the week does not have, which the calls turn away, that of the last
--   group_width week        how many bytes a group record has
--   claim_width             how many bytes a claim record has
--   word s at              the 16-bit number at a place, low byte first; a byte past the end is 0
--   limit_at s at k         limit k of the group record at a place
--   record_at week start g  where the group record g stands, in a section whose records start at `start`
--   group_at week k s start g   that record: parent, and its limit in column k
--   claim_at r c            the claim record c of a claims section r, given from its first record on: card group, shop group, kind
--   first_terms, second_terms    how many kinds the claims have under the first terms and under the second
-- Document 02, E9: "A group record becomes 16 bytes: parent, then seven limits of 16 bits, for days 0 to 6. .. Old-layout files .. act as ones with
-- the same limit on seven days."
use Rattle.std.specs.Prelude.{ℕ, ◌+◌, ◌*◌, min, List, Bool, true, false, get_or}
use Rattle.theory.specs.Bounds.{max_limit}
use Rattle.theory.specs.Sum.{pick}
use Rattle.claimfile.specs.declared.Form.{Form}
use Rattle.claimfile.specs.declared.Group.{Group}
use Rattle.claimfile.specs.declared.Claim.{Claim}

abbrev pub form_of : Bool → Bool → ℕ → Form
form_of w s d = record { week = w; stored = s; day = d }

abbrev pub new_week : ℕ → Form
new_week d = form_of true false d

abbrev pub stored_week : ℕ → Form
stored_week d = form_of true true d

abbrev pub new_old : ℕ → Form
new_old d = form_of false false d

abbrev pub stored_old : ℕ → Form
stored_old d = form_of false true d

abbrev pub as_stored : Form → Form
as_stored f = form_of f.week true f.day

abbrev pub for_day : Form → ℕ → Form
for_day f d = form_of f.week f.stored d

-- "Kind 0 is ordinary, 1 is earned."
abbrev pub first_terms : ℕ
first_terms = 2

-- Document 02, E12: "Bakeries that sign the new terms have four kinds, 0 to 3"
abbrev pub second_terms : ℕ
second_terms = 4

abbrev pub top : ℕ
top = max_limit

abbrev pub days : ℕ
days = 7

abbrev pub columns : Bool → ℕ
columns week = pick week days 1

abbrev pub column_of : Bool → ℕ → ℕ
column_of week day = pick week (min day 6) 0

-- parent and limits, of two bytes each
abbrev pub group_width : Bool → ℕ
group_width week = pick week 16 4

abbrev pub claim_width : ℕ
claim_width = 5

abbrev pub word : List ℕ → ℕ → ℕ
word s at = get_or s at 0 + 256 * get_or s (at + 1) 0

abbrev pub limit_at : List ℕ → ℕ → ℕ → ℕ
limit_at s at k = word s (at + 2 + 2 * k)

abbrev pub record_at : Bool → ℕ → ℕ → ℕ
record_at week start g = start + group_width week * g

abbrev pub group_at : Bool → ℕ → List ℕ → ℕ → ℕ → Group
group_at week k s start g = record { parent = word s (record_at week start g); limit = limit_at s (record_at week start g) k }

abbrev pub claim_at : List ℕ → ℕ → Claim
claim_at r c = record {
  card = word r (claim_width * c);
  shop = word r (claim_width * c + 2);
  kind = get_or r (claim_width * c + 4) 0;
}
