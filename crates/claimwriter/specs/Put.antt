-- What the functions that write a claim file, in the week layout, ask of a lent buffer, and what they leave in it.
--   Holds t at new         the bytes `new` stand in t from the place `at` on
--   Put s t at new         t is s but for the bytes `new` from the place `at` on
--   count_place l side, group_place l side g     where the count of a side and the record of a group stand
--   row_count_place l, claim_place l c            where the count of the claims and the record of a claim stand
--   Laid l                 the layout is the one for its counts, and these are within bounds
--   Room l out             so it is, and the buffer is at least as long as a file with this layout
--   CountsPut l s t        t is s but for the three counts, put at their places one after the other
--   Begun d G C s t        a part of the file of d is written: t has its counts, the record of each group of which G holds and that
--                          of each claim of which C holds; behind the file t is s
-- A writer puts the counts first and then the records, in any order. Its invariant is Begun, where G and C say which records were
-- put (proofs/BegunLaws.antt has a law for each step); once all are, t starts with the file (`written-cells`).
use Rattle.std.specs.Prelude.{ℕ, ◌+◌, ◌*◌, ◌-◌, ◌<◌, ◌≤◌, true, ◌≡◌, ◌⊎◌, List, length, get_or, drop}
use Rattle.theory.specs.Bounds.{max_groups, max_rows}
use Rattle.claimfile.specs.declared.Layout.{Layout}
use Rattle.claimfile.specs.File.{group_width, claim_width}
use Rattle.claimfile.specs.Day.{start_of}
use Rattle.claimwriter.specs.Written.{Contents, records_on, bytes_of, group_bytes, claim_bytes, length_for, layout_of, length_of}

abbrev pub Holds : List ℕ → ℕ → List ℕ → Type 0
Holds t at new = (j : ℕ) → j < length new → get_or t (at + j) 0 ≡ get_or new j 0

pub record Put (s t : List ℕ) (at : ℕ) (new : List ℕ) : Type 0 where
  pub long : length t ≡ length s
  pub cells : Holds t at new
  pub rest : (i : ℕ) → (i < at) ⊎ (at + length new ≤ i) → get_or t i 0 ≡ get_or s i 0

-- a section's count stands before its first record
abbrev pub count_place : Layout → ℕ → ℕ
count_place l side = start_of l side - 2

abbrev pub row_count_place : Layout → ℕ
row_count_place l = l.row_at - 2

abbrev pub group_place : Layout → ℕ → ℕ → ℕ
group_place l side g = start_of l side + group_width true * g

abbrev pub claim_place : Layout → ℕ → ℕ
claim_place l c = l.row_at + claim_width * c

pub record Laid (l : Layout) : Type 0 where
  pub week : l.week ≡ true
  pub card_place : l.card_at ≡ 2
  pub shop_place : l.shop_at ≡ 4 + group_width true * l.cards
  pub row_place : l.row_at ≡ 6 + group_width true * (l.cards + l.shops)
  pub cards_most : l.cards ≤ max_groups
  pub shops_most : l.shops ≤ max_groups
  pub rows_most : l.rows ≤ max_rows

pub record Room (l : Layout) (out : List ℕ) : Type 0 where
  pub laid : Laid l
  pub long : length_for l.cards l.shops l.rows ≤ length out

pub record CountsPut (l : Layout) (s t : List ℕ) : Type 0 where
  pub one : List ℕ
  pub two : List ℕ
  pub cards : Put s one (count_place l 0) (bytes_of l.cards)
  pub shops : Put one two (count_place l 1) (bytes_of l.shops)
  pub rows : Put two t (row_count_place l) (bytes_of l.rows)

pub record Begun (d : Contents) (G : ℕ → ℕ → Type 0) (C : ℕ → Type 0) (s t : List ℕ) : Type 0 where
  pub long : length t ≡ length s
  pub counts : (side : ℕ) → Holds t (count_place (layout_of d) side) (bytes_of (records_on d side))
  pub row_count : Holds t (row_count_place (layout_of d)) (bytes_of d.rows)
  pub groups :
      (side g : ℕ) → g < records_on d side → G side g →
      Holds t (group_place (layout_of d) side g) (group_bytes (d.group side g))
  pub claims : (c : ℕ) → c < d.rows → C c → Holds t (claim_place (layout_of d) c) (claim_bytes (d.claim c))
  pub rest : drop (length_of d) t ≡ drop (length_of d) s
