-- What the parts of settling several counters together ask and promise, below `JoinsAs`.
--   Joins ..               the files are read, and the layout is that of the joined file
--   JoinLent ..            the same with buffers of just the needed lengths, on a day of the week
--   all_rows, kinds_of       how many rows the files have together, and the kind of each
--   Tallied kind ch z      z counts the kept rows among the first ones, and which of these are earned
--   JoinCounts ..          what counting asks: the files are read, and the choice has 0s and 1s for their rows
--   TallyOf ..             what it answers
--   MemberCount, CountedMember     the same for one file, from the tally's row on
use Rattle.std.specs.Prelude.{◌≡◌, List, ℕ, ◌+◌, ◌≤◌, ◌<◌, length, Ok}
use Rattle.theory.specs.Bounds.{max_rows}
use Rattle.theory.specs.Sum.{sum}
use Rattle.theory.specs.Incidence.{Selection, size}
use Rattle.theory.specs.Matroid.{row}
use Rattle.theory.specs.Priority.{kept}
use Rattle.claimfile.specs.declared.Layout.{Layout}
use Rattle.claimfile.specs.File.{first_terms, days, new_week}
use Rattle.claimfile.specs.Day.{kind_of}
use Rattle.reader.specs.Reading.{reading}
use Rattle.closing.specs.Close.{Lent}
use Rattle.counters.specs.Joined.{joined}
use Rattle.members.specs.Members.{layouts_of}
use Rattle.members.specs.Accepted.{AllRead}
use Rattle.jointables.specs.Filled.{layout_at, days_of}
use Rattle.joined.specs.declared.Tally.{Tally}
use Rattle.joined.specs.Call.{together, layout_for}

pub record Joins (day : ℕ) (b ls : List ℕ) (oven : ℕ) (l : Layout) : Type 0 where
  pub read : AllRead day b ls
  pub small : oven < 65536
  pub layout : l ≡ layout_for day b ls oven

pub record JoinLent (day : ℕ) (b ls : List ℕ) (oven : ℕ) (l : Layout) (ch sheet t : List ℕ) : Type 0 where
  pub joins : Joins day b ls oven l
  pub known : day < days
  pub lent : Lent first_terms (together day b ls oven) l ch sheet t

--------------------------------------------------------------------------------
-- Counting

abbrev pub all_rows : ℕ → List ℕ → List ℕ → ℕ
all_rows day b ls = sum (length ls) (λ k. (layouts_of day b ls k).rows)

-- the kinds of the joined day do not depend on the oven limit
abbrev pub kinds_of : ℕ → List ℕ → List ℕ → ℕ → ℕ
kinds_of day b ls = (joined (length ls) (days_of day b ls) 0).kind

pub record Tallied (kind : ℕ → ℕ) (ch : List ℕ) (z : Tally) : Type 0 where
  pub earned : z.earned ≡ kept z.row kind (row ch) 1
  pub kept : z.kept ≡ size z.row (row ch)
  pub part : z.earned ≤ z.kept
  pub few : z.kept ≤ z.row

pub record JoinCounts (day : ℕ) (b ls ch : List ℕ) : Type 0 where
  pub read : AllRead day b ls
  pub long : all_rows day b ls ≤ length ch
  pub bits : Selection (all_rows day b ls) (row ch)

pub record TallyOf (day : ℕ) (b ls ch : List ℕ) (z : Tally) : Type 0 where
  pub rows : z.row ≡ all_rows day b ls
  pub counts : Tallied (kinds_of day b ls) ch z

pub record MemberCount (day : ℕ) (s : List ℕ) (z : Tally) (ch : List ℕ) : Type 0 where
  pub accepted : reading (new_week day) s ≡ Ok (layout_at day s)
  pub long : z.row + (layout_at day s).rows ≤ length ch
  pub bits : (i : ℕ) → i < (layout_at day s).rows → row ch (z.row + i) ≤ 1
  pub within : z.row ≤ max_rows
  pub part : z.earned ≤ z.kept
  pub few : z.kept ≤ z.row

pub record CountedMember (day : ℕ) (s : List ℕ) (z : Tally) (ch : List ℕ) (r : Tally) : Type 0 where
  pub rows : r.row ≡ z.row + (layout_at day s).rows
  pub earned : r.earned ≡ z.earned + kept (layout_at day s).rows (kind_of s (layout_at day s)) (λ i. row ch (z.row + i)) 1
  pub kept : r.kept ≡ z.kept + size (layout_at day s).rows (λ i. row ch (z.row + i))
  pub part : r.earned ≤ r.kept
  pub few : r.kept ≤ r.row
