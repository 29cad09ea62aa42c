-- What is found of the files of several counters before any buffer is looked at (document 02, E13).
--   most_files              "up to eight counters"
--   length_of ls k          the length of file k in the list
--   part_at b at len        the part of a buffer with `len` bytes from `at` on
--   member_of b ls k        file k: "The files stand end to end in one buffer, beside a list of their lengths in 32 bits"
--   reading_of day b ls k   file k as it is read: "Each sends a new file, week layout, first terms"
--   layouts_of day b ls k   its layout, where it is accepted
--   lengths_fit total ls    whether there are one to eight files, whose lengths add up to that of the buffer. The sum is the true one, also
--                          where it has more than 32 bits
--   none                   the sizes of no file
--   more z l               how many groups and rows there are with one file more
--   Gathered               what is found of some files, by their readings: how many groups and rows they have, if all are accepted; else
--                          the lowest file at fault and its fault
--   and_then k g x          what is found of the files before k, and then of file k by its reading
--   gathered rd n          what is found of the first n files
--   too_large z             whether the joined file of files of these sizes would pass a bound. The oven is one shop group more
--   judged_by g             the judgement by what is found of all files
--   judged day b ls        the judgement of the files in a buffer
--   ovened z day           the layout of the joined file of files of these sizes
use Rattle.std.specs.Prelude.{Bool, true, false, List, ℕ, zero, suc, ◌+◌, ltb, eqb, length, get_or, take, drop, Ok, Err, Result}
use Rattle.theory.specs.Bounds.{max_groups, max_rows}
use Rattle.theory.specs.Sum.{pick, sum}
use Rattle.claimfile.specs.File.{new_week}
use Rattle.claimfile.specs.Day.{on_day}
use Rattle.claimfile.specs.declared.Layout.{Layout}
use Rattle.reader.specs.Reading.{reading, Reading}
use Rattle.reader.specs.declared.Refusal.{Refusal}
use Rattle.claimwriter.specs.Written.{layout_for, layout_in}
use Rattle.refusal.specs.declared.Reason.TheVariants.{Files, Large}
use Rattle.members.specs.declared.Sizes.{Sizes}
use Rattle.members.specs.declared.Fault.TheVariants.{Member, Whole}
use Rattle.members.specs.declared.Fault.{Fault}

abbrev pub most_files : ℕ
most_files = 8

abbrev pub length_of : List ℕ → ℕ → ℕ
length_of ls k = get_or ls k 0

abbrev pub part_at : List ℕ → ℕ → ℕ → List ℕ
part_at b at len = take len (drop at b)

abbrev pub member_of : List ℕ → List ℕ → ℕ → List ℕ
member_of b ls k = part_at b (sum k (length_of ls)) (length_of ls k)

abbrev pub reading_of : ℕ → List ℕ → List ℕ → ℕ → Reading
reading_of day b ls k = reading (new_week day) (member_of b ls k)

abbrev pub layouts_of : ℕ → List ℕ → List ℕ → ℕ → Layout
layouts_of day b ls k = layout_in (reading_of day b ls k)

-- refusal 16: "no file, more than eight, or lengths that do not add up to the buffer's"
unfoldable pub lengths_fit : ℕ → List ℕ → Bool
lengths_fit total ls =
    pick (eqb (length ls) 0) false (pick (ltb most_files (length ls)) false (eqb (sum (length ls) (length_of ls)) total))

abbrev pub none : Sizes
none = record { cards = 0; shops = 0; rows = 0 }

abbrev pub more : Sizes → Layout → Sizes
more z l = record { cards = z.cards + l.cards; shops = z.shops + l.shops; rows = z.rows + l.rows }

pub data Gathered : Type 0 where
  AllOf : Sizes → Gathered
  Faulty : ℕ → Refusal → Gathered

-- "A member file at fault gives its own number, lowest file first, with that file's place from 0"
abbrev pub and_then : ℕ → Gathered → Reading → Gathered
and_then k (AllOf z) (Ok l) = AllOf (more z l)
and_then k (AllOf z) (Err why) = Faulty k why
and_then k (Faulty j why) x = Faulty j why

unfoldable pub gathered : (ℕ → Reading) → ℕ → Gathered
gathered rd zero = AllOf none
gathered rd (suc n) = and_then n (gathered rd n) (rd n)

-- refusal 17: "the joined file would pass 256 groups on a side or 512 claims"
abbrev pub too_large : Sizes → Bool
too_large z = pick (ltb max_groups z.cards) true (pick (ltb max_groups (1 + z.shops)) true (ltb max_rows z.rows))

-- 17 is "judged once every file has been read"
abbrev pub judged_by : Gathered → Result Sizes Fault
judged_by (AllOf z) = pick (too_large z) (Err (Whole Large)) (Ok z)
judged_by (Faulty k why) = Err (Member k why)

-- 16 is "judged first"
unfoldable pub judged : ℕ → List ℕ → List ℕ → Result Sizes Fault
judged day b ls =
    pick (lengths_fit (length b) ls) (judged_by (gathered (reading_of day b ls) (length ls))) (Err (Whole Files))

abbrev pub ovened : Sizes → ℕ → Layout
ovened z day = on_day (layout_for z.cards (1 + z.shops) z.rows) day
