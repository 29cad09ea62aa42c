-- Any file in the old layout, accepted or refused, widened to the week layout (document 02, E9): "Old-layout files, new or
-- stored, go in by calls of their own .. and act as ones with the same limit on seven days." It is widened from the front by its
-- own counts, and nothing is judged, so a file with any fault has a widening. What is told of the one is told of the other
-- (`widened-reading`, proofs/WidenedLaws.antt). Of an accepted file the widening is its week file (`widened-week`).
--   seven_days parent limit the record of a group with the same limit on seven days
--   widen_record s at       the group record at a place of s in the old layout, as one of the week layout
--   widen_records n next s  the first n records of s widened, then `next` of what follows; what is no whole record is copied
--   widen_section next s    a count, so many records widened, then `next` of what follows; what is no whole count is copied
--   widened s              both group sections widened, and the rest copied
--   widened_by x            the reading x of a file, as that of its widening: with the week file's layout, or the same refusal
use Rattle.std.specs.Prelude.{List, ◌++◌, ℕ, zero, suc, false, length, drop, ltb, Ok, Err}
use Rattle.theory.specs.Sum.{pick}
use Rattle.claimfile.specs.File.{group_width, word, limit_at}
use Rattle.claimwriter.specs.Written.{WeekGroup, week_group, bytes_of, group_bytes}
use Rattle.claimwriter.specs.Week.{week_layout}
use Rattle.reader.specs.Reading.{Reading}

abbrev pub seven_days : ℕ → ℕ → WeekGroup
seven_days parent limit = week_group parent (λ k. limit)

abbrev pub widen_record : List ℕ → ℕ → WeekGroup
widen_record s at = seven_days (word s at) (limit_at s at 0)

unfoldable pub widen_records : ℕ → (List ℕ → List ℕ) → List ℕ → List ℕ
widen_records zero next s = next s
widen_records (suc n) next s =
    pick (ltb (length s) (group_width false))
    s
    (group_bytes (widen_record s 0) ++ widen_records n next (drop (group_width false) s))

unfoldable pub widen_section : (List ℕ → List ℕ) → List ℕ → List ℕ
widen_section next s = pick (ltb (length s) 2) s (bytes_of (word s 0) ++ widen_records (word s 0) next (drop 2 s))

unfoldable pub widened : List ℕ → List ℕ
widened s = widen_section (widen_section (λ r. r)) s

abbrev pub widened_by : Reading → Reading
widened_by (Ok l) = Ok (week_layout l)
widened_by (Err why) = Err why
