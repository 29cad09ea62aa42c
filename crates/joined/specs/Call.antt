-- What settling the files of several counters together answers and leaves (document 02, E13).
--   together day b ls oven     the joined file of the files in a buffer b, with the list ls of their lengths
--   layout_for day b ls oven    how it is laid out, for the day
--   joint_of q              the answer, by that of settling the joined file
--   joined_numbers r        document 01's number for each case of the answer r, as C takes them, with the place of the file at fault, or the
--                          counts and the total; where no file is at fault the place is 0
--   as_joined n             the numbers of settling one file, as this call tells them
--   told_for day x s ch sheet t     what is told of files by what is judged of them, where s is their joined file
--   JoinsAs ..             the whole contract: refused with 16, by the lowest file at fault, or with 17; else "Result, buffers and day are those of
--                          settling one joined file" by the call for stored files in the week layout, which tells 8 and 12 too
use Rattle.std.specs.Prelude.{◌≡◌, List, ℕ, ◌<◌, length, Ok, Err, Result}
use Rattle.claimfile.specs.declared.Layout.{Layout}
use Rattle.claimfile.specs.File.{stored_week}
use Rattle.reader.specs.declared.Refusal.{Refusal}
use Rattle.reader.specs.Reading.{reading}
use Rattle.refusal.specs.declared.Reason.{Reason}
use Rattle.refusal.specs.declared.Reason.TheVariants.{File}
use Rattle.refusal.specs.Table.{number_of}
use Rattle.answers.specs.declared.SettleAnswer.{SettleAnswer}
use Rattle.answers.specs.declared.SettleJoinedAnswer.{SettleJoinedAnswer}
use Rattle.closing.specs.Settle.{Untouched, Settles}
use Rattle.closing.specs.Settle as settle
use Rattle.members.specs.declared.Sizes.{Sizes}
use Rattle.members.specs.Members.{most_files, member_of, layouts_of, judged}
use Rattle.joinfile.specs.Files.{contents_of, joined_file, joined_layout}
use Rattle.members.specs.declared.Fault.TheVariants.{Member, Whole}
use Rattle.members.specs.declared.Fault.{Fault}
use Rattle.closing.specs.declared.Totals.{Totals}

abbrev pub together : ℕ → List ℕ → List ℕ → ℕ → List ℕ
together day b ls oven = joined_file (length ls) (contents_of (member_of b ls) (layouts_of day b ls)) oven

abbrev pub layout_for : ℕ → List ℕ → List ℕ → ℕ → Layout
layout_for day b ls oven = joined_layout (length ls) (contents_of (member_of b ls) (layouts_of day b ls)) oven day

abbrev pub joint_of : Result Totals Reason → Result Totals Fault
joint_of (Ok a) = Ok a
joint_of (Err why) = Err (Whole why)

abbrev pub joined_numbers : Result Totals Fault → SettleJoinedAnswer
joined_numbers (Ok a) = record { refusal = 0; file = 0; earned = a.earned; kept = a.kept; total = a.total }
-- "A member file at fault gives its own number, .. with that file's place from 0"
joined_numbers (Err (Member k why)) = record { refusal = number_of (File why); file = k; earned = 0; kept = 0; total = 0 }
joined_numbers (Err (Whole why)) = record { refusal = number_of why; file = 0; earned = 0; kept = 0; total = 0 }

abbrev pub as_joined : SettleAnswer → SettleJoinedAnswer
as_joined n = record { refusal = n.refusal; file = 0; earned = n.earned; kept = n.kept; total = n.total }

abbrev pub told_for : ℕ → Result Sizes Fault → List ℕ → List ℕ → List ℕ → List ℕ → SettleJoinedAnswer
told_for day (Err (Member k why)) s ch sheet t = joined_numbers (Err (Member k why))
told_for day (Err (Whole why)) s ch sheet t = joined_numbers (Err (Whole why))
told_for day (Ok z) s ch sheet t = as_joined (settle.told_for s (reading (stored_week day) s) ch sheet t)

pub record JoinsAs (day : ℕ) (b ls : List ℕ) (oven : ℕ) (ch sheet t ch' sheet' t' : List ℕ) (r : Result Totals Fault) : Type 0 where
  pub member :
      (k : ℕ) (why : Refusal) → judged day b ls ≡ Err (Member k why) → (r ≡ Err (Member k why)) × Untouched ch sheet t ch' sheet' t'
  pub refused :
      (why : Reason) → judged day b ls ≡ Err (Whole why) → (r ≡ Err (Whole why)) × Untouched ch sheet t ch' sheet' t'
  pub settled :
      (z : Sizes) → judged day b ls ≡ Ok z →
      (q : Result Totals Reason) × (r ≡ joint_of q) × Settles (stored_week day) (together day b ls oven) ch sheet t ch' sheet' t' q
  pub told : joined_numbers r ≡ told_for day (judged day b ls) (together day b ls oven) ch sheet t
  pub place : (joined_numbers r).file < most_files
