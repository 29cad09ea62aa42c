-- What settling under the second terms answers and leaves, for every file and whatever the lent memory held (document 02, E12). A day
-- is an instance i, as in closing (specs/Settle.antt). Only `SettlesKinds` and `told_kinds_for` speak of the file's reading.
--   count_of a k            the kept count of kind k in the answer a
--   told_with n count all sum   a number with these counts and this total
--   settled_kinds_numbers r  document 01's number and the values for each case of the answer r, as C takes them; the number is 0 where
--                          the file is closed
--   told_kinds_on i d ch sheet t what is told of a day with these buffers, where the call names day d: 8, then 12, else the counts and the
--                          weight of its best choice
--   told_kinds_for s x ch sheet t    what is told of a file s with the reading x
--   SettlesKindsOn i d ..  what settling a day answers and leaves: refused for short buffers or for a day that the week does not have,
--                          or closed
--   SettlesKinds d s ..    the whole contract, for a new file s in the week layout and the day d: refused by its first fault, or what
--                          settling its day answers and leaves
-- "Most claims of kind 3 are kept; with that number, most of kind 2, then of kind 1, then of kind 0 ..; equal choices go by row order.
-- Kind k weighs N + 1 to the power k. Sheet and scratch hold as many numbers ..; a mark is at most N + 1 to the power 3. .. The answer
-- has the kept count of each kind and in all, and the sheet's total."
use Rattle.std.specs.Prelude.{◌≡◌, List, ℕ, zero, suc, ◌≤◌, ◌<◌, leb, Ok, Err, Result}
use Rattle.theory.specs.Sum.{pick}
use Rattle.theory.specs.Incidence.{size, worth}
use Rattle.theory.specs.Network.{Instance}
use Rattle.theory.specs.Priority.{kept, weight_of}
use Rattle.claimfile.specs.declared.Layout.{Layout}
use Rattle.reader.specs.declared.Refusal.{Refusal}
use Rattle.claimfile.specs.File.{second_terms, days}
use Rattle.reader.specs.Reading.{reading_kinds, Reading}
use Rattle.claimfile.specs.Day.{instance_of}
use Rattle.refusal.specs.declared.Reason.TheVariants.{File, Short, Day}
use Rattle.refusal.specs.Table as table
use Rattle.answers.specs.declared.SettleKindsAnswer.{SettleKindsAnswer}
use Rattle.kinds.specs.declared.KindTotals.{KindTotals}
use Rattle.closing.specs.Settle.{Enough, Lacks, lacks, best_row_in, Untouched}
use Rattle.closing.specs.ClosesIn.{ClosesIn}
use Rattle.refusal.specs.declared.Reason.{Reason}

abbrev pub count_of : KindTotals → ℕ → ℕ
count_of a zero = a.kind0
count_of a (suc zero) = a.kind1
count_of a (suc (suc zero)) = a.kind2
count_of a (suc (suc (suc k))) = a.kind3

abbrev pub told_with : ℕ → (ℕ → ℕ) → ℕ → ℕ → SettleKindsAnswer
told_with n count all sum =
    record { refusal = n; kind0 = count 0; kind1 = count 1; kind2 = count 2; kind3 = count 3; kept = all; total = sum }

abbrev pub settled_kinds_numbers : Result KindTotals Reason → SettleKindsAnswer
settled_kinds_numbers (Ok a) = told_with 0 (count_of a) a.kept a.total
settled_kinds_numbers (Err why) = told_with (table.number_of why) (λ k. 0) 0 0

unfoldable pub told_kinds_on : Instance → ℕ → List ℕ → List ℕ → List ℕ → SettleKindsAnswer
told_kinds_on i d ch sheet t =
    pick (lacks i.net ch sheet t)
    (settled_kinds_numbers (Err Short))
    (pick (leb days d)
    (settled_kinds_numbers (Err Day))
    (told_with 0 (kept i.net.rows i.kind (best_row_in second_terms i)) (size i.net.rows (best_row_in second_terms i))
    (worth i.net.rows (weight_of i.net.rows i.kind) (best_row_in second_terms i))))

-- the file's own faults come first
abbrev pub told_kinds_for : List ℕ → Reading → List ℕ → List ℕ → List ℕ → SettleKindsAnswer
told_kinds_for s (Err why) ch sheet t = settled_kinds_numbers (Err (File why))
told_kinds_for s (Ok l) ch sheet t = told_kinds_on (instance_of s l) l.day ch sheet t

pub record SettlesKindsOn (i : Instance) (d : ℕ) (ch sheet t ch' sheet' t' : List ℕ) (r : Result KindTotals Reason) : Type 0 where
  pub short : Lacks i.net ch sheet t → (r ≡ Err Short) × Untouched ch sheet t ch' sheet' t'
  pub dayless : Enough i.net ch sheet t → days ≤ d → (r ≡ Err Day) × Untouched ch sheet t ch' sheet' t'
  pub closed :
      Enough i.net ch sheet t → d < days →
      (a : KindTotals) × (r ≡ Ok a) × ClosesIn second_terms i ch sheet t ch' sheet' t' (count_of a) a.kept a.total
  pub told : settled_kinds_numbers r ≡ told_kinds_on i d ch sheet t

pub record SettlesKinds (d : ℕ) (s ch sheet t ch' sheet' t' : List ℕ) (r : Result KindTotals Reason) : Type 0 where
  pub refused :
      (why : Refusal) → reading_kinds d s ≡ Err why →
      (r ≡ Err (File why)) × Untouched ch sheet t ch' sheet' t'
  pub settled :
      (l : Layout) → reading_kinds d s ≡ Ok l →
      SettlesKindsOn (instance_of s l) l.day ch sheet t ch' sheet' t' r
  pub told : settled_kinds_numbers r ≡ told_kinds_for s (reading_kinds d s) ch sheet t
