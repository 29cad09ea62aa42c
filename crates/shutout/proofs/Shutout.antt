-- Versions of settle that document 01 shuts out ("What the contracts must nail", 2), each by what settle promises of a closed day (`Closes`)
-- and by the table of worked days, whatever the program is.
--   AsStated d n ch a      the choice and the counts of a day with n rows are those that the table states
--   as-stated              they are, wherever a day of the table is closed
--   On day A:
--   kept-a                 rows 0 and 1 are kept, and row 2 is not: keeping nothing is shut out
--   not-untouched          a choice that did not hold row 0 is changed: leaving the choice buffer untouched is shut out
--   counts-a               one kept row is earned and two are kept: counts that the choice does not hold are shut out
--   total_a                the total is 5
--   sheet-behind           the marks are not all 0: a total without a sheet behind it is shut out
--   past-the-rows          a byte past the rows is as it was
--   On day A with all rows ordinary:
--   given-up               row 0 is not kept, and rows 1 and 2 are: keeping rows by first come is shut out
use mathlib.Core.Path.{◌≡◌, sym, ap, ◌∙◌}
use mathlib.Core.List.{List, []}
use Prim.Native.Nat.{ℕ, ◌+◌, ◌*◌, ◌≤◌, ◌<◌}
use native.Mathlib.Omega.{arith}
use lib.ListN.{get_or}
use Rattle.theory.specs.Sum.{every}
use Rattle.theory.specs.Matroid.{row}
use Rattle.theory.specs.Network.{Instance}
use Rattle.theory.proofs.SumLaws.{sum-cong, sum-zero}
use Rattle.claimfile.specs.declared.Layout.{Layout}
use Rattle.reader.specs.declared.Refusal.TheVariants.{CutOff}
use Rattle.claimfile.specs.File.{new_old}
use Rattle.reader.specs.Reading.{none_above, group_fault, claim_fault, records_from, count_fault, section_at, claims_at, Reading}
use Rattle.reader.specs.Reading.{reading_in, reading}
use Rattle.claimfile.specs.Day.{instance_of}
use Rattle.reader.proofs.AcceptedLaws.{accepted-sound, accepted-kinds}
use Rattle.closing.specs.declared.Totals.{Totals}
use Rattle.closing.specs.Settle.{needed, mark_of, claim_mark_of, Closes}
use Rattle.closing.proofs.SettleLaws.{day-formed}
use Rattle.closing.proofs.AnswerLaws.{best-earned, best-rows}
use Rattle.closing.proofs.Demand.{total-counts}
use Rattle.days.specs.Days.{Day, day_of}
use Rattle.days.specs.Worked.{Outcome, settled, after_reading, worked, stated}
use Rattle.days.specs.Worked.Outcome.{refused, closed}
use Rattle.days.proofs.DaysLaws.{days-hold}
use Rattle.std.specs.Prelude.{Ok, Err}

pub record AsStated (d : Day) (n : ℕ) (ch : List ℕ) (a : Totals) : Type 0 where
  pub choice : (c : ℕ) → c < n → row ch c ≡ row d.settle.choice c
  pub earned : a.earned ≡ d.settle.earned
  pub kept : a.kept ≡ d.settle.kept

abbrev choice_in : Outcome → List ℕ
choice_in (refused why) = []
choice_in (closed c ok qs) = c.choice

abbrev earned_in : Outcome → ℕ
earned_in (refused why) = 0
earned_in (closed c ok qs) = c.earned

abbrev kept_in : Outcome → ℕ
kept_in (refused why) = 0
kept_in (closed c ok qs) = c.kept

abbrev rows_in : Reading → ℕ
rows_in (Err why) = 0
rows_in (Ok l) = l.rows

module _
    (d : Day) (held : worked d ≡ stated d) (l : Layout) (is : reading d.form d.file ≡ Ok l)
    (ch sheet t ch' sheet' t' : List ℕ) (a : Totals) (C : Closes (instance_of d.file l) ch sheet t ch' sheet' t' a)
  where
    on : settled (instance_of d.file l) d ≡ stated d
    on = ap (λ x. after_reading x d) (sym is) ∙ held

    pub as-stated : AsStated d l.rows ch' a
    as-stated =
        let i = instance_of d.file l in
        record {
          choice = λ c h. C.best c h ∙ ap (λ x. row (choice_in x) c) on;
          earned = best-earned i ch sheet t ch' sheet' t' a C ∙ ap earned_in on;
          kept = best-rows i ch sheet t ch' sheet' t' a C ∙ ap kept_in on;
        }

-- a sheet of zeros has the total 0
zero-total :
    (i : Instance) (ch sheet t ch' sheet' t' : List ℕ) (a : Totals) → Closes i ch sheet t ch' sheet' t' a →
    ((k : ℕ) → k < needed i.net → get_or sheet' k 0 ≡ 0) → a.total ≡ 0
zero-total i ch sheet t ch' sheet' t' a C zero =
    omega (
      arith,
      C.total,
      sum-cong i.net.groups {f = λ v. i.limit v * mark_of sheet' v} {g = λ v. 0}
          (λ v h. omega (arith, ap (λ x. i.limit v * x) (zero v (omega arith)))),
      sum-zero i.net.groups,
      sum-cong i.net.rows {f = claim_mark_of i.net sheet'} {g = λ c. 0} (λ c h. zero (i.net.groups + c) (omega arith)),
      sum-zero i.net.rows,
    )

--------------------------------------------------------------------------------
-- Day A

module _
    (l : Layout) (is : reading (new_old 0) (day_of 0).file ≡ Ok l) (ch sheet t ch' sheet' t' : List ℕ) (a : Totals)
    (C : Closes (instance_of (day_of 0).file l) ch sheet t ch' sheet' t' a)
  where
    stated-a : AsStated (day_of 0) l.rows ch' a
    stated-a = as-stated (day_of 0) (ap (λ x. get_or x 0 (refused CutOff)) days-hold) l is ch sheet t ch' sheet' t' a C

    rows-a : 3 ≡ l.rows
    unfolding none_above every group_fault claim_fault records_from count_fault section_at claims_at reading_in
    rows-a = ap rows_in is

    pub kept-a : (row ch' 0 ≡ 1) × (row ch' 1 ≡ 1) × (row ch' 2 ≡ 0)
    kept-a =
        (stated-a.choice 0 (omega (arith, rows-a)), stated-a.choice 1 (omega (arith, rows-a)), stated-a.choice 2 (omega (arith, rows-a)))

    pub not-untouched : (row ch 0 ≡ 1 → ⊥) → ch' ≡ ch → ⊥
    not-untouched out same = out (ap (λ x. row x 0) (sym same) ∙ kept-a.0)

    pub counts-a : (a.earned ≡ 1) × (a.kept ≡ 2)
    counts-a = (stated-a.earned, stated-a.kept)

    pub total_a : a.total ≡ 5
    total_a =
        let sound = accepted-sound (new_old 0) (day_of 0).file l is in
        let i = instance_of (day_of 0).file l in
        omega (
          arith,
          total-counts i (day-formed (day_of 0).file l sound) (accepted-kinds (new_old 0) (day_of 0).file l is) ch sheet t ch' sheet' t' a
              C,
          ap (λ x. l.rows * x) counts-a.0,
          counts-a.1,
          rows-a,
        )

    pub sheet-behind : ((k : ℕ) → k < needed (instance_of (day_of 0).file l).net → get_or sheet' k 0 ≡ 0) → ⊥
    sheet-behind zero =
        omega (arith, total_a, zero-total (instance_of (day_of 0).file l) ch sheet t ch' sheet' t' a C zero)

    pub past-the-rows : (k : ℕ) → 3 ≤ k → get_or ch' k 0 ≡ get_or ch k 0
    past-the-rows k h = C.choice_rest.same k (omega (arith, rows-a))

--------------------------------------------------------------------------------
-- Day A with all rows ordinary

module _
    (l : Layout) (is : reading (new_old 0) (day_of 6).file ≡ Ok l) (ch sheet t ch' sheet' t' : List ℕ) (a : Totals)
    (C : Closes (instance_of (day_of 6).file l) ch sheet t ch' sheet' t' a)
  where
    stated-o : AsStated (day_of 6) l.rows ch' a
    stated-o = as-stated (day_of 6) (ap (λ x. get_or x 6 (refused CutOff)) days-hold) l is ch sheet t ch' sheet' t' a C

    rows-o : 3 ≡ l.rows
    unfolding none_above every group_fault claim_fault records_from count_fault section_at claims_at reading_in
    rows-o = ap rows_in is

    pub given-up : (row ch' 0 ≡ 0) × (row ch' 1 ≡ 1) × (row ch' 2 ≡ 1)
    given-up =
        (stated-o.choice 0 (omega (arith, rows-o)), stated-o.choice 1 (omega (arith, rows-o)), stated-o.choice 2 (omega (arith, rows-o)))
