-- What a tally promises during the day (document 02, E14). The file s is accepted in the form f with the layout l, and the day that f names
-- is one of the week; the tally t was begun from it, and a run of calls led from t to t'.
--   rows                   the rows put in and not taken out since
--   day-holds              the tally holds these rows: what each of its cells is
--   rows_fit               they fit both sides
--   count-told             what is told of a group is the number of them that count in it, or 9
--   put-told take-told     what the next call on a row answers
--   put_next take_next     and which rows are in after it
--   selection-rows         the tally's bytes are a selection: these rows
--   selection-fits         so fits and rank, asked with the bytes, says that they fit either side,
--   full-spare             and 20 is told of a row that is not in exactly where spare places, asked with the bytes, answers 0
-- The sort of file does not matter:
--   begun-stored           a tally begun from a new file is one begun from the same file as a stored one (document 02, E4)
--   begun-week             a tally begun from a file in the old layout is one begun from its week file (document 02, E9)
--   begun-refused          where the old layout's file is refused, so is its widening, with the same number
use mathlib.Core.Path.{◌≡◌, refl, sym, ap, ◌∙◌, subst}
use mathlib.Core.Bool.{true, false, true≢false}
use mathlib.Core.Logic.{inl, inr, ◌≢◌, ◌↔◌}
use mathlib.Core.List.{List}
use Prim.Native.Nat.{ℕ, zero, suc, max, ◌<◌, ◌≤◌}
use native.Mathlib.Decide.{dec_lt}
use native.Mathlib.Omega.{arith}
use lib.ListN.{get_or}
use borrow.Author.Tests.{le-ltb, lt-leb, ne_eqb}
use Rattle.theory.specs.Sum.{pick, same}
use Rattle.theory.specs.Incidence.{plus}
use Rattle.theory.specs.Matroid.{row}
use Rattle.theory.specs.Network.{Instance, on_side, FitsSide, FitsBoth, fits_both}
use Rattle.theory.specs.Spare.{spare_places}
use Rattle.theory.proofs.IncidenceLaws.{fits-cong}
use Rattle.theory.proofs.TestLaws.{either, true-fits, both_true, true-both}
use Rattle.exchange.proofs.TightLaws.{plus-max}
use Rattle.answers.specs.declared.FitsAndRankAnswer.{FitsAndRankAnswer}
use Rattle.answers.specs.declared.SparePlacesAnswer.{SparePlacesAnswer}
use Rattle.answers.specs.declared.TallyCountAnswer.{TallyCountAnswer}
use Rattle.claimfile.specs.declared.Form.{Form}
use Rattle.claimfile.specs.declared.Layout.{Layout}
use Rattle.claimfile.specs.File.{days, first_terms, as_stored}
use Rattle.claimfile.specs.Day.{groups_of, limit_of, network_of, instance_of}
use Rattle.reader.specs.declared.Refusal.{Refusal}
use Rattle.reader.specs.Reading.{reading}
use Rattle.reader.proofs.StoredLaws.{new-stored}
use Rattle.claimwriter.specs.Week.{week_form, as_week, week_layout}
use Rattle.claimwriter.specs.Widened.{widened}
use Rattle.claimwriter.proofs.WeekLaws.{week-accepted, week-day}
use Rattle.claimwriter.proofs.WidenedLaws.{widened-refused}
use Rattle.refusal.specs.declared.Reason.TheVariants.{Full}
use Rattle.refusal.specs.Table.{number_of}
use Rattle.selection.proofs.SelectionLaws.{bits_are}
use Rattle.limits.specs.Answers.{entered, ranked_by, ranked_in, ranked, ranked_numbers, Answered}
use Rattle.limits.proofs.EntryLaws.{entered_by_lem, judged-is}
use Rattle.sides.specs.Found.{fits_of, found_on}
use Rattle.spare.specs.Spare.{spare_by, spare, spare_numbers, Spared}
use Rattle.tally.specs.declared.Tally.{Tally}
use Rattle.tally.specs.Tally.{Holds, none, put_number, take_number, after_put, after_take, PutIn, TakenOut, shown_of, CountRead}
use Rattle.tally.proofs.HoldLaws.{in_is}
use Rattle.tally.proofs.CallLaws.{put-by}
use Rattle.tallytables.specs.Begin.{Started}
use Rattle.tallytables.proofs.BeginLaws.{started-refused, started-dayless, started-filled}
use Rattle.tallyruns.specs.Runs.{Call, Run, in_after}
use Rattle.tallyruns.proofs.RunLaws.{run_holds}
use Rattle.std.specs.Prelude.{Ok, Err, Result}
use Rattle.sides.specs.declared.Found.{Found}
use Rattle.refusal.specs.declared.Reason.{Reason}

module _
    (f : Form) (s : List ℕ) (l : Layout) (is : reading f s ≡ Ok l) (day : l.day < days) (n : ℕ) (t : Tally)
    (began : Started f s n t) (calls : List Call) (t' : Tally) (run : Run t calls t')
  where
    abbrev i : Instance
    i = instance_of s l

    abbrev pub rows : ℕ → ℕ
    rows = in_after i none calls

    pub day-holds : Holds i t' rows
    day-holds = run_holds i calls t t' none (began.accepted l is day).1 run

    pub rows_fit : FitsBoth (network_of s l) (limit_of s l) rows
    rows_fit = day-holds.choice.fits

    pub count-told :
        (side g : ℕ) (r : TallyCountAnswer) (u : Tally) → CountRead t' side g r u → r ≡ shown_of (network_of s l) rows side g
    count-told side g r u (shown, e) = shown.holds i t'.tables rows day-holds

    module _ (c m : ℕ) (u : Tally) where
      pub put-told : PutIn t' c m u → m ≡ put_number i rows c
      put-told p = (p.holds i rows day-holds).0

      pub put_next : PutIn t' c m u → Holds i u (after_put i rows c)
      put_next p = (p.holds i rows day-holds).1

      pub take-told : TakenOut t' c m u → m ≡ take_number i rows c
      take-told p = (p.holds i rows day-holds).0

      pub take_next : TakenOut t' c m u → Holds i u (after_take i rows c)
      take_next p = (p.holds i rows day-holds).1

    ------------------------------------------------------------------------------
    -- The tally's bytes as a selection

    abbrev sel : List ℕ
    sel = t'.state.selection

    pub selection-rows : (c : ℕ) → c < l.rows → row sel c ≡ rows c
    selection-rows c h = in_is i t' rows day-holds c h

    enters : entered f s sel ≡ Ok l
    enters =
        entered_by_lem first_terms f s sel (Ok l) is
        ∙ sym
        (judged-is sel l (omega (arith, day-holds.long_selection, day-holds.rows_most)) day
        (bits_are l.rows sel (λ c h. omega (arith, selection-rows c h, day-holds.choice.bits c h))))

    -- selections that agree on the rows fit alike
    alike :
        (side : ℕ) (X Y : ℕ → ℕ) → ((c : ℕ) → c < l.rows → X c ≡ Y c) → FitsSide (network_of s l) (limit_of s l) side X →
        FitsSide (network_of s l) (limit_of s l) side Y
    alike side = fits-cong l.rows (on_side (network_of s l) side) (groups_of l) (limit_of s l)

    fits-true : (side : ℕ) → side < 2 → fits_of i side (row sel) ≡ true
    fits-true side h = true-fits l.rows (groups_of l) (on_side (network_of s l) side) (limit_of s l) (row sel) (on side h)
      where
        on : (side : ℕ) → side < 2 → FitsSide (network_of s l) (limit_of s l) side (row sel)
        on zero h = alike 0 rows (row sel) (λ c k. sym (selection-rows c k)) rows_fit.0
        on (suc zero) h = alike 1 rows (row sel) (λ c k. sym (selection-rows c k)) rows_fit.1
        on (suc (suc side)) h = absurd (omega arith)

    ranked-told : (side : ℕ) → side < 2 → ranked f s sel side ≡ Ok (record { fits = true; rank = (found_on i sel side).rank })
    unfolding ranked_in
    ranked-told side h =
        let low : side ≤ 1 = omega arith in
        ap (ranked_by s sel side) enters ∙ rw (le-ltb _ _ low, fits-true side h)

    pub selection-fits :
        (side : ℕ) → side < 2 → (r : Result Found Reason) → Answered f s sel side r →
        ((ranked_numbers r).refusal ≡ 0) × ((ranked_numbers r).fits ≡ 1)
    selection-fits side h r a =
        let told = a.numbers ∙ ap ranked_numbers (ranked-told side h) in
        (ap (λ (x : FitsAndRankAnswer). x.refusal) told, ap (λ (x : FitsAndRankAnswer). x.fits) told)

    module _ (c : ℕ) (h : c < l.rows) (out : rows c ≡ 0) where
      spare-told : spare f s sel c ≡ Ok (spare_places (network_of s l) (limit_of s l) (row sel) c)
      unfolding spare
      spare-told =
          let other : row sel c ≢ 1 = λ e. omega (arith, selection-rows c h) in
          ap (spare_by s sel c) enters ∙ rw (lt-leb _ _ h, ne_eqb _ _ other)

      -- with the row added, the bytes fit exactly where the rows do
      with_row : (j : ℕ) → j < l.rows → plus rows c j ≡ plus (row sel) c j
      with_row j k = plus-max rows c j ∙ ap (λ x. max x (same c j)) (sym (selection-rows j k)) ∙ sym (plus-max (row sel) c j)

      fits-bytes :
          FitsBoth (network_of s l) (limit_of s l) (plus rows c) ↔ FitsBoth (network_of s l) (limit_of s l) (plus (row sel) c)
      fits-bytes = (
        λ F. (
          alike 0 (plus rows c) (plus (row sel) c) with_row F.0,
          alike 1 (plus rows c) (plus (row sel) c) with_row F.1,
        ),
        λ F. (
          alike 0 (plus (row sel) c) (plus rows c) (λ j k. sym (with_row j k)) F.0,
          alike 1 (plus (row sel) c) (plus rows c) (λ j k. sym (with_row j k)) F.1,
        ),
      )

      pub full-spare :
          (m : ℕ) (u : Tally) → PutIn t' c m u → (r : Result ℕ Reason) → Spared f s sel c r →
          ((spare_numbers r).refusal ≡ 0) × ((m ≡ number_of Full) ↔ ((spare_numbers r).places ≡ 0))
      full-spare m u p r a =
          elim (either (fits_both (network_of s l) (limit_of s l) (plus rows c))) [
            | inl e ↦
                let done : m ≡ 0 = told ∙ rw e in
                let fits = fits-bytes.0 (both_true (network_of s l) (limit_of s l) (plus rows c) e) in
                let some : 1 ≤ (spare_numbers r).places = places.1 fits in
                (answered, (λ full. absurd (omega arith), λ z. absurd (omega arith)))
            | inr e ↦
                let full : m ≡ number_of Full = told ∙ rw e in
                (answered, (λ q. none_left e, λ z. full))
          ]
        where
          answered : (spare_numbers r).refusal ≡ 0
          answered = ap (λ (x : SparePlacesAnswer). x.refusal) (a.numbers ∙ ap spare_numbers spare-told)

          told : m ≡ pick (fits_both (network_of s l) (limit_of s l) (plus rows c)) 0 (number_of Full)
          told = put-told c m u p ∙ put-by i rows c h out

          places : (1 ≤ (spare_numbers r).places) ↔ FitsBoth (network_of s l) (limit_of s l) (plus (row sel) c)
          places = (a.means l is answered).1.one (selection-rows c h ∙ out)

          none_left : fits_both (network_of s l) (limit_of s l) (plus rows c) ≡ false → (spare_numbers r).places ≡ 0
          none_left e =
              elim (dec_lt 0 (spare_numbers r).places) [
                | yes k ↦
                    absurd
                    (true≢false (sym (true-both (network_of s l) (limit_of s l) (plus rows c) (fits-bytes.1 (places.0 k))) ∙ e))
                | no k ↦ omega arith
              ]

--------------------------------------------------------------------------------
-- The sorts of file

-- two files that hold the same day, with the same weekday named
began-as :
    (f g : Form) (s s' : List ℕ) (l l' : Layout) → reading f s ≡ Ok l → reading g s' ≡ Ok l' →
    l.day ≡ l'.day → (l.day < days → instance_of s l ≡ instance_of s' l') → (n : ℕ) (t : Tally) → Started f s n t →
    Started g s' n t
began-as f g s s' l l' is there day same n t began =
    elim (dec_lt l.day days) [
      | yes h ↦
          let b = began.accepted l is h in
          started-filled g s' n t l' there (omega arith) b.0 (subst (λ (x : Instance). Holds x t none) (same h) b.1)
      | no h ↦
          let past : days ≤ l.day = omega arith in
          let b = began.dayless l is past in
          started-dayless g s' n t l' there (omega arith) b.0 b.1
    ]

module _ (f : Form) (s : List ℕ) (n : ℕ) (t : Tally) (began : Started f s n t) where
  module _ (l : Layout) (is : reading f s ≡ Ok l) where
    pub begun-stored : Started (as_stored f) s n t
    begun-stored = began-as f (as_stored f) s s l l is (new-stored f s l is) refl (λ h. refl) n t began

    pub begun-week : ((j : ℕ) → get_or s j 0 < 256) → Started (week_form f) (as_week s l) n t
    begun-week bytes =
        began-as f (week_form f) s (as_week s l) l (week_layout l) is (week-accepted f s l is bytes) refl (week-day f s l is bytes l.day) n
        t began

  pub begun-refused :
      f.week ≡ false → (why : Refusal) → reading f s ≡ Err why → Started (week_form f) (widened s) n t
  begun-refused old why is =
      let b = began.refused why is in
      started-refused (week_form f) (widened s) n t why ((widened-refused f s why old).0 is) b.0 b.1
