-- Laws of the verdict.
--   both_found             a choice fits both sides by what is found on each
--   judged-unfit judged-uncovered judged-unequal judged-accepted   the verdict on the closing of a day, one law a case
--   accepts-accepted accepted-accepts  it is Accepted exactly where the closing is to be accepted
--   short-choice short-sheet no-day no_bits judged-by  the verdict on what was sent with an accepted file
--   verdict-by             the verdict by the reading
--   judges                 a verdict that is as defined says what it means
use mathlib.Core.Path.{◌≡◌, refl, sym, ap, ap₂, ◌∙◌}
use mathlib.Core.List.{List}
use mathlib.Core.Bool.{true, false, ◌&&◌}
use mathlib.Core.Logic.{inl, inr}
use Prim.Native.Nat.{ℕ, ◌≤◌, ◌<◌}
use native.Mathlib.Decide.{ℕ_discrete, dec_lt}
use native.Mathlib.Omega.{arith}
use lib.ListN.{length}
use borrow.Author.Tests.{lt-ltb, le-ltb, le-leb, lt-leb, eq-eqb, ne_eqb}
use Rattle.theory.specs.Incidence.{Selection}
use Rattle.theory.specs.Matroid.{row}
use Rattle.theory.specs.Network.{Instance, fits_both}
use Rattle.theory.proofs.TestLaws.{either, both_true, true-both}
use Rattle.claimfile.specs.File.{first_terms, days}
use Rattle.reader.specs.Reading.{reading, Reading}
use Rattle.claimfile.specs.Day.{network_of, instance_of}
use Rattle.claimfile.specs.declared.Form.{Form}
use Rattle.claimfile.specs.declared.Layout.{Layout}
use Rattle.refusal.specs.declared.Reason.{Reason}
use Rattle.refusal.specs.declared.Reason.TheVariants.{File, Short, Day, Value, Unfit, Uncovered, Unequal}
use Rattle.refusal.proofs.TableLaws.{number-some}
use Rattle.selection.specs.Selection.{bits}
use Rattle.selection.proofs.SelectionLaws.{bits_are, are-bits}
use Rattle.sides.specs.Found.{found_on}
use Rattle.sides.specs.declared.Found.{Found}
use Rattle.closing.specs.Settle.{needed}
use Rattle.sheets.specs.Sheet.{covered, sheet_total}
use Rattle.accept.specs.Accept.{judged, weight_kept, Accepts, verdict_by, verdict, verdict_number}
use Rattle.accept.specs.Accept.{Acceptable, Judges}
use Rattle.closing.specs.Close.{Countable}
use Rattle.sheets.specs.Judge.{Sheeted}
use Rattle.accept.specs.Judgeable.{Judgeable}
use Rattle.sheets.proofs.CoverLaws.{covered-true, true-covered}
use Rattle.std.specs.Prelude.{Ok, Err, Result}

-- a verdict with a number is not Accepted
refused : {A : Type 0} (x : Result (Unit {0}) Reason) (why : Reason) → x ≡ Ok tt → x ≡ Err why → A
refused x why p q = absurd (omega (arith, number-some why, ap verdict_number (sym p ∙ q)))

pub none_told : (x : Result (Unit {0}) Reason) → verdict_number x ≡ 0 → x ≡ Ok tt
none_told (Ok _) h = refl
none_told (Err why) h = absurd (omega (arith, number-some why))

--------------------------------------------------------------------------------
-- A day

-- what is found on each side
pub both_found :
    (i : Instance) (ch : List ℕ) (card shop : Found) → card ≡ found_on i ch 0 → shop ≡ found_on i ch 1 →
    (card.fits && shop.fits) ≡ fits_both i.net i.limit (row ch)
unfolding fits_both
both_found i ch card shop c s = ap₂ ◌&&◌ (ap (λ (x : Found). x.fits) c) (ap (λ (x : Found). x.fits) s)

pub judgeable-sheeted : (s : List ℕ) (l : Layout) (ch sheet : List ℕ) → Judgeable s l ch sheet → Sheeted s l sheet
judgeable-sheeted s l ch sheet j = record { sound = j.ready.sound; kinds = j.kinds; sheets = j.sheets }

pub judgeable-countable : (s : List ℕ) (l : Layout) (ch sheet : List ℕ) → Judgeable s l ch sheet → Countable first_terms s l ch
judgeable-countable s l ch sheet j =
    record { sound = j.ready.sound; kinds = j.kinds; long = j.ready.long; bits = j.ready.bits }

module _ (i : Instance) (ch sheet : List ℕ) where
  pub judged-unfit : fits_both i.net i.limit (row ch) ≡ false → Err Unfit ≡ judged i ch sheet
  unfolding judged
  judged-unfit f = rw f

  module _ (f : fits_both i.net i.limit (row ch) ≡ true) where
    pub judged-uncovered : covered i sheet ≡ false → Err Uncovered ≡ judged i ch sheet
    unfolding judged
    judged-uncovered e = rw (f, e)

    module _ (e : covered i sheet ≡ true) where
      pub judged-unequal : (sheet_total i sheet ≡ weight_kept i ch → ⊥) → Err Unequal ≡ judged i ch sheet
      unfolding judged
      judged-unequal n = rw (f, e, ne_eqb _ _ n)

      pub judged-accepted : sheet_total i sheet ≡ weight_kept i ch → (Ok tt) ≡ judged i ch sheet
      unfolding judged
      judged-accepted t = rw (f, e, eq-eqb _ _ t)

  pub accepts-accepted : Accepts i ch sheet → judged i ch sheet ≡ Ok tt
  accepts-accepted a =
      sym
      (judged-accepted (true-both i.net i.limit (row ch) a.choice.fits) (true-covered i sheet a.cover) a.equal)

  pub accepted-accepts : Selection i.net.rows (row ch) → judged i ch sheet ≡ Ok tt → Accepts i ch sheet
  accepted-accepts bits e =
      elim (either (fits_both i.net i.limit (row ch))) [
        | inr f ↦ refused (judged i ch sheet) Unfit e (sym (judged-unfit f))
        | inl f ↦
            elim (either (covered i sheet)) [
              | inr k ↦ refused (judged i ch sheet) Uncovered e (sym (judged-uncovered f k))
              | inl k ↦
                  elim (ℕ_discrete (sheet_total i sheet) (weight_kept i ch)) [
                    | no t ↦ refused (judged i ch sheet) Unequal e (sym (judged-unequal f k t))
                    | yes t ↦
                        record {
                          choice = record { bits = bits; fits = both_true i.net i.limit (row ch) f };
                          cover = covered-true i sheet k;
                          equal = t;
                        }
                  ]
            ]
      ]

--------------------------------------------------------------------------------
-- What was sent with an accepted file

module _ (s : List ℕ) (l : Layout) (ch sheet : List ℕ) where
  abbrev is-verdict : Result (Unit {0}) Reason
  is-verdict = verdict_by s (Ok l) ch sheet

  pub short-choice : length ch < l.rows → Err Short ≡ is-verdict
  short-choice h = rw (lt-ltb _ _ h)

  module _ (choices : l.rows ≤ length ch) where
    pub short-sheet : length sheet < needed (network_of s l) → Err Short ≡ is-verdict
    short-sheet h = rw (le-ltb _ _ choices, lt-ltb _ _ h)

    module _ (sheets : needed (network_of s l) ≤ length sheet) where
      pub no-day : days ≤ l.day → Err Day ≡ is-verdict
      no-day h = rw (le-ltb _ _ choices, le-ltb _ _ sheets, le-leb _ _ h)

      module _ (known : l.day < days) where
        pub no_bits : bits l.rows ch ≡ false → Err Value ≡ is-verdict
        no_bits e = rw (le-ltb _ _ choices, le-ltb _ _ sheets, lt-leb _ _ known, e)

        pub judged-by : bits l.rows ch ≡ true → judged (instance_of s l) ch sheet ≡ is-verdict
        judged-by e = rw (le-ltb _ _ choices, le-ltb _ _ sheets, lt-leb _ _ known, e)

--------------------------------------------------------------------------------
-- A file

pub verdict-by :
    (f : Form) (s ch sheet : List ℕ) (x : Reading) → reading f s ≡ x → verdict f s ch sheet ≡ verdict_by s x ch sheet
unfolding verdict
verdict-by f s ch sheet x e = ap (λ (y : Reading). verdict_by s y ch sheet) e

module _ (f : Form) (s ch sheet : List ℕ) where
  pub acceptable-accepted : Acceptable f s ch sheet → verdict f s ch sheet ≡ Ok tt
  acceptable-accepted a =
      verdict-by f s ch sheet (Ok a.layout) a.accepted
      ∙ sym
      (judged-by s a.layout ch sheet a.choices a.sheets a.known
      (bits_are a.layout.rows ch a.accepts.choice.bits))
      ∙ accepts-accepted (instance_of s a.layout) ch sheet a.accepts

  judged-sent :
      (l : Layout) → reading f s ≡ Ok l → verdict_by s (Ok l) ch sheet ≡ Ok tt →
      Acceptable f s ch sheet
  judged-sent l is e =
      elim (dec_lt (length ch) l.rows) [
        | yes h ↦ refused (verdict_by s (Ok l) ch sheet) Short e (sym (short-choice s l ch sheet h))
        | no a ↦
            let choices : l.rows ≤ length ch = omega arith in
            elim (dec_lt (length sheet) (needed (network_of s l))) [
              | yes h ↦
                  refused (verdict_by s (Ok l) ch sheet) Short e (sym (short-sheet s l ch sheet choices h))
              | no b ↦
                  let sheets : needed (network_of s l) ≤ length sheet = omega arith in
                  elim (dec_lt l.day days) [
                    | no d ↦
                        let over : days ≤ l.day = omega arith in
                        refused (verdict_by s (Ok l) ch sheet) Day e
                        (sym (no-day s l ch sheet choices sheets over))
                    | yes known ↦
                        elim (either (bits l.rows ch)) [
                          | inr v ↦
                              refused (verdict_by s (Ok l) ch sheet) Value e
                              (sym (no_bits s l ch sheet choices sheets known v))
                          | inl v ↦
                              record {
                                layout = l;
                                accepted = is;
                                choices = choices;
                                sheets = sheets;
                                known = known;
                                accepts =
                                    accepted-accepts (instance_of s l) ch sheet (are-bits l.rows ch v)
                                    (judged-by s l ch sheet choices sheets known v ∙ e);
                              }
                        ]
                  ]
            ]
      ]

  by-reading : (x : Reading) → reading f s ≡ x → verdict_by s x ch sheet ≡ Ok tt → Acceptable f s ch sheet
  by-reading (Ok l) is e = judged-sent l is e
  by-reading (Err why) is e = refused (Err (File why)) (File why) e refl

  pub accepted-acceptable : verdict f s ch sheet ≡ Ok tt → Acceptable f s ch sheet
  accepted-acceptable e = by-reading (reading f s) refl (sym (verdict-by f s ch sheet (reading f s) refl) ∙ e)

  -- x is the reading that was found
  pub judges :
      (r : Result (Unit {0}) Reason) (x : Reading) → reading f s ≡ x → r ≡ verdict_by s x ch sheet → Judges f s ch sheet r
  judges r x e by =
      let is : r ≡ verdict f s ch sheet = by ∙ sym (verdict-by f s ch sheet x e) in
      record {
        is = is;
        told = ap verdict_number is;
        means = (
          λ h. accepted-acceptable (sym is ∙ none_told r h),
          λ a. ap verdict_number (is ∙ acceptable-accepted a),
        );
      }
