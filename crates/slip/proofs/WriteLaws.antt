-- Laws of what is answered and left.
--   on-few on-short on-day on_value on-written    the outcome for an accepted file, one law a case
--   slips-refused slips-accepted           the outcome for a file, by its reading
--   slips-same                             both calls answer and leave the same for every new file
use mathlib.Core.Path.{◌≡◌, refl, sym, ap, ◌∙◌}
use mathlib.Core.Bool.{true, false}
use mathlib.Core.List.{List, ◌++◌}
use Prim.Native.Nat.{ℕ, ◌+◌, ◌≤◌, ◌<◌}
use native.Mathlib.Omega.{arith}
use borrow.Author.Tests.{lt-ltb, le-ltb, lt-leb, le-leb}
use lib.ListN.{length, drop}
use lib.Seq.{sets-eq}
use Rattle.text.specs.Buffer.{Appended}
use Rattle.claimfile.specs.declared.Form.{Form}
use Rattle.claimfile.specs.declared.Layout.{Layout}
use Rattle.reader.specs.declared.Refusal.{Refusal}
use Rattle.claimfile.specs.File.{days, as_stored}
use Rattle.reader.specs.Reading.{reading, Reading}
use Rattle.claimfile.specs.Sound.{Sound}
use Rattle.reader.proofs.StoredLaws.{new-stored}
use Rattle.refusal.specs.declared.Reason.{Reason}
use Rattle.refusal.specs.declared.Reason.TheVariants.{File, Short, Day, Value}
use Rattle.refusal.specs.Writing.{turned, written}
use Rattle.refusal.proofs.WritingLaws.{leaves-is}
use Rattle.selection.specs.Selection.{bits}
use Rattle.slip.specs.Slip.{slip}
use Rattle.slip.specs.Write.{needed, outcome_on, outcome_by, outcome, WritesOn, Slips}
use Rattle.slip.proofs.SlipLaws.{slip-length}
use Rattle.std.specs.Prelude.{Ok, Err, Result}

module _ (s : List ℕ) (l : Layout) (sel out : List ℕ) where
  away : (why : Reason) → outcome_on s l sel out ≡ turned why out → WritesOn s l sel out out (Err why)
  away why e = leaves-is (outcome_on s l sel out) (turned why out) e out (Err why) refl refl

  few : length sel < l.rows → outcome_on s l sel out ≡ turned Short out
  unfolding outcome_on
  few h = rw (lt-ltb _ _ h)

  pub on-few : length sel < l.rows → WritesOn s l sel out out (Err Short)
  on-few h = away Short (few h)

  module _ (long : l.rows ≤ length sel) where
    short : length out < needed l sel → outcome_on s l sel out ≡ turned Short out
    unfolding outcome_on
    short h = rw (le-ltb _ _ long, lt-ltb _ _ h)

    pub on-short : length out < needed l sel → WritesOn s l sel out out (Err Short)
    on-short h = away Short (short h)

    module _ (wide : needed l sel ≤ length out) where
      over : days ≤ l.day → outcome_on s l sel out ≡ turned Day out
      unfolding outcome_on
      over d = rw (le-ltb _ _ long, le-ltb _ _ wide, le-leb _ _ d)

      pub on-day : days ≤ l.day → WritesOn s l sel out out (Err Day)
      on-day d = away Day (over d)

      module _ (known : l.day < days) where
        value : bits l.rows sel ≡ false → outcome_on s l sel out ≡ turned Value out
        unfolding outcome_on
        value e = rw (le-ltb _ _ long, le-ltb _ _ wide, lt-leb _ _ known, e)

        pub on_value : bits l.rows sel ≡ false → WritesOn s l sel out out (Err Value)
        on_value e = away Value (value e)

        -- the slip was put at the buffer's start
        module _ (e : bits l.rows sel ≡ true) (sound : Sound s l) (out' : List ℕ) (n : ℕ)
            (put : Appended out out' 0 n (slip s l sel)) where
          whole : outcome_on s l sel out ≡ written (slip s l sel) out
          unfolding outcome_on
          whole = rw (le-ltb _ _ long, le-ltb _ _ wide, lt-leb _ _ known, e)

          pub on-written : WritesOn s l sel out out' (Ok n)
          on-written =
              let at : n ≡ length (slip s l sel) = omega (arith, put.end) in
              let from : 0 + length (slip s l sel) ≡ length (slip s l sel) = omega arith in
              leaves-is (outcome_on s l sel out) (written (slip s l sel) out) whole out' (Ok n) (ap Ok at)
              (put.cells
              ∙ sets-eq (slip s l sel) out 0 (omega (arith, slip-length s l sound sel))
              ∙ ap (λ (k : ℕ). slip s l sel ++ drop k out) from)

--------------------------------------------------------------------------------
-- The file

module _ (f : Form) (s sel out : List ℕ) where
  by : (x : Reading) → reading f s ≡ x → outcome f s sel out ≡ outcome_by s sel out x
  unfolding outcome
  by x e = ap (outcome_by s sel out) e

  pub slips-refused : (why : Refusal) → reading f s ≡ Err why → Slips f s sel out out (Err (File why))
  slips-refused why e =
      leaves-is (outcome f s sel out) (turned (File why) out) (by (Err why) e) out (Err (File why)) refl refl

  pub slips-accepted :
      (l : Layout) (out' : List ℕ) (r : Result ℕ Reason) → reading f s ≡ Ok l → WritesOn s l sel out out' r →
      Slips f s sel out out' r
  slips-accepted l out' r e w =
      leaves-is (outcome f s sel out) (outcome_on s l sel out) (by (Ok l) e) out' r w.answer w.cells

-- both calls answer and leave the same for every new file
pub slips-same :
    (f : Form) (s sel out : List ℕ) (l : Layout) → reading f s ≡ Ok l →
    outcome (as_stored f) s sel out ≡ outcome f s sel out
slips-same f s sel out l is =
    by (as_stored f) s sel out (Ok l) (new-stored f s l is)
    ∙ sym (by f s sel out (Ok l) is)
