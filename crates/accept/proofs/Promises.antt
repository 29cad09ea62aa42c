-- What acceptance promises, as theorems that a reader can cite. Document 02, E10:
--   most-earned            "An accepted choice has the greatest earned count": no choice Y that fits both sides has more
--   most-rows              "and with that the greatest kept count": none with as many earned rows has more rows
--   accepted-most          both of a file whose closing is accepted, whoever made it
--   ours                   "Everything our own boxes write is accepted for the same file and day, by the call for that sort of
--                          file": what settle leaves where it closes a file in a form is acceptable in that form
--   ours-told              so the call answers that it is accepted
--   accept-same            the call for new files and the one for stored files tell the same of every closing of a new file
-- "Order among equal choices is not judged here": `Accepts` says nothing of it. The first two are of any instance that is formed
-- and has two kinds, and follow from the certificate alone: no choice that fits weighs more than the sheet's total (`heaviest`),
-- and one with more earned rows, or with as many and more rows, would (`lex`).
use mathlib.Core.Path.{◌≡◌, sym, ap, ◌∙◌}
use mathlib.Core.List.{List}
use mathlib.Core.Logic.{inl, inr}
use Prim.Native.Nat.{ℕ, ◌≤◌, ◌<◌}
use native.Mathlib.Omega.{arith}
use Rattle.theory.specs.Incidence.{size, worth}
use Rattle.theory.specs.Matroid.{row}
use Rattle.theory.specs.Network.{Instance, Choice, on_both}
use Rattle.theory.specs.Formed.{Formed}
use Rattle.theory.specs.Priority.{kept, Lex}
use Rattle.theory.proofs.IncidenceLaws.{weak}
use Rattle.theory.proofs.LevelLaws.{choice-fits}
use Rattle.theory.proofs.PriorityLaws.{worth-lex, two-lex}
use Rattle.claimfile.specs.declared.Form.{Form}
use Rattle.claimfile.specs.declared.Layout.{Layout}
use Rattle.claimfile.specs.File.{as_stored}
use Rattle.reader.specs.Reading.{reading, Reading}
use Rattle.claimfile.specs.Day.{kind_of, limit_of, network_of, instance_of}
use Rattle.reader.proofs.AcceptedLaws.{accepted-sound, accepted-kinds}
use Rattle.reader.proofs.StoredLaws.{new-stored}
use Rattle.closing.specs.Settle.{mark_of, claim_mark_of, Settles}
use Rattle.closing.specs.declared.Totals.{Totals}
use Rattle.closing.proofs.Demand as demand
use Rattle.closing.proofs.SettleLaws.{day-formed}
use Rattle.sheets.specs.Sheet.{weights}
use Rattle.accept.specs.Accept.{verdict_by, verdict, verdict_number, Accepts, Acceptable, Judges}
use Rattle.std.specs.Prelude.{Ok, Result}
use Rattle.refusal.specs.declared.Reason.{Reason}

-- whoever made the sheet
module _
    (i : Instance) (formed : Formed i.net) (two : (c : ℕ) → c < i.net.rows → i.kind c < 2) (ch sheet : List ℕ)
    (a : Accepts i ch sheet) (Y : ℕ → ℕ) (fits : Choice i.net i.limit Y)
  where
    heaviest : worth i.net.rows (weights i) Y ≤ worth i.net.rows (weights i) (row ch)
    heaviest =
        omega (
          arith,
          a.equal,
          weak i.net.rows i.net.groups (on_both i.net) Y (mark_of sheet) (claim_mark_of i.net sheet) (weights i)
              i.limit (choice-fits i.net formed i.limit Y fits) fits.bits a.cover,
        )

    lex : Lex 2 (kept i.net.rows i.kind Y) (kept i.net.rows i.kind (row ch))
    lex = worth-lex i.net.rows 2 i.kind two Y (row ch) fits.bits a.choice.bits heaviest

    pub most-earned : kept i.net.rows i.kind Y 1 ≤ kept i.net.rows i.kind (row ch) 1
    most-earned =
        elim (two-lex i.net.rows i.kind two Y (row ch) lex) [
          | inl h ↦ omega arith
          | inr h ↦ omega (arith, h.0)
        ]

    pub most-rows :
        kept i.net.rows i.kind Y 1 ≡ kept i.net.rows i.kind (row ch) 1 →
        size i.net.rows Y ≤ size i.net.rows (row ch)
    most-rows e =
        elim (two-lex i.net.rows i.kind two Y (row ch) lex) [
          | inl h ↦ absurd (omega arith)
          | inr h ↦ h.1
        ]

module _ (f : Form) (s ch sheet : List ℕ) (v : Result (Unit {0}) Reason) (J : Judges f s ch sheet v) (told : verdict_number v ≡ 0) where
  abbrev closing : Acceptable f s ch sheet
  closing = J.means.0 told

  pub accepted-most :
      (Y : ℕ → ℕ) → Choice (network_of s closing.layout) (limit_of s closing.layout) Y →
      (kept closing.layout.rows (kind_of s closing.layout) Y 1
      ≤ kept closing.layout.rows (kind_of s closing.layout) (row ch) 1)
      × (kept closing.layout.rows (kind_of s closing.layout) Y 1
      ≡ kept closing.layout.rows (kind_of s closing.layout) (row ch) 1 →
      size closing.layout.rows Y ≤ size closing.layout.rows (row ch))
  accepted-most Y fits =
      let l = closing.layout in
      let formed = day-formed s l (accepted-sound f s l closing.accepted) in
      let two = accepted-kinds f s l closing.accepted in (
        most-earned (instance_of s l) formed two ch sheet closing.accepts Y fits,
        most-rows (instance_of s l) formed two ch sheet closing.accepts Y fits,
      )

module _ (f : Form) (s ch sheet t ch' sheet' t' : List ℕ) (r : Result Totals Reason) (a : Totals) where
  pub ours : Settles f s ch sheet t ch' sheet' t' r → r ≡ Ok a → Acceptable f s ch' sheet'
  ours S is =
      let d = demand.closed-day f s ch sheet t ch' sheet' t' r a S is in
      record {
        layout = d.layout;
        accepted = d.accepted;
        choices = omega (arith, d.enough.choices, d.closes.choice_rest.long);
        sheets = omega (arith, d.enough.sheets, d.closes.sheet_rest.long);
        known = d.known;
        accepts = record {
          choice = record { bits = d.closes.choice.bits; fits = d.closes.choice.fits };
          cover = d.closes.certified.cover;
          equal = d.closes.certified.equal;
        };
      }

  pub ours-told :
      Settles f s ch sheet t ch' sheet' t' r → r ≡ Ok a → (v : Result (Unit {0}) Reason) → Judges f s ch' sheet' v → verdict_number v ≡ 0
  ours-told S is v J = J.means.1 (ours S is)

pub accept-same :
    (f : Form) (s : List ℕ) (l : Layout) → reading f s ≡ Ok l →
    (ch sheet : List ℕ) → verdict f s ch sheet ≡ verdict (as_stored f) s ch sheet
unfolding verdict
accept-same f s l is ch sheet = ap (λ (x : Reading). verdict_by s x ch sheet) (is ∙ sym (new-stored f s l is))
