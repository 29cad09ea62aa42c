-- Laws of the loop that reads the group sections, the card side first.
--   no_section                 what stands for a section before it is read
--   ReadTo                     the sections of the sides before one were read, and where the next one stands
--   read-start read_next       before the first side, and one side more
--   read-fault                 a section with a fault refuses the file
--   read-cards read-shops      both sections, when the loop is done
use mathlib.Core.Path.{◌≡◌, refl, sym, ap, ◌∙◌}
use mathlib.Core.List.{List, [], ◌∷◌}
use Prim.Native.Nat.{ℕ, zero, suc, ◌+◌, ◌≤◌, ◌<◌}
use native.Mathlib.Decide.{ℕ_discrete}
use native.Mathlib.Numerals.{add-one}
use native.Mathlib.Omega.{arith}
use lib.ListN.{length, get_or, set, length-set}
use lib.Seq.{get_or-set_same, get_or-set_other}
use Rattle.std.specs.Prelude.{Result, Ok, Err}
use Rattle.reader.specs.Reading.{read_section, section_at, reading_in}
use Rattle.reader.specs.Sections.{behind, place_on, section_on}
use Rattle.claimfile.specs.declared.Form.{Form}
use Rattle.reader.specs.declared.Refusal.{Refusal}
use Rattle.reader.specs.declared.Section.{Section}
use Rattle.reader.proofs.FileLaws.{cards-fault, shops-fault}

abbrev pub no_section : Section
no_section = read_section 0 0 0

pub record ReadTo (f : Form) (s : List ℕ) (side : ℕ) (sections : List Section) (at : ℕ) : Type 0 where
  pub long : length sections ≡ 2
  pub upto : side ≤ 2
  pub place : at ≡ place_on f s side
  pub each : (i : ℕ) → i < side → section_on f s i ≡ Ok (get_or sections i no_section)

module _ (f : Form) (s : List ℕ) where
  pub read-start : ReadTo f s 0 (no_section ∷ no_section ∷ []) 0
  read-start = record { long = refl; upto = omega arith; place = refl; each = λ i h. absurd (omega arith) }

  module _ (side : ℕ) (sections : List Section) (at : ℕ) (r : ReadTo f s side sections at) (few : side < 2) where
    -- the section is that of the side
    on-side : (x : Result Section Refusal) → section_at f s at ≡ x → section_on f s side ≡ x
    on-side x e = ap (section_at f s) (sym r.place) ∙ e

    pub read_next : (x : Section) → section_at f s at ≡ Ok x → ReadTo f s (side + 1) (set sections side x) x.next
    read_next x e =
        let here = on-side (Ok x) e in
        record {
          long = simp length-set r.long;
          upto = omega arith;
          place = sym (ap behind here) ∙ ap (place_on f s) (sym (add-one side));
          each = λ i h.
              elim (ℕ_discrete side i) [
                | yes q ↦
                    rw (← q)
                    (here
                    ∙ ap (λ (y : Section). Ok y) (sym (get_or-set_same sections side x no_section (omega (arith, r.long)))))
                | no q ↦
                    r.each i (omega arith)
                    ∙ ap (λ (y : Section). Ok y) (sym (get_or-set_other sections side i x no_section (λ p. q (sym p))))
              ];
        }

    pub read-fault : (K : ℕ) (why : Refusal) → section_at f s at ≡ Err why → reading_in K f s ≡ Err why
    read-fault K why e = judged side few r.each (on-side (Err why) e)
      where
        judged :
            (i : ℕ) → i < 2 → ((j : ℕ) → j < i → section_on f s j ≡ Ok (get_or sections j no_section)) → section_on f s i ≡ Err why →
            reading_in K f s ≡ Err why
        judged zero h before fault = cards-fault K f s why fault
        judged (suc zero) h before fault =
            shops-fault K f s _ _ _ (before 0 (omega arith)) why
            (ap (section_at f s) (sym (ap behind (before 0 (omega arith)))) ∙ fault)
        judged (suc (suc i)) h before fault = absurd (omega arith)

  module _ (side : ℕ) (sections : List Section) (at : ℕ) (r : ReadTo f s side sections at) (done : 2 ≤ side) where
    abbrev cards : Section
    cards = get_or sections 0 no_section

    abbrev shops : Section
    shops = get_or sections 1 no_section

    pub read-cards : section_at f s 0 ≡ Ok (get_or sections 0 no_section)
    read-cards = r.each 0 (omega arith)

    pub read-shops :
        section_at f s (get_or sections 0 no_section).next
        ≡ Ok (read_section (get_or sections 1 no_section).count (get_or sections 1 no_section).start at)
    read-shops =
        let both : 2 ≡ side = omega (arith, r.upto) in
        let second = r.each 1 (omega arith) in
        ap (section_at f s) (sym (ap behind read-cards))
        ∙ second
        ∙ ap (λ (n : ℕ). Ok (read_section shops.count shops.start n)) (sym (ap behind second) ∙ ap (place_on f s) both ∙ sym r.place)
