-- Laws of the claim file: how the first fault of what is left follows from the next record, one law a case.
--   never                                        a check does not find both no fault and one
--   none_above_lem above-none one-above              whether no limit of a record is above its parent's
--   group-bad group-top group-stored group-above group-new     the fault of a group
--   claim-passes                                 a claim without a fault
--   no_record record_cut record_fault next-record    the records that are left
--   records-pass                                 records that lie within the bytes and have no fault
--   count_cut count-large count_fits count-fine  the fault of a count
--   section-fault section-fits                   a section by the fault of its count
--   cards-fault shops-fault claims-fault trailing accepted   the file
use mathlib.Core.Path.{◌≡◌, refl, sym, ap}
use mathlib.Core.Bool.{Bool, true, false}
use mathlib.Core.Logic.{inl, inr}
use mathlib.Core.List.{List}
use Prim.Native.Nat.{ℕ, zero, suc, ◌+◌, ◌*◌, ◌-◌, ◌<◌, ◌≤◌}
use native.Mathlib.Decide.{dec_lt}
use native.Mathlib.Omega.{arith}
use native.Mathlib.Numerals.{add-one}
use lib.ListN.{length}
use lib.Dec.{leb}
use borrow.Author.Tests.{lt-ltb, le-ltb, eq-eqb, ne_eqb, leb-true, le-leb, lt-leb}
use Rattle.claimfile.specs.File.{top, columns, word, limit_at, record_at}
use Rattle.reader.specs.Reading.{read_section, none_above, group_fault, claim_fault, records_from, Checked}
use Rattle.reader.specs.Reading.{count_fault, section_of, section_by, section_at, claims_at, reading_in}
use Rattle.theory.proofs.TestLaws.{either, every_true, true-every}
use Rattle.claimfile.specs.declared.Form.{Form}
use Rattle.reader.specs.declared.Refusal.{Refusal}
use Rattle.reader.specs.declared.Refusal.TheVariants.{CutOff, Parent, Trailing, LimitAbove}
use Rattle.claimfile.specs.declared.Claim.{Claim}
use Rattle.std.specs.Prelude.{Ok, Err}

pub never : {A : Type 0} (x : Checked) (why : Refusal) → x ≡ Ok tt → x ≡ Err why → A
never x why p q =
    let z : ◌≡◌ {A = ℕ} 0 1 = cc in
    absurd (omega arith)

-- no limit of a record is above its parent's: the test and what it stands for
module _ (s : List ℕ) (own parent n : ℕ) where
  abbrev fits : ℕ → Bool
  fits k = leb (limit_at s own k) (limit_at s parent k)

  pub none_above_lem : none_above s own parent n ≡ true → (k : ℕ) → k < n → limit_at s own k ≤ limit_at s parent k
  unfolding none_above
  none_above_lem e k h = leb-true _ _ (every_true n fits e k h)

  pub above-none : ((k : ℕ) → k < n → limit_at s own k ≤ limit_at s parent k) → none_above s own parent n ≡ true
  unfolding none_above
  above-none each = true-every n fits (λ k h. le-leb _ _ (each k h))

  pub one-above : (k : ℕ) → k < n → limit_at s parent k < limit_at s own k → none_above s own parent n ≡ false
  one-above k h more =
      elim (either (none_above s own parent n)) [
        | inl e ↦ absurd (omega (arith, none_above_lem e k h))
        | inr e ↦ e
      ]

-- a smaller parent fits, and so does 65535; a limit above that of a smaller parent is at fault in a new file
module _ (f : Form) (s : List ℕ) (start own : ℕ) where
  abbrev place : ℕ → ℕ
  place = record_at f.week start

  abbrev parent : ℕ
  parent = word s (place own)

  abbrev none : Bool
  none = none_above s (place own) (place parent) (columns f.week)

  module _ (h : own ≤ parent) where
    pub group-bad : (parent ≡ top → ⊥) → group_fault f s start own ≡ Err Parent
    unfolding group_fault
    group-bad other = rw (le-ltb _ _ h, ne_eqb _ _ other)

    pub group-top : parent ≡ top → group_fault f s start own ≡ Ok tt
    unfolding group_fault
    group-top e = rw (le-ltb _ _ h, eq-eqb _ _ e)

  module _ (h : parent < own) where
    pub group-stored : f.stored ≡ true → group_fault f s start own ≡ Ok tt
    unfolding group_fault
    group-stored e = rw (lt-ltb _ _ h, e)

    pub group-above : f.stored ≡ false → none ≡ false → group_fault f s start own ≡ Err LimitAbove
    unfolding group_fault
    group-above e more = rw (lt-ltb _ _ h, e, more)

    pub group-new : f.stored ≡ false → none ≡ true → group_fault f s start own ≡ Ok tt
    unfolding group_fault
    group-new e less = rw (lt-ltb _ _ h, e, less)

-- a claim without a fault
pub claim-passes :
    (K : ℕ) (claim : Claim) (cards shops : ℕ) → claim.card < cards → claim.shop < shops → claim.kind < K →
    claim_fault K claim cards shops ≡ Ok tt
unfolding claim_fault
claim-passes K claim cards shops card shop kind = rw (lt-leb _ _ card, lt-leb _ _ shop, lt-leb _ _ kind)

--------------------------------------------------------------------------------
-- The records of a section

one_less : (count k : ℕ) → k < count → count - k ≡ suc (count - (k + 1))
one_less count k h = omega arith

module _ (size start width : ℕ) (fault : ℕ → Checked) (count k : ℕ) where
  pub no_record : count ≤ k → records_from size start width fault k (count - k) ≡ Ok tt
  unfolding records_from
  no_record h =
      let e : count - k ≡ 0 = omega arith in
      rw e

  module _ (h : k < count) where
    pub record_cut :
        size < start + width * k + width → records_from size start width fault k (count - k) ≡ Err CutOff
    unfolding records_from
    record_cut short = rw (one_less count k h, lt-ltb _ _ short)

    module _ (whole : start + width * k + width ≤ size) where
      pub record_fault :
          (why : Refusal) → fault k ≡ Err why → records_from size start width fault k (count - k) ≡ Err why
      unfolding records_from
      record_fault why e = rw (one_less count k h, le-ltb _ _ whole, e)

      pub next-record :
          fault k ≡ Ok tt →
          records_from size start width fault k (count - k) ≡ records_from size start width fault (k + 1) (count - (k + 1))
      unfolding records_from
      next-record e =
          rw (one_less count k h, le-ltb _ _ whole, e)
          (ap (λ (n : ℕ). records_from size start width fault n (count - (k + 1))) (sym (add-one k)))

-- records that lie within the bytes and have no fault
pub records-pass :
    (size start width : ℕ) (fault : ℕ → Checked) (count : ℕ) →
    ((k : ℕ) → k < count → start + width * k + width ≤ size) → ((k : ℕ) → k < count → fault k ≡ Ok tt) →
    (left k : ℕ) → k + left ≡ count → records_from size start width fault k left ≡ Ok tt
unfolding records_from
records-pass size start width fault count whole fine zero k e = refl
records-pass size start width fault count whole fine (suc left) k e =
    rw (le-ltb _ _ (whole k (omega arith)), fine k (omega arith))
    (records-pass size start width fault count whole fine left (suc k) (omega arith))

--------------------------------------------------------------------------------
-- The sections

module _ (s : List ℕ) (at most : ℕ) (over : Refusal) where
  pub count_cut : length s < at + 2 → count_fault s at most over ≡ Err CutOff
  unfolding count_fault
  count_cut h = rw (lt-ltb _ _ h)

  module _ (whole : at + 2 ≤ length s) where
    pub count-large : most < word s at → count_fault s at most over ≡ Err over
    unfolding count_fault
    count-large h = rw (le-ltb _ _ whole, lt-ltb _ _ h)

    pub count_fits : word s at ≤ most → count_fault s at most over ≡ Ok tt
    unfolding count_fault
    count_fits h = rw (le-ltb _ _ whole, le-ltb _ _ h)

  -- a count without a fault is whole, and not over the most
  pub count-fine : count_fault s at most over ≡ Ok tt → (at + 2 ≤ length s) × (word s at ≤ most)
  count-fine e =
      elim (dec_lt (length s) (at + 2)) [
        | yes short ↦ never _ _ e (count_cut short)
        | no h ↦
            let whole : at + 2 ≤ length s = omega arith in
            elim (dec_lt most (word s at)) [
              | yes large ↦ never _ _ e (count-large whole large)
              | no small ↦ (whole, omega arith)
            ]
      ]

  module _ (width : ℕ) (checked : Checked) where
    pub section-fault :
        (why : Refusal) → count_fault s at most over ≡ Err why → section_by s at most over width checked ≡ Err why
    section-fault why e = rw e

    pub section-fits :
        count_fault s at most over ≡ Ok tt →
        section_by s at most over width checked ≡ section_of checked (word s at) (at + 2) width
    section-fits e = rw e

--------------------------------------------------------------------------------
-- The file

module _ (K : ℕ) (f : Form) (s : List ℕ) where
  pub cards-fault : (why : Refusal) → section_at f s 0 ≡ Err why → reading_in K f s ≡ Err why
  unfolding reading_in
  cards-fault why e = rw e

  module _ (cards card_at next : ℕ) (cards-read : section_at f s 0 ≡ Ok (read_section cards card_at next)) where
    pub shops-fault : (why : Refusal) → section_at f s next ≡ Err why → reading_in K f s ≡ Err why
    unfolding reading_in
    shops-fault why e = rw (cards-read, e)

    module _ (shops shop_at after : ℕ) (shops-read : section_at f s next ≡ Ok (read_section shops shop_at after)) where
      pub claims-fault : (why : Refusal) → claims_at K s after cards shops ≡ Err why → reading_in K f s ≡ Err why
      unfolding reading_in
      claims-fault why e = rw (cards-read, shops-read, e)

      module _ (rows row_at end : ℕ) (claims-read : claims_at K s after cards shops ≡ Ok (read_section rows row_at end)) where
        pub trailing : end < length s → reading_in K f s ≡ Err Trailing
        unfolding reading_in
        trailing h = rw (cards-read, shops-read, claims-read, lt-ltb _ _ h)

        pub accepted :
            length s ≤ end →
            reading_in K f s
            ≡ Ok
            (record {
              week = f.week;
              day = f.day;
              cards = cards;
              shops = shops;
              rows = rows;
              card_at = card_at;
              shop_at = shop_at;
              row_at = row_at;
            })
        unfolding reading_in
        accepted h = rw (cards-read, shops-read, claims-read, le-ltb _ _ h)
