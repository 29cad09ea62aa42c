-- Laws for those who ask what was found of the files.
--   one-member one-reason  a judgement is one
--   not-member not-refused not-both    the cases exclude each other
--   member-place           the place of the file at fault is below eight
--   part_bytes             the bytes of a file are bytes of the buffer
--   Found ready-found      where the files are ready, they are all accepted, and the sizes are theirs
use mathlib.Core.Path.{◌≡◌, refl, sym, ap, subst, ◌∙◌}
use mathlib.Core.Bool.{true}
use mathlib.Core.List.{List}
use mathlib.Core.Logic.{inl, inr}
use Prim.Native.Nat.{ℕ, ◌+◌, ◌<◌}
use native.Mathlib.Decide.{dec_lt}
use native.Mathlib.Omega.{arith}
use lib.ListN.{length, get_or, drop, length-take, get_or-eq_default}
use lib.Seq.{get_or-take, get_or-drop}
use Rattle.theory.specs.Sum.{sum}
use Rattle.theory.proofs.TestLaws.{either}
use Rattle.claimfile.specs.File.{new_week}
use Rattle.reader.specs.declared.Refusal.{Refusal}
use Rattle.reader.proofs.AcceptedLaws.{accepted-sound, accepted-kinds, accepted-day}
use Rattle.reader.proofs.StoredLaws.{new-limits}
use Rattle.refusal.specs.declared.Reason.{Reason}
use Rattle.refusal.specs.declared.Reason.TheVariants.{Files, Large}
use Rattle.members.specs.declared.Sizes.{Sizes}
use Rattle.members.specs.Members.{most_files, length_of, member_of, reading_of, layouts_of, lengths_fit, Gathered, AllOf, Faulty, gathered}
use Rattle.members.specs.Members.{too_large, judged_by, judged}
use Rattle.members.specs.Accepted.{AllRead}
use Rattle.members.proofs.GatherLaws.{fit-lengths, fault-place, Taken, gathered-taken, sizes-large, sizes-ready, small-enough, judged-files, judged-by}
use Rattle.members.specs.declared.Fault.TheVariants.{Member, Whole}
use Rattle.std.specs.Prelude.{Ok, Err, Result}
use Rattle.members.specs.declared.Fault.{Fault}

pub one-member : (g : Result Sizes Fault) (j k : ℕ) (v w : Refusal) → g ≡ Err (Member j v) → g ≡ Err (Member k w) → (j ≡ k) × (v ≡ w)
one-member g j k v w p q = (cc, cc)

pub one-reason : (g : Result Sizes Fault) (v w : Reason) → g ≡ Err (Whole v) → g ≡ Err (Whole w) → v ≡ w
one-reason g v w p q = cc

one_size : (g : Result Sizes Fault) (y z : Sizes) → g ≡ Ok y → g ≡ Ok z → y ≡ z
one_size g y z p q = cc

pub not-member : {A : Type 0} (g : Result Sizes Fault) (k : ℕ) (why : Refusal) (z : Sizes) → g ≡ Err (Member k why) → g ≡ Ok z → A
not-member g k why z p q =
    let e : ◌≡◌ {A = ℕ} 0 1 = cc in
    absurd (omega arith)

pub not-refused : {A : Type 0} (g : Result Sizes Fault) (why : Reason) (z : Sizes) → g ≡ Err (Whole why) → g ≡ Ok z → A
not-refused g why z p q =
    let e : ◌≡◌ {A = ℕ} 0 1 = cc in
    absurd (omega arith)

pub not-both : {A : Type 0} (g : Result Sizes Fault) (k : ℕ) (why : Refusal) (v : Reason) → g ≡ Err (Member k why) → g ≡ Err (Whole v) → A
not-both g k why v p q =
    let e : ◌≡◌ {A = ℕ} 0 1 = cc in
    absurd (omega arith)

module _ (day : ℕ) (b ls : List ℕ) (k : ℕ) (why : Refusal) (is : judged day b ls ≡ Err (Member k why)) where
  place : lengths_fit (length b) ls ≡ true → (g : Gathered) → gathered (reading_of day b ls) (length ls) ≡ g → k < most_files
  place fit (Faulty j w) found =
      omega (
        arith,
        fault-place (reading_of day b ls) (length ls) j w found,
        (fit-lengths (length b) ls fit).few,
        (one-member (judged day b ls) k j why w is (sym (judged-by day b ls fit) ∙ ap judged_by found)).0,
      )
  place fit (AllOf z) found =
      let told : judged day b ls ≡ judged_by (AllOf z) = sym (judged-by day b ls fit) ∙ ap judged_by found in
      elim (either (too_large z)) [
        | inl large ↦ not-both (judged day b ls) k why Large is (told ∙ sym (sizes-large z large))
        | inr small ↦ not-member (judged day b ls) k why z is (told ∙ sym (sizes-ready z small))
      ]

  pub member-place : k < most_files
  member-place =
      elim (either (lengths_fit (length b) ls)) [
        | inr no-fit ↦ not-both (judged day b ls) k why Files is (sym (judged-files day b ls no-fit))
        | inl fit ↦ place fit (gathered (reading_of day b ls) (length ls)) refl
      ]

pub part_bytes : (b ls : List ℕ) → ((i : ℕ) → get_or b i 0 < 256) → (k i : ℕ) → get_or (member_of b ls k) i 0 < 256
part_bytes b ls bytes k i =
    let at = sum k (length_of ls) in
    let len = length_of ls k in
    elim (dec_lt i (length (member_of b ls k))) [
      | no h ↦ omega (arith, get_or-eq_default {A = ℕ} (member_of b ls k) 0 {n = i} (omega arith))
      | yes h ↦
          omega (
            arith,
            get_or-take len (drop at b) i 0 (omega (arith, length-take len (drop at b))),
            get_or-drop at b i 0,
            bytes (at + i),
          )
    ]

module _ (day : ℕ) (b ls : List ℕ) (bytes : (i : ℕ) → get_or b i 0 < 256) (z : Sizes) (ready : judged day b ls ≡ Ok z) where
  pub record Found : Type 0 where
    pub read : AllRead day b ls
    pub taken : Taken (reading_of day b ls) (length ls) z

  by : lengths_fit (length b) ls ≡ true → (g : Gathered) → gathered (reading_of day b ls) (length ls) ≡ g → Found
  by fit (Faulty k why) is = not-member (judged day b ls) k why z (sym (judged-by day b ls fit) ∙ ap judged_by is) ready
  by fit (AllOf y) is =
      let told : judged day b ls ≡ judged_by (AllOf y) = sym (judged-by day b ls fit) ∙ ap judged_by is in
      elim (either (too_large y)) [
        | inl large ↦ not-refused (judged day b ls) Large z (told ∙ sym (sizes-large y large)) ready
        | inr small ↦
            let t = gathered-taken (reading_of day b ls) (length ls) y is in
            let fits = small-enough y small in
            record {
              read = record {
                fit = fit;
                each = t.each;
                all = record {
                  sound = λ k h. accepted-sound (new_week day) (member_of b ls k) (layouts_of day b ls k) (t.each k h);
                  kinds = λ k h. accepted-kinds (new_week day) (member_of b ls k) (layouts_of day b ls k) (t.each k h);
                  bytes = part_bytes b ls bytes;
                  today = λ k h. accepted-day (new_week day) (member_of b ls k) (layouts_of day b ls k) (t.each k h);
                  new = λ k h. new-limits (new_week day) (member_of b ls k) (layouts_of day b ls k) (t.each k h) refl;
                  cards_most = omega (arith, t.cards, fits.0);
                  shops_most = omega (arith, t.shops, fits.1);
                  rows_most = omega (arith, t.rows, fits.2);
                };
              };
              taken =
                  subst (Taken (reading_of day b ls) (length ls))
                  (one_size (judged day b ls) y z (told ∙ sym (sizes-ready y small)) ready) t;
            }
      ]

  pub ready-found : Found
  ready-found =
      elim (either (lengths_fit (length b) ls)) [
        | inr no-fit ↦ not-refused (judged day b ls) Files z (sym (judged-files day b ls no-fit)) ready
        | inl fit ↦ by fit (gathered (reading_of day b ls) (length ls)) refl
      ]
