-- Laws of what settling under the second terms answers and leaves: what is told of a day is what its best choice comes to.
--   told-short told-dayless told-closed    what is told of a day, by the lent buffers and the day that the call names
--   kinds-short kinds-dayless  the answer for a day where a buffer is too short, or where the week does not have the day
--   kinds-closed           the answer for a day where they are long enough
--   kinds-refused kinds-accepted       the answer for a file, by its reading
use mathlib.Core.Path.{◌≡◌, refl, sym, ap, ◌∙◌, subst}
use mathlib.Core.List.{List, ◌++◌}
use Prim.Native.Nat.{ℕ, ◌≤◌, ◌<◌}
use native.Mathlib.Omega.{arith}
use lib.ListN.{length, take, drop}
use borrow.Author.Tests.{lt-leb, le-leb}
use Rattle.theory.specs.Matroid.{row}
use Rattle.theory.specs.Network.{Instance}
use Rattle.theory.specs.Priority.{kept}
use Rattle.claimfile.specs.declared.Layout.{Layout}
use Rattle.reader.specs.declared.Refusal.{Refusal}
use Rattle.claimfile.specs.File.{second_terms, days}
use Rattle.reader.specs.Reading.{reading_kinds, Reading}
use Rattle.claimfile.specs.Day.{instance_of}
use Rattle.reader.proofs.AcceptedLaws.{one-layout, one-refusal, not-both}
use Rattle.refusal.specs.declared.Reason.TheVariants.{File, Short, Day}
use Rattle.kinds.specs.declared.KindTotals.{KindTotals}
use Rattle.closing.specs.Settle.{needed, scratch_for, Enough, Lacks, best_row_in}
use Rattle.closing.specs.Close.{ClosedIn}
use Rattle.closing.specs.ClosesIn.{ClosesIn}
use Rattle.kinds.specs.Settle.{count_of, told_with, settled_kinds_numbers, told_kinds_on, told_kinds_for}
use Rattle.kinds.specs.Settle.{SettlesKindsOn, SettlesKinds}
use Rattle.closing.proofs.ClosesLaws.{best-count, best-all, best-sum, parts_in}
use Rattle.closing.proofs.AnswerLaws.{not-enough, lacks-true, lacks-false}
use Rattle.std.specs.Prelude.{Ok, Err, Result}
use Rattle.refusal.specs.declared.Reason.{Reason}

--------------------------------------------------------------------------------
-- What is told

told_same :
    (f g : ℕ → ℕ) (a b x y : ℕ) → ((k : ℕ) → k < second_terms → f k ≡ g k) → a ≡ b → x ≡ y → told_with 0 f a x ≡ told_with 0 g b y
told_same f g a b x y same p q =
    rw (same 0 (omega arith), same 1 (omega arith), same 2 (omega arith), same 3 (omega arith), p, q)

module _ (i : Instance) (d : ℕ) (ch sheet t : List ℕ) where
  told-short : Lacks i.net ch sheet t → settled_kinds_numbers (Err Short) ≡ told_kinds_on i d ch sheet t
  unfolding told_kinds_on
  told-short h = rw (lacks-true i.net ch sheet t h)

  told-dayless : Enough i.net ch sheet t → days ≤ d → settled_kinds_numbers (Err Day) ≡ told_kinds_on i d ch sheet t
  unfolding told_kinds_on
  told-dayless enough over = rw (lacks-false i.net ch sheet t enough, le-leb _ _ over)

  told-closed :
      (ch' sheet' t' : List ℕ) (a : KindTotals) →
      ClosesIn second_terms i ch sheet t ch' sheet' t' (count_of a) a.kept a.total → Enough i.net ch sheet t → d < days →
      settled_kinds_numbers (Ok a) ≡ told_kinds_on i d ch sheet t
  unfolding told_kinds_on
  told-closed ch' sheet' t' a C enough known =
      rw (lacks-false i.net ch sheet t enough, lt-leb _ _ known)
      (told_same (count_of a) (kept i.net.rows i.kind (best_row_in second_terms i)) _ _ _ _
      (λ k h. C.counts k h ∙ best-count second_terms i (row ch') C.best k)
      (C.kept ∙ best-all second_terms i (row ch') C.best)
      (C.total ∙ C.certified.equal ∙ best-sum second_terms i (row ch') C.best))

  ------------------------------------------------------------------------------
  -- The answers for a day

  pub kinds-short : (r : Result KindTotals Reason) → Lacks i.net ch sheet t → r ≡ Err Short → SettlesKindsOn i d ch sheet t ch sheet t r
  kinds-short r short e = record {
    short = λ h. (e, record { choices = refl; sheets = refl; cells = refl });
    dayless = λ enough over. not-enough i.net ch sheet t enough short;
    closed = λ enough known. not-enough i.net ch sheet t enough short;
    told = ap settled_kinds_numbers e ∙ told-short short;
  }

  pub kinds-dayless :
      (r : Result KindTotals Reason) → Enough i.net ch sheet t → days ≤ d → r ≡ Err Day → SettlesKindsOn i d ch sheet t ch sheet t r
  kinds-dayless r enough over e = record {
    short = λ h. not-enough i.net ch sheet t enough h;
    dayless = λ h k. (e, record { choices = refl; sheets = refl; cells = refl });
    closed = λ h known. absurd (omega arith);
    told = ap settled_kinds_numbers e ∙ told-dayless enough over;
  }

  kinds-closes :
      (ch' sheet' t' : List ℕ) (a : KindTotals) → Enough i.net ch sheet t → d < days →
      ClosesIn second_terms i ch sheet t ch' sheet' t' (count_of a) a.kept a.total →
      SettlesKindsOn i d ch sheet t ch' sheet' t' (Ok a)
  kinds-closes ch' sheet' t' a enough known C = record {
    short = λ h. not-enough i.net ch sheet t enough h;
    dayless = λ h over. absurd (omega arith);
    closed = λ h k. (a, refl, C);
    told = told-closed ch' sheet' t' a C enough known;
  }

  -- m marks and n cells are the needed ones
  module _
      (m n : ℕ) (e : m ≡ needed i.net) (f : n ≡ scratch_for i.net) (four : (c : ℕ) → c < i.net.rows → i.kind c < second_terms)
    where
      pub kinds-closed :
          (ch' sheet' t' : List ℕ) → length ch' ≡ length (take i.net.rows ch) → length sheet' ≡ length (take m sheet) →
          length t' ≡ length (take n t) → (a : KindTotals) → Enough i.net ch sheet t → d < days →
          ClosedIn second_terms i ch' sheet' t' (count_of a) a.kept a.total →
          SettlesKindsOn i d ch sheet t (ch' ++ drop i.net.rows ch) (sheet' ++ drop m sheet) (t' ++ drop n t) (Ok a)
      kinds-closed ch' sheet' t' choices sheets cells a enough known C =
          kinds-closes _ _ _ a enough known
          (parts_in second_terms i ch sheet t m n e f four ch' sheet' t' choices sheets cells (count_of a) a.kept a.total enough C)

--------------------------------------------------------------------------------
-- The answers for a file

module _ (d : ℕ) (s ch sheet t : List ℕ) where
  pub kinds-refused :
      (why : Refusal) (r : Result KindTotals Reason) → reading_kinds d s ≡ Err why → r ≡ Err (File why) →
      SettlesKinds d s ch sheet t ch sheet t r
  kinds-refused why r is e = record {
    refused = λ v p. (
      e ∙ ap (λ (x : Refusal). Err (File x)) (one-refusal (reading_kinds d s) why v is p),
      record { choices = refl; sheets = refl; cells = refl },
    );
    settled = λ l p. not-both (reading_kinds d s) l why p is;
    told = ap settled_kinds_numbers e ∙ ap (λ (x : Reading). told_kinds_for s x ch sheet t) (sym is);
  }

  pub kinds-accepted :
      (ch' sheet' t' : List ℕ) (r : Result KindTotals Reason) (l : Layout) → reading_kinds d s ≡ Ok l →
      SettlesKindsOn (instance_of s l) l.day ch sheet t ch' sheet' t' r → SettlesKinds d s ch sheet t ch' sheet' t' r
  kinds-accepted ch' sheet' t' r l is S = record {
    refused = λ why p. not-both (reading_kinds d s) l why is p;
    settled = λ k p.
        subst (λ (x : Layout). SettlesKindsOn (instance_of s x) x.day ch sheet t ch' sheet' t' r)
        (one-layout (reading_kinds d s) l k is p) S;
    told = S.told ∙ ap (λ (x : Reading). told_kinds_for s x ch sheet t) (sym is);
  }
