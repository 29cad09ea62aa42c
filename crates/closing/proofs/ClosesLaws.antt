-- Laws of a closing with K kinds: the choice, the counts, the cover and the totals, said of the whole buffers. The first terms, in
-- document 01's words, are the case of two kinds, and the second that of four.
--   closed_in              what closing leaves in the lent parts of the buffers, said of the whole buffers
--   parts_in               the same of parts whose lengths are the needed ones
--   best-count best-all best-sum   what a choice comes to that agrees with the best one, by the best one
--   closes_in in-closes    a closing under the first terms is one with two kinds, and the other way round
--   closed-two             what closing leaves under the first terms, with two kinds
use mathlib.Core.Path.{◌≡◌, refl, sym, ap, ◌∙◌, subst}
use mathlib.Core.List.{List, ◌++◌}
use Prim.Native.Nat.{ℕ, zero, suc, ◌+◌, ◌*◌, ◌-◌, ◌^◌, ◌<◌}
use native.Mathlib.Omega.{arith}
use lib.ListN.{length, take, drop}
use lib.Seq.{length-take-le}
use Rattle.theory.specs.Incidence.{size, worth}
use Rattle.theory.specs.Matroid.{row}
use Rattle.theory.specs.Network.{Instance}
use Rattle.theory.specs.Priority.{kept, weight_of}
use Rattle.theory.specs.Best.{Agree}
use Rattle.theory.specs.Sheet.{Certified}
use Rattle.theory.proofs.SumLaws.{sum-cong}
use Rattle.theory.proofs.FirstLaws.{agree-sym, agree_trans}
use Rattle.theory.proofs.BestLaws.{kept-agree, two-kinds}
use Rattle.theory.proofs.LevelLaws.{certified-cong}
use Rattle.theory.proofs.ChoiceLaws.{only-choice}
use Rattle.instance.proofs.RowLaws.{power-one}
use Rattle.closing.specs.declared.Totals.{Totals}
use Rattle.closing.specs.Settle.{needed, scratch_for, Enough, best_row_in, mark_of, claim_mark_of, Closes}
use Rattle.closing.specs.Close.{SettlementIn, ClosedBy, ClosedIn}
use Rattle.closing.specs.ClosesIn.{first_counts, ClosesIn}
use Rattle.closing.proofs.CountLaws.{two-sum}
use Rattle.closing.proofs.PartLaws.{front_at, front_rest}

--------------------------------------------------------------------------------
-- The whole buffers, when their parts have come back

module _
    (K : ℕ) (i : Instance) (ch sheet t ch' sheet' t' : List ℕ) (choices : length ch' ≡ i.net.rows)
    (sheets : length sheet' ≡ needed i.net) (cells : length t' ≡ scratch_for i.net)
    (kinds : (c : ℕ) → c < i.net.rows → i.kind c < K)
  where
    abbrev choice : List ℕ
    choice = ch' ++ drop i.net.rows ch

    abbrev marks : List ℕ
    marks = sheet' ++ drop (needed i.net) sheet

    abbrev weight : ℕ → ℕ
    weight = weight_of i.net.rows i.kind

    abbrev top : ℕ
    top = (i.net.rows + 1) ^ (K - 1)

    same-choice : Agree i.net.rows (row choice) (row ch')
    same-choice = front_at ch ch' i.net.rows choices

    same-worth : worth i.net.rows weight (row ch') ≡ worth i.net.rows weight (row choice)
    same-worth = sum-cong i.net.rows (λ c h. ap (λ x. x * weight c) (sym (same-choice c h)))

    certified-front :
        Certified i.net i.limit weight top (row ch') (mark_of sheet') (claim_mark_of i.net sheet') →
        Certified i.net i.limit weight top (row choice) (mark_of marks) (claim_mark_of i.net marks)
    certified-front C =
        let D = certified-cong i.net i.limit weight top (row ch') (mark_of sheet')
        (claim_mark_of i.net sheet') (mark_of marks) (claim_mark_of i.net marks)
        (λ v h. front_at sheet sheet' (needed i.net) sheets v (omega arith))
        (λ c h. front_at sheet sheet' (needed i.net) sheets (i.net.groups + c) (omega arith)) C in
        record {
          group_range = D.group_range;
          row_range = D.row_range;
          cover = D.cover;
          equal = D.equal ∙ same-worth;
        }

    pub closed_in :
        (count : ℕ → ℕ) (all sum : ℕ) → Enough i.net ch sheet t → ClosedIn K i ch' sheet' t' count all sum →
        ClosesIn K i ch sheet t choice marks (t' ++ drop (scratch_for i.net) t) count all sum
    closed_in count all sum enough C =
        let whole = certified-front C.settlement.certified in
        let best = agree_trans i.net.rows same-choice C.settlement.best in
        record {
          choice = only-choice i.net i.limit K i.kind kinds best;
          best = best;
          counts = λ k h.
              C.counted.counts k h
              ∙ ap (λ f. f k) (kept-agree i.net.rows i.kind (agree-sym i.net.rows same-choice));
          kept = C.counted.kept ∙ sum-cong i.net.rows (agree-sym i.net.rows same-choice);
          total = C.counted.total ∙ same-worth ∙ sym whole.equal;
          certified = whole;
          clear = λ k h. front_at t t' (scratch_for i.net) cells k h ∙ C.clear k;
          choice_rest = front_rest ch ch' i.net.rows choices enough.choices;
          sheet_rest = front_rest sheet sheet' (needed i.net) sheets enough.sheets;
          scratch_rest = front_rest t t' (scratch_for i.net) cells enough.cells;
        }

-- the parts that were lent have m marks and n cells, which are the needed numbers
pub parts_in :
    (K : ℕ) (i : Instance) (ch sheet t : List ℕ) (m n : ℕ) → m ≡ needed i.net → n ≡ scratch_for i.net →
    ((c : ℕ) → c < i.net.rows → i.kind c < K) → (ch' sheet' t' : List ℕ) → length ch' ≡ length (take i.net.rows ch) →
    length sheet' ≡ length (take m sheet) → length t' ≡ length (take n t) → (count : ℕ → ℕ) (all sum : ℕ) → Enough i.net ch sheet t →
    ClosedIn K i ch' sheet' t' count all sum →
    ClosesIn K i ch sheet t (ch' ++ drop i.net.rows ch) (sheet' ++ drop m sheet) (t' ++ drop n t) count all sum
parts_in K i ch sheet t m n e f kinds ch' sheet' t' choices sheets cells count all sum enough C =
    subst (λ (x : ℕ). ClosesIn K i ch sheet t whole (sheet' ++ drop x sheet) (t' ++ drop n t) count all sum) (sym e)
    (subst (λ (x : ℕ). ClosesIn K i ch sheet t whole (sheet' ++ drop (needed i.net) sheet) (t' ++ drop x t) count all sum) (sym f)
    (closed_in K i ch sheet t ch' sheet' t' (choices ∙ length-take-le i.net.rows ch enough.choices)
    (sheets ∙ length-take-le m sheet (omega (arith, enough.sheets)) ∙ e)
    (cells ∙ length-take-le n t (omega (arith, enough.cells)) ∙ f) kinds count all sum enough C))
  where
    whole : List ℕ
    whole = ch' ++ drop i.net.rows ch

--------------------------------------------------------------------------------
-- What is answered, by the best choice

module _ (K : ℕ) (i : Instance) (X : ℕ → ℕ) (best : Agree i.net.rows X (best_row_in K i)) where
  pub best-count : (k : ℕ) → kept i.net.rows i.kind X k ≡ kept i.net.rows i.kind (best_row_in K i) k
  best-count k = ap (λ f. f k) (kept-agree i.net.rows i.kind best)

  pub best-all : size i.net.rows X ≡ size i.net.rows (best_row_in K i)
  best-all = sum-cong i.net.rows best

  pub best-sum :
      worth i.net.rows (weight_of i.net.rows i.kind) X
      ≡ worth i.net.rows (weight_of i.net.rows i.kind) (best_row_in K i)
  best-sum = sum-cong i.net.rows (λ c h. ap (λ (x : ℕ). x * weight_of i.net.rows i.kind c) (best c h))

--------------------------------------------------------------------------------
-- The first terms are the case of two kinds

module _
    (i : Instance) (two : (c : ℕ) → c < i.net.rows → i.kind c < 2) (ch sheet t ch' sheet' t' : List ℕ) (a : Totals)
  where
    abbrev N : ℕ
    N = i.net.rows

    abbrev Sheet : ℕ → Type 0
    Sheet top = Certified i.net i.limit (weight_of N i.kind) top (row ch') (mark_of sheet') (claim_mark_of i.net sheet')

    first-counts :
        a.earned ≡ kept N i.kind (row ch') 1 → a.kept ≡ size N (row ch') → (k : ℕ) → k < 2 →
        first_counts a k ≡ kept N i.kind (row ch') k
    first-counts earned all zero h = omega (arith, two-sum N i.kind two (row ch'))
    first-counts earned all (suc zero) h = earned
    first-counts earned all (suc (suc k)) h = absurd (omega arith)

    pub closes_in : Closes i ch sheet t ch' sheet' t' a → ClosesIn 2 i ch sheet t ch' sheet' t' (first_counts a) a.kept a.total
    closes_in C = record {
      choice = (two-kinds N i.kind two).1 C.choice;
      best = C.best;
      counts = first-counts C.earned C.kept;
      kept = C.kept;
      total = C.total;
      certified = subst Sheet (power-one (N + 1) 1 refl) C.certified;
      clear = C.clear;
      choice_rest = C.choice_rest;
      sheet_rest = C.sheet_rest;
      scratch_rest = C.scratch_rest;
    }

    pub closed-two : ClosedBy i ch' sheet' t' a → ClosedIn 2 i ch' sheet' t' (first_counts a) a.kept a.total
    closed-two C = record {
      settlement = subst (λ (top : ℕ). SettlementIn 2 top i ch' sheet') (power-one (N + 1) 1 refl) C.settlement;
      counted = record {
        counts = first-counts C.counted.earned C.counted.kept;
        kept = C.counted.kept;
        total = C.counted.total;
      };
      clear = C.clear;
    }

    pub in-closes :
        ClosesIn 2 i ch sheet t ch' sheet' t' (first_counts a) a.kept a.total → Closes i ch sheet t ch' sheet' t' a
    in-closes C = record {
      choice = (two-kinds N i.kind two).0 C.choice;
      best = C.best;
      earned = C.counts 1 (omega arith);
      kept = C.kept;
      total = C.total;
      certified = subst Sheet (sym (power-one (N + 1) 1 refl)) C.certified;
      clear = C.clear;
      choice_rest = C.choice_rest;
      sheet_rest = C.sheet_rest;
      scratch_rest = C.scratch_rest;
    }
