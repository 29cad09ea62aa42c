-- What settling under the second terms promises, as theorems that a reader can cite (document 02, E12). Those of a day and of a closing
-- are for any number K of kinds: the first terms are the case of two (`closes_in`, `in-closes`, closing/proofs/ClosesLaws.antt), the
-- second that of four. `Y` stands for any choice of the rows that fits both sides.
--   one-best               a day has exactly one best choice
--   one-best-kinds         so has every file that is accepted under the second terms
--   choice-fits            the choice fits both sides
--   most-of                no Y that keeps as many rows of each higher kind has more rows of kind k than are answered
--   first_rows             with as many of each kind, Y is the kept choice, or the lowest row that only one of them holds is kept
--   only-choice            a best choice is the kept choice
--   covered                every claim is covered
--   totals-equal           the total answered, which is the sheet's, is the weight of the kept rows
--   sheet-bounds           no Y weighs more
--   marks-most             a mark is at most N + 1 to the power K - 1
-- Of the call:
--   number-told            the number told is that of the file's first fault, else 8, else 12, else none
--   ClosedKinds closed-kinds   where the call answers Closed, the file is accepted under the second terms and the above holds of its day
use mathlib.Core.Path.{◌≡◌, refl, sym, ap, ◌∙◌}
use mathlib.Core.Logic.{◌⊎◌}
use mathlib.Core.List.{List}
use Prim.Native.Nat.{ℕ, ◌+◌, ◌-◌, ◌^◌, ◌≤◌, ◌<◌}
use native.Mathlib.Omega.{arith}
use Rattle.theory.specs.Incidence.{Covers, worth}
use Rattle.theory.specs.Matroid.{row}
use Rattle.theory.specs.Network.{Instance, FitsBoth, Choice, on_both}
use Rattle.theory.specs.Formed.{Formed}
use Rattle.theory.specs.Priority.{kept, weight_of}
use Rattle.theory.specs.Best.{First, Agree, Best}
use Rattle.theory.proofs.FirstLaws.{agree-sym, agree_trans}
use Rattle.theory.proofs.PriorityLaws.{lex-same, lex-at}
use Rattle.theory.proofs.LevelLaws.{certified-heaviest}
use Rattle.theory.proofs.ChoiceLaws as choice
use Rattle.claimfile.specs.declared.Layout.{Layout}
use Rattle.claimfile.specs.File.{second_terms, days}
use Rattle.reader.specs.Reading.{reading_kinds, Reading}
use Rattle.claimfile.specs.Day.{network_of, instance_of}
use Rattle.reader.proofs.TermsLaws.{second-kinds}
use Rattle.refusal.specs.declared.Reason.{Reason}
use Rattle.refusal.specs.declared.Reason.TheVariants.{File}
use Rattle.answers.specs.declared.SettleKindsAnswer.{SettleKindsAnswer}
use Rattle.kinds.specs.declared.KindTotals.{KindTotals}
use Rattle.closing.specs.Settle.{Enough, best_row_in, mark_of, claim_mark_of}
use Rattle.closing.specs.ClosesIn.{ClosesIn}
use Rattle.closing.proofs.Demand.{closed-by}
use Rattle.kinds.specs.Settle.{count_of, settled_kinds_numbers, told_kinds_for, SettlesKinds}
use Rattle.std.specs.Prelude.{Ok, Err, Result}

--------------------------------------------------------------------------------
-- The best choice of a day with K kinds

-- the choice with the most rows of kind K - 1, with that number the most of kind K - 2, and so on down to kind 0, and then the first by
-- row order
abbrev pub BestOf : ℕ → Instance → (ℕ → ℕ) → Type 0
BestOf K i X = Best i.net.rows K i.kind (FitsBoth i.net i.limit) X

pub one-best :
    (K : ℕ) (i : Instance) → ((c : ℕ) → c < i.net.rows → i.kind c < K) →
    BestOf K i (best_row_in K i) × ((X : ℕ → ℕ) → BestOf K i X → Agree i.net.rows X (best_row_in K i))
one-best K i kinds = (
  choice.choice-is i.net i.limit K i.kind kinds,
  λ X b. choice.choice-only i.net i.limit K i.kind kinds b,
)

pub one-best-kinds :
    (d : ℕ) (s : List ℕ) (l : Layout) → reading_kinds d s ≡ Ok l →
    BestOf second_terms (instance_of s l) (best_row_in second_terms (instance_of s l))
    × ((X : ℕ → ℕ) → BestOf second_terms (instance_of s l) X → Agree l.rows X (best_row_in second_terms (instance_of s l)))
one-best-kinds d s l is = one-best second_terms (instance_of s l) (second-kinds d s l is)

--------------------------------------------------------------------------------
-- A closed day with K kinds

module _
    (K : ℕ) (i : Instance) (formed : Formed i.net) (kinds : (c : ℕ) → c < i.net.rows → i.kind c < K)
    (ch sheet t ch' sheet' t' : List ℕ) (count : ℕ → ℕ) (all sum : ℕ) (C : ClosesIn K i ch sheet t ch' sheet' t' count all sum)
  where
    pub choice-fits : Choice i.net i.limit (row ch')
    choice-fits = record { bits = C.choice.bits; fits = C.choice.fits }

    pub only-choice : (Y : ℕ → ℕ) → BestOf K i Y → Agree i.net.rows Y (row ch')
    only-choice Y b = agree_trans i.net.rows ((one-best K i kinds).1 Y b) (agree-sym i.net.rows C.best)

    pub covered :
        Covers i.net.rows i.net.groups (on_both i.net) (mark_of sheet') (claim_mark_of i.net sheet')
        (weight_of i.net.rows i.kind)
    covered = C.certified.cover

    pub totals-equal : sum ≡ worth i.net.rows (weight_of i.net.rows i.kind) (row ch')
    totals-equal = C.total ∙ C.certified.equal

    pub marks-most :
        ((v : ℕ) → v < i.net.groups → mark_of sheet' v ≤ (i.net.rows + 1) ^ (K - 1))
        × ((c : ℕ) → c < i.net.rows → claim_mark_of i.net sheet' c ≤ (i.net.rows + 1) ^ (K - 1))
    marks-most = (C.certified.group_range, C.certified.row_range)

    module _ (Y : ℕ → ℕ) (fits : Choice i.net i.limit Y) where
      pub sheet-bounds : worth i.net.rows (weight_of i.net.rows i.kind) Y ≤ sum
      sheet-bounds =
          omega (
            arith,
            totals-equal,
            certified-heaviest i.net formed i.limit (weight_of i.net.rows i.kind) ((i.net.rows + 1) ^ (K - 1))
                (row ch') (mark_of sheet') (claim_mark_of i.net sheet') C.certified Y fits,
          )

      -- "Most claims of kind 3 are kept; with that number, most of kind 2, then of kind 1, then of kind 0"
      pub most-of :
          (k : ℕ) → k < K → ((j : ℕ) → k < j → j < K → kept i.net.rows i.kind Y j ≡ count j) →
          kept i.net.rows i.kind Y k ≤ count k
      most-of k h higher =
          omega (
            arith,
            lex-at K (kept i.net.rows i.kind Y) (kept i.net.rows i.kind (row ch'))
                (C.choice.most Y fits.bits fits.fits) k h (λ j m n. higher j m n ∙ C.counts j n),
            C.counts k h,
          )

      -- "equal choices go by row order"
      pub first_rows :
          ((k : ℕ) → k < K → kept i.net.rows i.kind Y k ≡ count k) →
          Agree i.net.rows (row ch') Y ⊎ First i.net.rows (row ch') Y
      first_rows equal =
          C.choice.first Y fits.bits fits.fits
          (lex-same K (kept i.net.rows i.kind (row ch')) (kept i.net.rows i.kind Y)
          (λ k h. sym (C.counts k h) ∙ sym (equal k h)))

--------------------------------------------------------------------------------
-- The call

pub record ClosedKinds (d : ℕ) (s ch sheet t ch' sheet' t' : List ℕ) (a : KindTotals) : Type 0 where
  pub layout : Layout
  pub accepted : reading_kinds d s ≡ Ok layout
  pub known : layout.day < days
  pub enough : Enough (network_of s layout) ch sheet t
  pub closes : ClosesIn second_terms (instance_of s layout) ch sheet t ch' sheet' t' (count_of a) a.kept a.total

one-total : (r : Result KindTotals Reason) (a b : KindTotals) → r ≡ Ok a → r ≡ Ok b → a ≡ b
one-total r a b p q = cc

not-refused : {A : Type 0} (r : Result KindTotals Reason) (why : Reason) (a : KindTotals) → r ≡ Err why → r ≡ Ok a → A
not-refused r why a p q =
    let z : ◌≡◌ {A = ℕ} 0 1 = cc in
    absurd (omega arith)

module _
    (d : ℕ) (s ch sheet t ch' sheet' t' : List ℕ) (r : Result KindTotals Reason) (S : SettlesKinds d s ch sheet t ch' sheet' t' r)
  where
    pub number-told : (settled_kinds_numbers r).refusal ≡ (told_kinds_for s (reading_kinds d s) ch sheet t).refusal
    number-told = ap (λ (x : SettleKindsAnswer). x.refusal) S.told

    module _ (a : KindTotals) (is : r ≡ Ok a) where
      judged : (x : Reading) → reading_kinds d s ≡ x → ClosedKinds d s ch sheet t ch' sheet' t' a
      judged (Err why) p = not-refused r (File why) a (S.refused why p).0 is
      judged (Ok l) p =
          let D = S.settled l p in
          let closed = closed-by one-total not-refused (network_of s l) l.day ch sheet t r
          (λ (x : KindTotals). ClosesIn second_terms (instance_of s l) ch sheet t ch' sheet' t' (count_of x) x.kept x.total)
          D.short D.dayless D.closed a is in
          record { layout = l; accepted = p; known = closed.0; enough = closed.1; closes = closed.2 }

      pub closed-kinds : ClosedKinds d s ch sheet t ch' sheet' t' a
      closed-kinds = judged (reading_kinds d s) refl
