-- Laws of the answers of fits and rank.
--   ranked-value ranked-side   the answer of fits and rank for an accepted file, one law a case
--   answered-by                an answer that is as defined says what it means, and its rank is at most 512
use mathlib.Core.Path.{◌≡◌, refl, sym, ap, ◌∙◌, subst}
use mathlib.Core.List.{List}
use mathlib.Core.Logic.{inl, inr}
use Prim.Native.Nat.{ℕ, ◌≤◌, ◌<◌, zero-le}
use native.Mathlib.Decide.{dec_lt}
use native.Mathlib.Omega.{arith}
use borrow.Author.Tests.{lt-ltb, le-ltb}
use Rattle.theory.specs.Bounds.{max_rows}
use Rattle.theory.specs.Incidence.{Selection}
use Rattle.theory.specs.Matroid.{Rank, row}
use Rattle.theory.specs.Network.{FitsSide}
use Rattle.theory.proofs.SumLaws.{sum_bound}
use Rattle.reader.specs.Reading.{reading_in, Reading}
use Rattle.claimfile.specs.Day.{instance_of}
use Rattle.claimfile.specs.declared.Form.{Form}
use Rattle.claimfile.specs.declared.Layout.{Layout}
use Rattle.reader.proofs.AcceptedLaws.{accords-in}
use Rattle.refusal.specs.declared.Reason.{Reason}
use Rattle.refusal.specs.declared.Reason.TheVariants.{File, Value}
use Rattle.refusal.proofs.TableLaws.{number-some}
use Rattle.sides.specs.declared.Found.{Found}
use Rattle.sides.specs.Found.{found_on, Told}
use Rattle.limits.specs.Answers.{entered_in}
use Rattle.limits.specs.Answers.{ranked_by, ranked_in, ranked_numbers, AnsweredIn}
use Rattle.sides.specs.Ready.{Ready}
use Rattle.sides.proofs.FoundLaws.{found-means}
use Rattle.limits.proofs.EntryLaws.{entered_by_lem, entering}
use Rattle.std.specs.Prelude.{Ok, Err, Result}

--------------------------------------------------------------------------------
-- Fits and rank

module _ (s sel : List ℕ) (side : ℕ) where
  ranked-by : (K : ℕ) (f : Form) (x : Result Layout Reason) → entered_in K f s sel ≡ x → ranked_in K f s sel side ≡ ranked_by s sel side x
  unfolding ranked_in
  ranked-by K f x e = ap (ranked_by s sel side) e

  module _ (l : Layout) where
    pub ranked-value : 1 < side → Err Value ≡ ranked_by s sel side (Ok l)
    ranked-value h = rw (lt-ltb _ _ h)

    pub ranked-side :
        side ≤ 1 → (found : Found) → found ≡ found_on (instance_of s l) sel side → Ok found ≡ ranked_by s sel side (Ok l)
    ranked-side h found e = rw (le-ltb _ _ h) (ap Ok e)

-- a rank is at most the number of rows
rank-rows :
    (N : ℕ) (Fit : (ℕ → ℕ) → Type 0) (X : ℕ → ℕ) (n : ℕ) → Rank N (λ Y. Selection N Y × Fit Y) X n → n ≤ N
rank-rows N Fit X n k = omega (arith, k.is, sum_bound N 1 k.ind.0)

module _ (K : ℕ) (f : Form) (s sel : List ℕ) (side : ℕ) (r : Result Found Reason) (is : r ≡ ranked_in K f s sel side) where
  -- a refusal's number is not 0
  not-refused : {A : Type 0} (why : Reason) → (ranked_numbers r).refusal ≡ 0 → r ≡ Err why → A
  not-refused why none e = absurd (omega (arith, number-some why, ap (λ x. (ranked_numbers x).refusal) e))

  means-entered :
      (l : Layout) → (ranked_numbers r).refusal ≡ 0 → entered_in K f s sel ≡ Ok l → Ready s sel l →
      Told (instance_of s l) sel side (ranked_numbers r).fits (ranked_numbers r).rank
  means-entered l none e ready =
      elim (dec_lt 1 side) [
        | yes h ↦ not-refused Value none (by ∙ sym (ranked-value s sel side l h))
        | no h ↦
            subst (λ (x : Result Found Reason). Told (instance_of s l) sel side (ranked_numbers x).fits (ranked_numbers x).rank)
            (ranked-side s sel side l (omega arith) (found_on (instance_of s l) sel side) refl ∙ sym by)
            (found-means s sel l ready side)
      ]
    where
      by : r ≡ ranked_by s sel side (Ok l)
      by = is ∙ ranked-by s sel side K f (Ok l) e

  means :
      (l : Layout) → reading_in K f s ≡ Ok l → (ranked_numbers r).refusal ≡ 0 →
      Told (instance_of s l) sel side (ranked_numbers r).fits (ranked_numbers r).rank
  means l e none =
      elim (entering K f s sel l e) [
        | inl q ↦ not-refused q.0 none (is ∙ ranked-by s sel side K f (Err q.0) q.1)
        | inr q ↦ means-entered l none q.0 q.1
      ]

  told-most : (x : Result Found Reason) → r ≡ x → (y : Reading) → reading_in K f s ≡ y → (ranked_numbers x).rank ≤ max_rows
  told-most (Err why) e y h = zero-le
  told-most (Ok found) e (Err why) h =
      not-refused (File why) (ap (λ x. (ranked_numbers x).refusal) e)
      (is ∙ ranked-by s sel side K f (Err (File why)) (entered_by_lem K f s sel (Err why) h))
  told-most (Ok found) e (Ok l) h =
      let d = instance_of s l in
      omega (
        arith,
        rank-rows l.rows (FitsSide d.net d.limit side) (row sel) _
            (means l h (ap (λ x. (ranked_numbers x).refusal) e)).rank,
        ap (λ x. (ranked_numbers x).rank) e,
        (accords-in K f s l h).sound.rows_most,
      )

  answered : AnsweredIn K f s sel side r
  answered =
      record { is = is; numbers = ap ranked_numbers is; most = told-most r refl (reading_in K f s) refl; means = means }

-- the same of what the call answers: y is the entry that was found, x what it is
pub answered-by :
    (K : ℕ) (f : Form) (s sel : List ℕ) (side : ℕ) (r : Result Found Reason) (y x : Result Layout Reason) → y ≡ entered_in K f s sel → y ≡ x →
    r ≡ ranked_by s sel side x →
    AnsweredIn K f s sel side r
answered-by K f s sel side r y x e q is = answered K f s sel side r (is ∙ sym (ranked-by s sel side K f x (sym e ∙ q)))
