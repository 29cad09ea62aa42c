-- Document 02, E12: "A file with only kinds 0 and 1 keeps the same rows under either." Such a file, new and in the week layout, has the
-- same reading under either terms (`either-reading`, claimfile): it is accepted under both, with the same layout, or refused under
-- both, by the same fault.
--   either-choice          its best choice with two kinds is the one with four
--   either-best            in document 01's words too: its kept choice is the best choice with four kinds
--   either-rows            where settling under the first terms and settling under the second both close it, whatever was lent to each,
--                          they keep the same rows
--   either-answers         and the answers are the same: as many rows of kinds 0 and 1, none of kind 2 or 3, as many in all, and the
--                          total
--   either_number          closed or refused, with buffers of the same lengths both tell the same number
--   either-ranked          fits and rank under either terms answer the same
use mathlib.Core.Path.{◌≡◌, refl, sym, ap, ◌∙◌, subst}
use mathlib.Core.Logic.{inl, inr}
use mathlib.Core.List.{List}
use Prim.Native.Nat.{ℕ, ◌*◌, ◌-◌}
use native.Mathlib.Omega.{arith}
use lib.ListN.{length}
use lib.Dec.{leb}
use Rattle.theory.specs.Incidence.{worth}
use Rattle.theory.specs.Matroid.{row}
use Rattle.theory.specs.Network.{Network, Instance, FitsBoth}
use Rattle.theory.specs.Priority.{kept, weight_of}
use Rattle.theory.specs.Best.{Agree, Best, Kept}
use Rattle.theory.specs.Search.{best_choice}
use Rattle.theory.proofs.SumLaws.{sum-cong}
use Rattle.theory.proofs.FirstLaws.{agree-sym, agree_trans}
use Rattle.theory.proofs.PriorityLaws.{kept_above}
use Rattle.theory.proofs.BestLaws.{kept-agree, two-kinds}
use Rattle.theory.proofs.KindsLaws.{best-wider, choice-wider}
use Rattle.theory.proofs.TestLaws.{either}
use Rattle.claimfile.specs.declared.Layout.{Layout}
use Rattle.claimfile.specs.File.{first_terms, second_terms, new_week, days}
use Rattle.reader.specs.Reading.{reading, reading_kinds, Reading}
use Rattle.claimfile.specs.Day.{kind_of, limit_of, network_of, instance_of}
use Rattle.claimfile.specs.Sound.{Kinds}
use Rattle.reader.specs.Terms.{OfKinds}
use Rattle.reader.proofs.AcceptedLaws.{one-layout, accepted-kinds}
use Rattle.reader.proofs.TermsLaws.{either-reading, first-second}
use Rattle.closing.specs.declared.Totals.{Totals}
use Rattle.closing.specs.Settle.{settled_numbers, told_on, told_for, lacks, best_row_in, best_row, Closes, Settles}
use Rattle.closing.specs.ClosesIn.{first_counts, ClosesIn}
use Rattle.closing.proofs.ClosesLaws.{closes_in}
use Rattle.closing.proofs.Demand.{ClosedDay, number-told}
use Rattle.kinds.specs.declared.KindTotals.{KindTotals}
use Rattle.kinds.specs.Settle.{count_of, settled_kinds_numbers, told_kinds_on, told_kinds_for, SettlesKinds}
use Rattle.limits.specs.Answers.{entered_by, entered_in, ranked_by, ranked_in, Answered, AnsweredKinds}
use Rattle.terms.proofs.Demand as kinds-demand
use Rattle.terms.proofs.Demand.{ClosedKinds}
use Rattle.std.specs.Prelude.{Ok, Err, Result}
use Rattle.sides.specs.declared.Found.{Found}
use Rattle.refusal.specs.declared.Reason.{Reason}

module _ (d : ℕ) (s : List ℕ) (l : Layout) (is : reading (new_week d) s ≡ Ok l) where
  two : Kinds first_terms s l
  two = accepted-kinds (new_week d) s l is

  pub either-choice :
      best_choice (network_of s l) (limit_of s l) first_terms (kind_of s l) ≡ best_choice (network_of s l) (limit_of s l) second_terms (kind_of s l)
  either-choice = choice-wider (network_of s l) (limit_of s l) first_terms second_terms (kind_of s l) two (omega arith)

  pub either-best :
      (X : ℕ → ℕ) → Kept l.rows (kind_of s l) (FitsBoth (network_of s l) (limit_of s l)) X →
      Best l.rows second_terms (kind_of s l) (FitsBoth (network_of s l) (limit_of s l)) X
  either-best X k =
      best-wider l.rows first_terms second_terms (kind_of s l) two (omega arith) ((two-kinds l.rows (kind_of s l) two).1 k)

  same-best : Agree l.rows (best_row (instance_of s l)) (best_row_in second_terms (instance_of s l))
  same-best c h = ap (λ (x : List ℕ). row x c) either-choice

  -- what each call was lent and left
  module _
      (ch₁ sheet₁ t₁ ch₁' sheet₁' t₁' ch₂ sheet₂ t₂ ch₂' sheet₂' t₂' : List ℕ) (a : Totals) (b : KindTotals)
      (D : ClosedDay (new_week d) s ch₁ sheet₁ t₁ ch₁' sheet₁' t₁' a) (E : ClosedKinds d s ch₂ sheet₂ t₂ ch₂' sheet₂' t₂' b)
    where
      first : Closes (instance_of s l) ch₁ sheet₁ t₁ ch₁' sheet₁' t₁' a
      first =
          subst (λ (x : Layout). Closes (instance_of s x) ch₁ sheet₁ t₁ ch₁' sheet₁' t₁' a)
          (one-layout (reading (new_week d) s) D.layout l D.accepted is) D.closes

      second : ClosesIn second_terms (instance_of s l) ch₂ sheet₂ t₂ ch₂' sheet₂' t₂' (count_of b) b.kept b.total
      second =
          subst
          (λ (x : Layout). ClosesIn second_terms (instance_of s x) ch₂ sheet₂ t₂ ch₂' sheet₂' t₂' (count_of b) b.kept b.total)
          (one-layout (reading_kinds d s) E.layout l E.accepted (first-second d s l is)) E.closes

      pub either-rows : Agree l.rows (row ch₁') (row ch₂')
      either-rows =
          agree_trans l.rows first.best (agree_trans l.rows same-best (agree-sym l.rows second.best))

      pub either-answers :
          (b.kind0 ≡ a.kept - a.earned) × (b.kind1 ≡ a.earned) × (b.kind2 ≡ 0) × (b.kind3 ≡ 0) × (b.kept ≡ a.kept) × (b.total ≡ a.total)
      either-answers = (
        second.counts 0 (omega arith) ∙ ap (λ (f : ℕ → ℕ). f 0) rows ∙ sym (first-in.counts 0 (omega arith)),
        second.counts 1 (omega arith) ∙ ap (λ (f : ℕ → ℕ). f 1) rows ∙ sym first.earned,
        second.counts 2 (omega arith) ∙ kept_above l.rows first_terms (kind_of s l) two (row ch₂') 2 (omega arith),
        second.counts 3 (omega arith) ∙ kept_above l.rows first_terms (kind_of s l) two (row ch₂') 3 (omega arith),
        second.kept ∙ sum-cong l.rows (agree-sym l.rows either-rows) ∙ sym first.kept,
        weigh₂ ∙ sym weigh₁,
      )
        where
          rows : kept l.rows (kind_of s l) (row ch₂') ≡ kept l.rows (kind_of s l) (row ch₁')
          rows = kept-agree l.rows (kind_of s l) (agree-sym l.rows either-rows)

          first-in : ClosesIn first_terms (instance_of s l) ch₁ sheet₁ t₁ ch₁' sheet₁' t₁' (first_counts a) a.kept a.total
          first-in = closes_in (instance_of s l) two ch₁ sheet₁ t₁ ch₁' sheet₁' t₁' a first

          weight : ℕ → ℕ
          weight = weight_of l.rows (kind_of s l)

          weigh₁ : a.total ≡ worth l.rows weight (row ch₁')
          weigh₁ = first.total ∙ first.certified.equal

          weigh₂ : b.total ≡ worth l.rows weight (row ch₁')
          weigh₂ =
              second.total ∙ second.certified.equal
              ∙ sum-cong l.rows (λ c h. ap (λ (x : ℕ). x * weight c) (sym (either-rows c h)))

--------------------------------------------------------------------------------
-- Accepted or refused

-- what each call was lent has the same lengths
module _
    (ch₁ sheet₁ t₁ ch₂ sheet₂ t₂ : List ℕ) (choices : length ch₁ ≡ length ch₂) (sheets : length sheet₁ ≡ length sheet₂)
    (cells : length t₁ ≡ length t₂)
  where
    same-lacks : (n : Network) → lacks n ch₁ sheet₁ t₁ ≡ lacks n ch₂ sheet₂ t₂
    same-lacks n = rw (choices, sheets, cells)

    same-on : (i : Instance) (d : ℕ) → (told_on i d ch₁ sheet₁ t₁).refusal ≡ (told_kinds_on i d ch₂ sheet₂ t₂).refusal
    unfolding told_on told_kinds_on
    same-on i d =
        elim (either (lacks i.net ch₂ sheet₂ t₂)) [
          | inl e ↦ rw (same-lacks i.net ∙ e, e)
          | inr e ↦
              elim (either (leb days d)) [
                | inl f ↦ rw (same-lacks i.net ∙ e, e, f)
                | inr f ↦ rw (same-lacks i.net ∙ e, e, f)
              ]
        ]

    same_number : (s : List ℕ) (x : Reading) → (told_for s x ch₁ sheet₁ t₁).refusal ≡ (told_kinds_for s x ch₂ sheet₂ t₂).refusal
    same_number s (Err why) = refl
    same_number s (Ok l) = same-on (instance_of s l) l.day

    pub either_number :
        (d : ℕ) (s : List ℕ) → OfKinds first_terms (new_week d) s →
        (ch₁' sheet₁' t₁' ch₂' sheet₂' t₂' : List ℕ) (p : Result Totals Reason) (q : Result KindTotals Reason) →
        Settles (new_week d) s ch₁ sheet₁ t₁ ch₁' sheet₁' t₁' p → SettlesKinds d s ch₂ sheet₂ t₂ ch₂' sheet₂' t₂' q →
        (settled_numbers p).refusal ≡ (settled_kinds_numbers q).refusal
    either_number d s few ch₁' sheet₁' t₁' ch₂' sheet₂' t₂' p q S T =
        number-told (new_week d) s ch₁ sheet₁ t₁ ch₁' sheet₁' t₁' p S ∙ same_number s (reading (new_week d) s)
        ∙ ap (λ (x : Reading). (told_kinds_for s x ch₂ sheet₂ t₂).refusal) (either-reading d s few)
        ∙ sym (kinds-demand.number-told d s ch₂ sheet₂ t₂ ch₂' sheet₂' t₂' q T)

pub either-ranked :
    (d : ℕ) (s : List ℕ) → OfKinds first_terms (new_week d) s → (sel : List ℕ) (side : ℕ) (p q : Result Found Reason) →
    Answered (new_week d) s sel side p → AnsweredKinds d s sel side q → p ≡ q
unfolding ranked_in entered_in
either-ranked d s few sel side p q A B =
    A.is ∙ ap (λ (x : Reading). ranked_by s sel side (entered_by sel x)) (either-reading d s few) ∙ sym B.is
