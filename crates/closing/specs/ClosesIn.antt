-- Demand 3 with any number of kinds (document 02, E12). A day is an instance i, as in Settle; i.net.rows is N.
--   ClosesIn K ..          a closing with K kinds: the choice is the best one, compared by the kept counts kind by kind, from K - 1
--                          down to 0, and then by row order; the kept count of each kind and in all and the total answered are those of
--                          the choice and of the sheet; the marks are at most N + 1 to the power K - 1, cover every claim, and their
--                          total is the weight of the kept rows; the needed scratch is zero; every cell past the needed lengths is as
--                          it was
--   first_counts a          the kept counts by kind in an answer under the first terms. `Closes` is `ClosesIn` with two kinds
--                          (`closes_in`, `in-closes`, proofs/ClosesLaws.antt)
use Rattle.std.specs.Prelude.{◌≡◌, List, ℕ, zero, suc, ◌+◌, ◌-◌, ◌^◌, ◌<◌, get_or}
use Rattle.theory.specs.Incidence.{size, total}
use Rattle.theory.specs.Matroid.{row}
use Rattle.theory.specs.Network.{Instance, FitsBoth}
use Rattle.theory.specs.Priority.{kept, weight_of}
use Rattle.theory.specs.Best.{Best}
use Rattle.theory.specs.Sheet.{Certified}
use Rattle.closing.specs.declared.Totals.{Totals}
use Rattle.closing.specs.Settle.{needed, scratch_for, best_row_in, mark_of, claim_mark_of, Rest}

pub record ClosesIn
    (K : ℕ) (i : Instance) (ch sheet t ch' sheet' t' : List ℕ) (count : ℕ → ℕ) (all sum : ℕ)
    : Type 0 where
  pub choice : Best i.net.rows K i.kind (FitsBoth i.net i.limit) (row ch')
  pub best : (c : ℕ) → c < i.net.rows → row ch' c ≡ best_row_in K i c
  pub counts : (k : ℕ) → k < K → count k ≡ kept i.net.rows i.kind (row ch') k
  pub kept : all ≡ size i.net.rows (row ch')
  pub total : sum ≡ total i.net.rows i.net.groups i.limit (mark_of sheet') (claim_mark_of i.net sheet')
  pub certified :
      Certified i.net i.limit (weight_of i.net.rows i.kind) ((i.net.rows + 1) ^ (K - 1)) (row ch') (mark_of sheet')
      (claim_mark_of i.net sheet')
  pub clear : (k : ℕ) → k < scratch_for i.net → get_or t' k 0 ≡ 0
  pub choice_rest : Rest i.net.rows ch ch'
  pub sheet_rest : Rest (needed i.net) sheet sheet'
  pub scratch_rest : Rest (scratch_for i.net) t t'

-- of the rows that are kept under the first terms those that are not earned are ordinary
abbrev pub first_counts : Totals → ℕ → ℕ
first_counts a zero = a.kept - a.earned
first_counts a (suc k) = a.earned
