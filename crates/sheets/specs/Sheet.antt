-- What a sheet of marks comes to on a day, which is an instance i, and whether it covers the claims.
--   weights i              the weight of each row
--   sheet_total i sheet     the sheet's total
--   covers i sheet c       the test whether row c is covered
--   covered i sheet        the test whether every row is
-- Marks are numbers of 32 bits, and sums are true sums: the definitions are over all numbers.
use Rattle.std.specs.Prelude.{List, Bool, ℕ, ◌+◌, leb}
use Rattle.theory.specs.Sum.{every}
use Rattle.theory.specs.Incidence.{charge, total}
use Rattle.theory.specs.Network.{Instance, on_both}
use Rattle.theory.specs.Priority.{weight_of}
use Rattle.closing.specs.Settle.{mark_of, claim_mark_of}

module _ (i : Instance) where
  abbrev pub weights : ℕ → ℕ
  weights = weight_of i.net.rows i.kind

  abbrev pub sheet_total : List ℕ → ℕ
  sheet_total sheet = total i.net.rows i.net.groups i.limit (mark_of sheet) (claim_mark_of i.net sheet)

  abbrev pub covers : List ℕ → ℕ → Bool
  covers sheet c =
      leb (weights c) (claim_mark_of i.net sheet c + charge i.net.groups (on_both i.net) (mark_of sheet) c)

  unfoldable pub covered : List ℕ → Bool
  covered sheet = every i.net.rows (covers sheet)
