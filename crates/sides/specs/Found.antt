-- What is found on a side of an instance i, which is what an accepted file holds.
--   fits_of i side          the test whether a list of rows fits a side
--   found_on i sel side     whether a selection fits a side, and its rank there
--   bit b                  1 for yes and 0 for no
--   Told i sel side b n    what these mean: the lists that fit the side are the independent sets of a matroid; b is 1 exactly where
--                          the selection is one of them; n is the size of a largest one within the selection, its rank
--   Finds i sel side f     f is what is found on the side, and means that
use Rattle.std.specs.Prelude.{ℕ, ◌≡◌, List, Bool, true, false, ◌↔◌}
use Rattle.theory.specs.Incidence.{fits}
use Rattle.theory.specs.Matroid.{Matroid, Rank, row}
use Rattle.theory.specs.Search.{rank}
use Rattle.theory.specs.Network.{Instance, on_side, Independent}
use Rattle.sides.specs.declared.Found.{Found}

abbrev pub fits_of : Instance → ℕ → (ℕ → ℕ) → Bool
fits_of i side = fits i.net.rows i.net.groups (on_side i.net side) i.limit

abbrev pub found_on : Instance → List ℕ → ℕ → Found
found_on i sel side = record {
  fits = fits_of i side (row sel);
  rank = rank i.net.rows (fits_of i side) (row sel);
}

abbrev pub bit : Bool → ℕ
bit true = 1
bit false = 0

pub record Told (i : Instance) (sel : List ℕ) (side b n : ℕ) : Type 0 where
  pub matroid : Matroid i.net.rows (Independent i.net i.limit side)
  pub fits : (b ≡ 1) ↔ Independent i.net i.limit side (row sel)
  pub rank : Rank i.net.rows (Independent i.net i.limit side) (row sel) n

pub record Finds (i : Instance) (sel : List ℕ) (side : ℕ) (f : Found) : Type 0 where
  pub is : f ≡ found_on i sel side
  pub means : Told i sel side (bit f.fits) f.rank
