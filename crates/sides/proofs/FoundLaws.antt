-- Laws of what is found on a side.
--   told-found             what is found on a side of an instance means what `Told` says
--   found-means finds      what is found on a side of a file, and when the rows have risen
use mathlib.Core.Path.{◌≡◌, refl, sym, ap, ap₂, subst}
use mathlib.Core.List.{List}
use mathlib.Core.Bool.{Bool, true, false}
use mathlib.Core.Logic.{inl, inr, ◌↔◌}
use Prim.Native.Nat.{ℕ}
use native.Mathlib.Omega.{arith}
use Rattle.theory.specs.Incidence.{Selection}
use Rattle.theory.specs.Matroid.{Matroid, row}
use Rattle.theory.specs.Network.{Instance, on_side, Independent}
use Rattle.theory.proofs.TestLaws.{either, fits-true, true-fits}
use Rattle.theory.proofs.RankLaws.{rank-unique, fits-rank}
use Rattle.claimfile.specs.Day.{instance_of}
use Rattle.claimfile.specs.declared.Layout.{Layout}
use Rattle.sides.specs.declared.Found.{Found}
use Rattle.sides.specs.Found.{fits_of, found_on, bit, Told, Finds}
use Rattle.sides.specs.Ready.{Ready}
use Rattle.sides.specs.Side.{FitsIn, Placed}
use Rattle.sides.proofs.SideLaws.{sound-matroid, side-fits, fits-side, side-rank}

--------------------------------------------------------------------------------
-- What the answers of an instance mean

-- 1 stands for yes
one-yes : (b : Bool) → (bit b ≡ 1) ↔ (b ≡ true)
one-yes true = (λ e. refl, λ e. refl)
one-yes false = (λ e. absurd (omega arith), λ e. ap bit e)

module _ (i : Instance) (sel : List ℕ) where
  told-found :
      (side : ℕ) → Matroid i.net.rows (Independent i.net i.limit side) → Selection i.net.rows (row sel) →
      Told i sel side (bit (found_on i sel side).fits) (found_on i sel side).rank
  told-found side matroid bits =
      let yes = one-yes (fits_of i side (row sel)) in
      record {
        matroid = matroid;
        fits = (
          λ e. (bits, fits-true i.net.rows i.net.groups (on_side i.net side) i.limit (row sel) (yes.0 e)),
          λ j. yes.1 (true-fits i.net.rows i.net.groups (on_side i.net side) i.limit (row sel) j.1),
        );
        rank = fits-rank i.net.rows i.net.groups (on_side i.net side) i.limit (row sel);
      }

--------------------------------------------------------------------------------
-- What is told when the rows have risen

same_test : (a b : Bool) → (a ≡ true → b ≡ true) → (b ≡ true → a ≡ true) → a ≡ b
same_test true b f g = sym (f refl)
same_test false true f g = g refl
same_test false false f g = refl

module _ (s sel : List ℕ) (l : Layout) (ready : Ready s sel l) (side : ℕ) where
  abbrev i : Instance
  i = instance_of s l

  pub found-means : Told i sel side (bit (found_on i sel side).fits) (found_on i sel side).rank
  found-means = told-found i sel side (sound-matroid s l ready.sound side) ready.bits

  -- b tells whether a list of rows fits the side's groups
  told : (X : ℕ → ℕ) (b : Bool) → (b ≡ true → FitsIn s l side X) → (b ≡ false → ¬ FitsIn s l side X) → b ≡ fits_of i side X
  told X b fit unfit =
      same_test b (fits_of i side X)
      (λ e.
      true-fits i.net.rows i.net.groups (on_side i.net side) i.limit X
      (side-fits s l ready.sound side X (fit e)))
      (λ e.
      elim (either b) [
        | inl h ↦ h
        | inr h ↦
            absurd
            (unfit h
            (fits-side s l ready.sound side X
            (fits-true i.net.rows i.net.groups (on_side i.net side) i.limit X e)))
      ])

  module _ (next : List ℕ) (f : Found) (t : Placed s sel l side next f) where
    found : f ≡ found_on i sel side
    found =
        ap₂ (λ (b : Bool) (n : ℕ). record { fits = b; rank = n })
        (told (row sel) f.fits t.lifted.fits t.lifted.unfit)
        (rank-unique l.rows (Independent i.net i.limit side) (row sel) f.rank (found_on i sel side).rank
        (side-rank s l ready.sound side (row sel) f.rank t.lifted.rank)
        found-means.rank)

    pub finds : Finds i sel side f
    finds =
        record {
          is = found;
          means = subst (λ (x : Found). Told i sel side (bit x.fits) x.rank) (sym found) found-means;
        }
