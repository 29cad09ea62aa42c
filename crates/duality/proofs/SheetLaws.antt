-- A sheet with the total of a best choice exists for every day, without running code: prices that some choice meets (StrongLaws), none over
-- the greatest weight, read off as marks. A price above that weight pays for a row no better than the weight itself does.
--   heaviest-sheet         a heaviest choice has a sheet that certifies it
--   sheet-exists           so for every network there is a choice with such a sheet
--   best-sheet             and the best choice of a day of two kinds has one
use Prim.Native.Nat.{ℕ, ◌+◌, ◌-◌, min, ◌≤◌, ◌<◌}
use native.Mathlib.Nat.{mul-le-mul_left}
use native.Mathlib.Omega.{arith}
use Rattle.theory.specs.Incidence.{worth}
use Rattle.theory.specs.Matroid.{row}
use Rattle.theory.specs.Network.{Network, Instance, FitsBoth, Choice}
use Rattle.theory.specs.Formed.{Formed}
use Rattle.theory.specs.Priority.{weight_of}
use Rattle.theory.specs.Best.{Best}
use Rattle.theory.specs.Search.{best_choice}
use Rattle.theory.specs.Level.{mark, rest, Rising}
use Rattle.theory.specs.Sheet.{Certified}
use Rattle.theory.proofs.SumLaws.{sum-le}
use Rattle.theory.proofs.LevelLaws.{meets, level-certified}
use Rattle.theory.proofs.PriorityLaws.{lex-worth, weight-two-top}
use Rattle.theory.proofs.ChoiceLaws.{choice-is}
use Rattle.duality.specs.Prices.{bill, left, cost, Priced}
use Rattle.duality.proofs.PriceLaws.{under}
use Rattle.duality.proofs.StrongLaws.{priced}

module _
    (net : Network) (formed : Formed net) (limit w : ℕ → ℕ) (top : ℕ) (low : (c : ℕ) → c < net.rows → w c ≤ top)
  where
    -- prices, and none over the top
    found : Priced net net.rows limit w
    found = priced net formed w net.rows (omega arith) limit

    abbrev capped : ℕ → ℕ
    capped u = min (found.p u) top

    capped-rising : Rising net capped
    capped-rising = record {
      up = λ v l. omega (arith, found.rising.up v l);
      base = λ u l. omega (arith, found.rising.base u l);
    }

    capped-cost : cost net net.rows limit w capped ≤ cost net net.rows limit w found.p
    unfolding bill left mark
    capped-cost =
        omega (
          arith,
          sum-le net.groups (λ v l. mul-le-mul_left (limit v) (marks v l)),
          sum-le net.rows (λ c l. rests c l),
        )
      where
        marks :
            (v : ℕ) → v < net.groups →
            min (found.p v) top - min (found.p (net.parent v)) top ≤ found.p v - found.p (net.parent v)
        marks v l = omega (arith, found.rising.up v l)

        rests :
            (c : ℕ) → c < net.rows →
            w c - (min (found.p (net.card c)) top + min (found.p (net.shop c)) top)
            ≤ w c - (found.p (net.card c) + found.p (net.shop c))
        rests c l = omega (arith, low c l)

    pub heaviest-sheet :
        (X : ℕ → ℕ) → Choice net limit X → ((Y : ℕ → ℕ) → Choice net limit Y → worth net.rows w Y ≤ worth net.rows w X) →
        (y : ℕ → ℕ) × (z : ℕ → ℕ) × Certified net limit w top X y z
    unfolding bill left mark rest
    heaviest-sheet X fits most = (
      mark net capped,
      rest net w capped,
      level-certified net formed limit w top capped X
          (meets net formed limit w capped X capped-rising fits (omega (arith, capped-cost, found.meet, most found.X found.choice)))
          (λ v. omega arith) low,
    )

    pub sheet-exists :
        (X : ℕ → ℕ) × (y : ℕ → ℕ) × (z : ℕ → ℕ) × Choice net limit X × Certified net limit w top X y z
    sheet-exists =
        let sheet = heaviest-sheet found.X found.choice
        (λ Y fits. omega (arith, found.meet, under net formed net.rows (omega arith) limit w found.p Y found.rising fits)) in
        (found.X, sheet.0, sheet.1, found.choice, sheet.2)

pub best-sheet :
    (i : Instance) → Formed i.net → ((c : ℕ) → c < i.net.rows → i.kind c < 2) →
    (y : ℕ → ℕ) × (z : ℕ → ℕ)
    × Certified i.net i.limit (weight_of i.net.rows i.kind) (i.net.rows + 1)
    (row (best_choice i.net i.limit 2 i.kind)) y z
best-sheet i formed two =
    heaviest-sheet i.net formed i.limit (weight_of i.net.rows i.kind) (i.net.rows + 1)
    (weight-two-top i.net.rows i.kind two) (row (best_choice i.net i.limit 2 i.kind))
    (record { bits = best.bits; fits = best.fits })
    (λ Y fits. lex-worth i.net.rows 2 i.kind two Y _ fits.bits (best.most Y fits.bits fits.fits))
  where
    best : Best i.net.rows 2 i.kind (FitsBoth i.net i.limit) (row (best_choice i.net i.limit 2 i.kind))
    best = choice-is i.net i.limit 2 i.kind two
