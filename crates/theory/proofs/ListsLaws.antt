-- Two instances in which the same lists of rows fit each side: they have the same ranks and the same choice.
--   SameLists i j          two instances with the same rows and kinds, in which the same lists fit each side
--   lists-turned           the same the other way round
--   KeptOf i X             X is the kept choice of an instance, in document 01's words
--   lists-rank lists-kept lists-choice     they have the same ranks, the same kept choice and the same best choice
use mathlib.Core.Path.{◌≡◌, sym, ◌∙◌, subst}
use Prim.Native.Nat.{ℕ, ◌<◌}
use native.Mathlib.Omega.{arith}
use Rattle.theory.specs.Network.{Instance, FitsSide, FitsBoth, Independent}
use Rattle.theory.specs.Matroid.{Rank}
use Rattle.theory.specs.Best.{Best, Kept}
use Rattle.theory.specs.Search.{best_choice}
use Rattle.theory.proofs.BestLaws.{best-cong, best-kinds, two-kinds}
use Rattle.theory.proofs.ChoiceLaws.{choice-is, choice-bits, choice-list}

pub record SameLists (i j : Instance) : Type 0 where
  pub rows : i.net.rows ≡ j.net.rows
  pub kinds : (c : ℕ) → c < i.net.rows → i.kind c ≡ j.kind c
  pub there : (side : ℕ) (X : ℕ → ℕ) → FitsSide i.net i.limit side X → FitsSide j.net j.limit side X
  pub home : (side : ℕ) (X : ℕ → ℕ) → FitsSide j.net j.limit side X → FitsSide i.net i.limit side X

abbrev pub KeptOf : Instance → (ℕ → ℕ) → Type 0
KeptOf i X = Kept i.net.rows i.kind (FitsBoth i.net i.limit) X

abbrev pub lists-turned : {i j : Instance} → SameLists i j → SameLists j i
lists-turned same =
    record {
      rows = sym same.rows;
      kinds = λ c h. sym (same.kinds c (omega (arith, same.rows)));
      there = same.home;
      home = same.there;
    }

module _ {i j : Instance} (same : SameLists i j) where
  pub lists-rank :
      (side : ℕ) (X : ℕ → ℕ) (r : ℕ) → Rank i.net.rows (Independent i.net i.limit side) X r →
      Rank j.net.rows (Independent j.net j.limit side) X r
  lists-rank side X r h =
      subst (λ n. Rank n (Independent j.net j.limit side) X r) same.rows
      (record {
        base = h.base;
        ind = (λ c l. h.ind.0 c (omega (arith, same.rows)), same.there side h.base h.ind.1);
        within = h.within;
        is = h.is;
        most = λ J f. h.most J (λ c l. f.0 c (omega (arith, same.rows)), same.home side J f.1);
      })

  lists-best :
      (K : ℕ) {X : ℕ → ℕ} → Best i.net.rows K i.kind (FitsBoth i.net i.limit) X →
      Best j.net.rows K j.kind (FitsBoth j.net j.limit) X
  lists-best K {X} b =
      subst (λ n. Best n K j.kind (FitsBoth j.net j.limit) X) same.rows
      (best-kinds i.net.rows K same.kinds
      (best-cong i.net.rows K i.kind
      (λ Y s f. (same.there 0 Y f.0, same.there 1 Y f.1))
      (λ Y s f. (same.home 0 Y f.0, same.home 1 Y f.1))
      b))

  module _ (K : ℕ) (ranged : (c : ℕ) → c < i.net.rows → i.kind c < K) where
    ranged-there : (c : ℕ) → c < j.net.rows → j.kind c < K
    ranged-there c h =
        let l : c < i.net.rows = omega (arith, same.rows) in
        omega (arith, ranged c l, same.kinds c l)

    pub lists-choice : best_choice i.net i.limit K i.kind ≡ best_choice j.net j.limit K j.kind
    lists-choice =
        choice-list j.net j.limit K j.kind ranged-there (best_choice i.net i.limit K i.kind)
        ((choice-bits i.net i.limit K i.kind ranged).long ∙ same.rows)
        (lists-best K (choice-is i.net i.limit K i.kind ranged))

  pub lists-kept : ((c : ℕ) → c < i.net.rows → i.kind c < 2) → (X : ℕ → ℕ) → KeptOf i X → KeptOf j X
  lists-kept two X k =
      (two-kinds j.net.rows j.kind (ranged-there 2 two)).0 (lists-best 2 ((two-kinds i.net.rows i.kind two).1 k))
