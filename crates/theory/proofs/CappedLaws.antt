-- Laws of limits that are cut off at a number above the number of rows. A selection fits such a limit as it fits any larger one, and leaves a
-- place in the group.
--   lesser-capped lowered-capped   limits that are lowered and then cut off are those that are cut off and then lowered
--   load-few               a group counts no more rows of a selection than there are
--   independent-capped capped-independent      the same lists of rows fit a side
--   choice-capped capped-choice    the same choices fit both sides
--   capped-ordered         a choice whose rows are in order by the limits that are cut off has them in order by the whole ones
--   capped-certified       a sheet that certifies a choice by the limits that are cut off certifies it by the whole ones: a group whose limit
--                          is cut off has a place left, and so no mark
use mathlib.Core.Path.{◌≡◌, ap, ◌∙◌}
use Prim.Native.Nat.{ℕ, ◌*◌, ◌≤◌, ◌<◌}
use native.Mathlib.Nat.{mul-le-mul_right}
use native.Mathlib.Decide.{dec_lt}
use native.Mathlib.Omega.{arith}
use borrow.Author.Tests.{lt-ltb, le-ltb}
use Rattle.theory.specs.Forest.{Down}
use Rattle.theory.specs.Lowered.{lesser, lowered}
use Rattle.theory.specs.Capped.{capped}
use Rattle.theory.specs.Incidence.{Selection, load}
use Rattle.theory.specs.Network.{Network, node, on_side, on_both, Independent, Choice}
use Rattle.theory.specs.Formed.{Formed}
use Rattle.theory.specs.Level.{Ordered}
use Rattle.theory.specs.Sheet.{Certified}
use Rattle.theory.proofs.SumLaws.{sum-le, sum_one, sum-cong}
use Rattle.theory.proofs.ForestLaws.{chain-small}
use Rattle.theory.proofs.LoweredLaws.{lowered-step, lowered-only}
use Rattle.theory.proofs.NetworkLaws.{formed-down, fits_both_lem}
use Rattle.theory.proofs.FillLaws.{on-both-small}
use Rattle.theory.proofs.IncidenceLaws.{tight-group}

--------------------------------------------------------------------------------
-- Cut off and lowered

pub lesser-capped : (most G up a b : ℕ) → capped most (lesser G up a b) ≡ lesser G up (capped most a) (capped most b)
lesser-capped most G up a b =
    elim (dec_lt up G) [
      | yes h ↦ rw (lt-ltb _ _ h) (omega arith)
      | no h ↦ let past : G ≤ up = omega arith in rw (le-ltb _ _ past) (omega arith)
    ]

module _ (most G : ℕ) (parent : ℕ → ℕ) (down : Down G parent) (limit : ℕ → ℕ) where
  pub lowered-capped : (v : ℕ) → v < G → capped most (lowered G parent limit v) ≡ lowered G parent (λ u. capped most (limit u)) v
  lowered-capped =
      lowered-only G parent down (λ u. capped most (limit u)) (λ u. capped most (lowered G parent limit u))
      (λ v l.
      ap (capped most) (lowered-step G parent down limit v l)
      ∙ lesser-capped most G (parent v) (limit v) (lowered G parent limit (parent v)))

--------------------------------------------------------------------------------
-- The same choices, and the same sheets

pub load-few :
    (N : ℕ) (m : ℕ → ℕ → ℕ) (X : ℕ → ℕ) (v : ℕ) → Selection N X → ((c : ℕ) → c < N → m c v ≤ 1) → load N m X v ≤ N
unfolding load
load-few N m X v bits once =
    omega (
      arith,
      sum-le N {f = λ c. X c * m c v} {g = λ c. 1} (λ c l. omega (arith, mul-le-mul_right (m c v) (bits c l), once c l)),
      sum_one N,
    )

module _ (d : Network) (formed : Formed d) (most : ℕ) (few : d.rows < most) (limit : ℕ → ℕ) where
  abbrev cut : ℕ → ℕ
  cut v = capped most (limit v)

  side-once : (side c v : ℕ) → on_side d side c v ≤ 1
  unfolding on_side
  side-once side c v = chain-small d.groups d.parent (formed-down d formed) (node d side c) v

  pub independent-capped : (side : ℕ) (X : ℕ → ℕ) → Independent d limit side X → Independent d cut side X
  independent-capped side X i = (
    i.0,
    λ v l. omega (arith, i.1 v l, load-few d.rows (on_side d side) X v i.0 (λ c k. side-once side c v)),
  )

  pub capped-independent : (side : ℕ) (X : ℕ → ℕ) → Independent d cut side X → Independent d limit side X
  capped-independent side X i = (i.0, λ v l. omega (arith, i.1 v l))

  pub choice-capped : (X : ℕ → ℕ) → Choice d limit X → Choice d cut X
  choice-capped X h = record {
    bits = h.bits;
    fits = ((independent-capped 0 X (h.bits, h.fits.0)).1, (independent-capped 1 X (h.bits, h.fits.1)).1);
  }

  pub capped-choice : (X : ℕ → ℕ) → Choice d cut X → Choice d limit X
  capped-choice X h = record {
    bits = h.bits;
    fits = ((capped-independent 0 X (h.bits, h.fits.0)).1, (capped-independent 1 X (h.bits, h.fits.1)).1);
  }

  pub capped-ordered : (w S : ℕ → ℕ) (i : ℕ) → Ordered d cut w S i → Ordered d limit w S i
  capped-ordered w S i o Y choice = o Y (choice-capped Y choice)

  module _ (w : ℕ → ℕ) (top : ℕ) (X y z : ℕ → ℕ) (choice : Choice d cut X) (C : Certified d cut w top X y z) where
    -- a group whose limit is cut off has a place left
    unmarked : (v : ℕ) → v < d.groups → most ≤ limit v → y v ≡ 0
    unmarked v l large =
        tight-group d.rows d.groups (on_both d) X y z w cut (fits_both_lem d cut X formed choice.fits) choice.bits C.cover
        (omega (arith, C.equal)) v l
        (omega (arith, load-few d.rows (on_both d) X v choice.bits (λ c k. on-both-small d formed c k v)))

    term : (v : ℕ) → v < d.groups → cut v * y v ≡ limit v * y v
    term v l =
        elim (dec_lt (limit v) most) [
          | yes h ↦ let e : cut v ≡ limit v = omega arith in ap (λ n. n * y v) e
          | no h ↦
              let none : y v ≡ 0 = unmarked v l (omega arith) in
              omega (arith, ap (λ n. cut v * n) none, ap (λ n. limit v * n) none)
        ]

    pub capped-certified : Certified d limit w top X y z
    capped-certified = record {
      group_range = C.group_range;
      row_range = C.row_range;
      cover = C.cover;
      equal = omega (arith, C.equal, sum-cong d.groups {f = λ v. cut v * y v} {g = λ v. limit v * y v} term);
    }
