-- Laws of the cover, row by row, and of the sums of marks.
--   row-total-none group-total-none    the sums at the start
--   covered-not covered-all    the test whether every row is covered
--   covered-true true-covered  it is true exactly where every row is
--   leb-capped                 a weight up to 65535 is reached by prices cut off there exactly where true prices reach it
--   weight-price               no row weighs more than a cell of the prices holds
--   covers-is                  whether a row is covered, by the cells of its two nodes
use mathlib.Core.Path.{◌≡◌, refl, sym, ap, ap₂, ◌∙◌}
use mathlib.Core.List.{List}
use mathlib.Core.Bool.{true, false, true≢false}
use mathlib.Core.Logic.{inl, inr}
use Prim.Native.Nat.{ℕ, ◌+◌, min, ◌≤◌, ◌<◌}
use native.Mathlib.Decide.{dec_le}
use native.Mathlib.Omega.{arith}
use lib.ListN.{get_or}
use lib.Dec.{leb}
use borrow.Author.Tests.{le-leb, lt-leb, leb-true}
use Rattle.theory.specs.Bounds.{max_limit}
use Rattle.theory.specs.Sum.{sum}
use Rattle.theory.specs.Incidence.{Covers}
use Rattle.theory.specs.Matroid.{row}
use Rattle.theory.specs.Network.{Instance, on_both}
use Rattle.theory.proofs.TestLaws.{either, every_true, true-every}
use Rattle.theory.proofs.NetworkLaws.{charge-both}
use Rattle.theory.proofs.PriorityLaws.{weight-two-top}
use Rattle.claimfile.specs.Day.{groups_of, kind_of, network_of, instance_of, card_node, shop_node}
use Rattle.claimfile.specs.File.{first_terms}
use Rattle.claimfile.specs.Sound.{Sound, Kinds}
use Rattle.claimfile.specs.declared.Layout.{Layout}
use Rattle.closing.specs.Settle.{mark_of, claim_mark_of}
use Rattle.sheets.specs.Sheet.{weights, covers, covered}
use Rattle.sheets.specs.Judge.{price_of, Priced, group_total, row_total}
use Rattle.sheets.proofs.TableLaws.{priced-at}

pub row-total-none : (sheet : List ℕ) (groups : ℕ) → 0 ≡ row_total sheet groups 0
unfolding sum
row-total-none sheet groups = refl

pub group-total-none : (s : List ℕ) (l : Layout) (sheet : List ℕ) → 0 ≡ group_total s l sheet 0
unfolding sum
group-total-none s l sheet = refl

module _ (i : Instance) (sheet : List ℕ) where
  pub covered-all : ((c : ℕ) → c < i.net.rows → covers i sheet c ≡ true) → true ≡ covered i sheet
  unfolding covered
  covered-all h = sym (true-every i.net.rows (covers i sheet) h)

  all-covered : covered i sheet ≡ true → (c : ℕ) → c < i.net.rows → covers i sheet c ≡ true
  unfolding covered
  all-covered h = every_true i.net.rows (covers i sheet) h

  pub covered-not : (c : ℕ) → c < i.net.rows → covers i sheet c ≡ false → false ≡ covered i sheet
  covered-not c l n =
      elim (either (covered i sheet)) [
        | inl e ↦ absurd (true≢false (sym (all-covered e c l) ∙ n))
        | inr e ↦ sym e
      ]

  pub covered-true :
      covered i sheet ≡ true →
      Covers i.net.rows i.net.groups (on_both i.net) (mark_of sheet) (claim_mark_of i.net sheet) (weights i)
  covered-true h c l = leb-true _ _ (all-covered h c l)

  pub true-covered :
      Covers i.net.rows i.net.groups (on_both i.net) (mark_of sheet) (claim_mark_of i.net sheet) (weights i) →
      covered i sheet ≡ true
  true-covered h = sym (covered-all (λ c l. le-leb _ _ (h c l)))

pub leb-capped : (w m a b : ℕ) → w ≤ max_limit → leb w (m + (min a max_limit + min b max_limit)) ≡ leb w (m + (a + b))
leb-capped w m a b small =
    elim (dec_le w (m + (a + b))) [
      | yes h ↦ le-leb w (m + (min a max_limit + min b max_limit)) (omega arith) ∙ sym (le-leb w (m + (a + b)) h)
      | no h ↦
          lt-leb w (m + (min a max_limit + min b max_limit)) (omega arith) ∙ sym (lt-leb w (m + (a + b)) (omega arith))
    ]

module _ (s : List ℕ) (l : Layout) (sound : Sound s l) (two : Kinds first_terms s l) where
  pub weight-price : (c : ℕ) → c < l.rows → weights (instance_of s l) c ≤ max_limit
  weight-price c h =
      omega (arith, sound.rows_most, weight-two-top l.rows (kind_of s l) two c h)

  module _ (sheet t : List ℕ) (p : Priced s l sheet t (groups_of l)) (c : ℕ) (inside : c < l.rows) where
    pub covers-is :
        (w m a b x : ℕ) → w ≡ weights (instance_of s l) c → m ≡ get_or sheet (groups_of l + c) 0 → a ≡ card_node s l c →
        b ≡ shop_node s l c → x ≡ row t a + row t b → leb w (m + x) ≡ covers (instance_of s l) sheet c
    covers-is w m a b x e f g h k =
        ap₂ leb e (ap₂ ◌+◌ f (k ∙ ap₂ ◌+◌ (cell a (card_node s l c) g) (cell b (shop_node s l c) h)))
        ∙ leb-capped _ _ _ _ (weight-price c inside)
        ∙ ap (λ y. leb (weights (instance_of s l) c) (get_or sheet (groups_of l + c) 0 + y))
        (sym (charge-both (network_of s l) (mark_of sheet) c))
      where
        cell : (u v : ℕ) → u ≡ v → row t u ≡ min (price_of s l sheet v) max_limit
        cell u v q = ap (row t) q ∙ priced-at s l sound sheet t p v
