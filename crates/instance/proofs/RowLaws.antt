-- Laws of what a row means.
--   square-most cube-most        what N + 1 to the powers 2 and 3 are at most, with at most 512 rows
--   power-most                   a weight is at most that of kind 3 among the most rows
--   power-one power-three        the weight of a kind
--   hung-ordinary                where an ordinary claim hangs on the card side
--   card-hung shop-hung          where a row hangs, by its claim
--   weighed                      the weight of a row among so many, by its claim
use mathlib.Core.Path.{◌≡◌, sym, ap, ◌∙◌}
use mathlib.Core.List.{List}
use Prim.Native.Nat.{ℕ, ◌+◌, ◌*◌, ◌^◌, ◌≤◌, ◌<◌}
use native.Mathlib.Omega.{arith}
use native.Mathlib.Nat.{zero-add, one-mul, mul-le-mul, pow-zero, pow-suc, pow-le-pow_left, pow-le-pow_right}
use lib.Dec.{eqb}
use Rattle.theory.specs.Sum.{pick}
use Rattle.theory.specs.Priority as priority
use Rattle.claimfile.specs.declared.Layout.{Layout}
use Rattle.claimfile.specs.declared.Claim.{Claim}
use Rattle.claimfile.specs.Day as day
use Rattle.claimfile.proofs.DayLaws.{parent-on, card-ordinary, card-node, shop-node}
use Rattle.theory.specs.Bounds.{max_rows}
use Rattle.claimfile.specs.File.{second_terms}
use Rattle.instance.specs.Meaning.{heaviest}

-- the weight of a kind, with at most 512 rows
module _ (b : ℕ) (few : b ≤ 513) where
  pub square-most : b * b ≤ 263169
  square-most = omega (arith, mul-le-mul {n₁ = b} {m₁ = b} {n₂ = 513} {m₂ = 513} few few)

  pub cube-most : b * b * b ≤ heaviest
  cube-most = omega (arith, mul-le-mul {n₁ = b * b} {m₁ = b} {n₂ = 263169} {m₂ = 513} square-most few)

pub power-most : (rows kind : ℕ) → rows ≤ max_rows → kind < second_terms → (rows + 1) ^ kind ≤ heaviest
power-most rows kind few small =
    omega (
      arith,
      pow-le-pow_left {n = rows + 1} {m = 513} (omega arith) kind,
      pow-le-pow_right {n = 513} (omega arith) {i = kind} {j = 3} (omega arith),
    )

module _ (b kind : ℕ) where
  pub power-one : kind ≡ 1 → b ≡ b ^ kind
  power-one e = rw (e, pow-suc, pow-zero, one-mul)

  pub power-three : kind ≡ 3 → b * b * b ≡ b ^ kind
  power-three e = rw (e, pow-suc, pow-suc, pow-suc, pow-zero, one-mul)

-- where an ordinary claim hangs on the card side
module _ (s : List ℕ) (l : Layout) (root : ℕ) (claim : Claim) where
  pub hung-ordinary : claim.kind ≡ 0 → claim.card ≡ day.card_under s l root claim
  hung-ordinary e = sym (card-ordinary (λ g. day.above g (day.group_of s l 0 g).parent 0 root) claim e)

module _ (s : List ℕ) (l : Layout) (c : ℕ) (claim : Claim) (is : claim ≡ day.claim_of s l c) where
  pub card-hung : claim.card < l.cards → day.card_under s l (day.groups_of l) claim ≡ day.card_node s l c
  card-hung inside =
      ap (λ (x : ℕ). pick (eqb claim.kind 0) claim.card x)
      (sym (parent-on s l 0 claim.card inside) ∙ ap (day.parent_of s l) (zero-add claim.card))
      ∙ ap (day.card_by (day.parent_of s l)) is
      ∙ sym (card-node s l c)

  pub shop-hung : l.cards + claim.shop ≡ day.shop_node s l c
  shop-hung = ap (λ (x : Claim). l.cards + x.shop) is ∙ sym (shop-node s l c)

  pub weighed : (rows : ℕ) → (rows + 1) ^ claim.kind ≡ priority.weight_of rows (day.kind_of s l) c
  unfolding priority.weight_of
  weighed rows = ap (λ (x : Claim). (rows + 1) ^ x.kind) is
