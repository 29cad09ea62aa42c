-- The chain from a node up, as proofs need it.
--   root G parent u        the root where the chain of u ends
--   path G parent y u      the sum of y over that chain
--   depth G parent u       how many nodes it has
use Rattle.std.specs.Prelude.{ℕ, suc, ◌*◌}
use Rattle.theory.specs.Sum.{sum}
use Rattle.theory.specs.Forest.{walk, chain}

unfoldable pub root : ℕ → (ℕ → ℕ) → ℕ → ℕ
root G parent u = walk G parent (λ r. r) (λ n x. x) u

unfoldable pub path : ℕ → (ℕ → ℕ) → (ℕ → ℕ) → ℕ → ℕ
path G parent y u = sum G (λ v. chain G parent u v * y v)

unfoldable pub depth : ℕ → (ℕ → ℕ) → ℕ → ℕ
depth G parent u = walk G parent (λ r. 0) (λ n x. suc x) u
