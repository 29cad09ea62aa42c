-- Limits that are lowered from the front (document 02, E4): "from the front it reads each limit above its parent's, already lowered, one
-- as that one". The nodes are a forest of G nodes (Forest.antt); a root has no limit.
--   lesser G up limit x        the limit of a node whose parent is `up`, by its own and its parent's limit x: the lesser of the two, or
--                              its own where the parent is a root
--   lowered G parent limit v   the limit of node v once those above it are lowered
-- It is the least limit from the node up to the top (`lowered-least`, `lowered_is`, proofs/LoweredLaws.antt).
use Rattle.std.specs.Prelude.{ℕ, min, ltb}
use Rattle.theory.specs.Sum.{pick}
use Rattle.theory.specs.Forest.{walk}

abbrev pub lesser : ℕ → ℕ → ℕ → ℕ → ℕ
lesser G up limit x = pick (ltb up G) (min limit x) limit

unfoldable pub lowered : ℕ → (ℕ → ℕ) → (ℕ → ℕ) → ℕ → ℕ
lowered G parent limit v = walk G parent (λ r. 0) (λ n x. lesser G (parent n) (limit n) x) v
