-- A side on which the laws of a forest hold (theory, ForestLaws): `up d u g` is its `chain`.
--   SoundSide d            parents are smaller groups or the top, and rows name groups, as on every side of an accepted file
--   side-down              so the parents make a forest
use Prim.Native.Nat.{ℕ, ◌<◌}
use Rattle.theory.specs.Forest.{Down}
use Rattle.theory.specs.Rise.{Rooted}
use Rattle.theory.proofs.LandLaws.{rooted-down}
use Rattle.renumber.specs.Side.{Side}

pub record SoundSide (d : Side) : Type 0 where
  pub rooted : Rooted d.groups d.parent
  pub named : (r : ℕ) → r < d.rows → d.names r < d.groups

module _ {d : Side} (sound : SoundSide d) where
  pub side-down : Down d.groups d.parent
  side-down = rooted-down d.groups d.parent sound.rooted
