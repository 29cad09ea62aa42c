-- What the parts of writing the codes ask and promise.
--   Lent s l codes t       buffers of just the needed lengths, for a sound file under the first terms
--   FoundIn i codes t      what is left in them
use Rattle.std.specs.Prelude.{◌≡◌, List, ℕ, length, get_or}
use Rattle.theory.specs.Network.{Instance}
use Rattle.claimfile.specs.File.{first_terms}
use Rattle.claimfile.specs.declared.Layout.{Layout}
use Rattle.claimfile.specs.Day.{network_of}
use Rattle.claimfile.specs.Sound.{Sound, Kinds}
use Rattle.closing.specs.Settle.{scratch_for}
use Rattle.codes.specs.Write.{Known}

pub record Lent (s : List ℕ) (l : Layout) (codes t : List ℕ) : Type 0 where
  pub sound : Sound s l
  pub kinds : Kinds first_terms s l
  pub bytes : length codes ≡ l.rows
  pub cells : length t ≡ scratch_for (network_of s l)

pub record FoundIn (i : Instance) (codes t : List ℕ) : Type 0 where
  pub known : Known i codes
  pub clear : (k : ℕ) → get_or t k 0 ≡ 0
