-- What a closing is when it is judged.
--   Judgeable s l ch sheet     a sound file with two kinds of claims, a choice of 0s and 1s, and a sheet that is long enough
use Rattle.std.specs.Prelude.{List, ℕ, ◌≤◌, length}
use Rattle.claimfile.specs.Day.{network_of}
use Rattle.claimfile.specs.File.{first_terms}
use Rattle.claimfile.specs.Sound.{Kinds}
use Rattle.claimfile.specs.declared.Layout.{Layout}
use Rattle.sides.specs.Ready.{Ready}
use Rattle.closing.specs.Settle.{needed}

pub record Judgeable (s : List ℕ) (l : Layout) (ch sheet : List ℕ) : Type 0 where
  pub ready : Ready s ch l
  pub kinds : Kinds first_terms s l
  pub sheets : needed (network_of s l) ≤ length sheet
