-- Several files that are all accepted.
--   Members n s l day      n files s k with the layouts l k, accepted as new files in the week layout for the same day, that together pass no
--                          bound of a file, one more shop group counted; the limits of a new file are the written ones
--   AllRead day b ls       the files in a buffer are accepted, and so they are Members
use Rattle.std.specs.Prelude.{◌≡◌, true, List, ℕ, ◌+◌, ◌≤◌, ◌<◌, length, get_or, Ok}
use Rattle.theory.specs.Bounds.{max_groups, max_rows}
use Rattle.theory.specs.Sum.{sum}
use Rattle.claimfile.specs.Day.{groups_of, written_of, limit_of}
use Rattle.claimfile.specs.File.{first_terms}
use Rattle.claimfile.specs.Sound.{Sound, Kinds}
use Rattle.claimfile.specs.declared.Layout.{Layout}
use Rattle.members.specs.Members.{member_of, reading_of, layouts_of, lengths_fit}

pub record Members (n : ℕ) (s : ℕ → List ℕ) (l : ℕ → Layout) (day : ℕ) : Type 0 where
  pub sound : (k : ℕ) → k < n → Sound (s k) (l k)
  pub kinds : (k : ℕ) → k < n → Kinds first_terms (s k) (l k)
  pub bytes : (k i : ℕ) → get_or (s k) i 0 < 256
  pub today : (k : ℕ) → k < n → (l k).day ≡ day
  pub new : (k : ℕ) → k < n → (v : ℕ) → v < groups_of (l k) → limit_of (s k) (l k) v ≡ written_of (s k) (l k) v
  pub cards_most : sum n (λ k. (l k).cards) ≤ max_groups
  pub shops_most : 1 + sum n (λ k. (l k).shops) ≤ max_groups
  pub rows_most : sum n (λ k. (l k).rows) ≤ max_rows

pub record AllRead (day : ℕ) (b ls : List ℕ) : Type 0 where
  pub fit : lengths_fit (length b) ls ≡ true
  pub each : (k : ℕ) → k < length ls → reading_of day b ls k ≡ Ok (layouts_of day b ls k)
  pub all : Members (length ls) (member_of b ls) (layouts_of day b ls) day
