-- New and stored files (document 02, E4).
--   new-limits             the limits of a new file are the written ones
--   new-stored             a new file is accepted as a stored one too, with the same layout: so all that is said of its day is the same,
--                          and both calls agree on every new file
--   stored-fits fits-stored    a list of rows fits a side by the lowered limits exactly where it fits by the limits as stored
--   stored-rank            so it has the same rank
--   stored-kept stored-choice  "The lowered file keeps the same rows as the limits as stored would"
--   stored-spare           and a row has as many spare places
use mathlib.Core.Bool.{false}
use mathlib.Core.Path.{◌≡◌}
use mathlib.Core.Logic.{◌↔◌}
use mathlib.Core.List.{List}
use Prim.Native.Nat.{ℕ, ◌<◌}
use Rattle.theory.specs.Network.{FitsSide, Independent}
use Rattle.theory.specs.Matroid.{Rank}
use Rattle.theory.specs.Search.{best_choice}
use Rattle.theory.specs.Spare.{spare_places}
use Rattle.theory.proofs.ListsLaws.{SameLists, lists-turned, KeptOf, lists-rank, lists-kept, lists-choice}
use Rattle.claimfile.specs.File.{first_terms, as_stored}
use Rattle.reader.specs.Reading.{reading}
use Rattle.claimfile.specs.Day.{kind_of, groups_of, written_of, limit_of, network_of, instance_of, written_day}
use Rattle.claimfile.specs.Sound.{Sound, Kinds}
use Rattle.claimfile.specs.declared.Form.{Form}
use Rattle.claimfile.specs.declared.Layout.{Layout}
use Rattle.reader.proofs.AcceptedLaws.{accepted-stored, new-below}
use Rattle.claimfile.proofs.DayLaws.{limit-written, limit-lists, limit-spare}
use Rattle.std.specs.Prelude.{Ok}

module _ (f : Form) (s : List ℕ) (l : Layout) (is : reading f s ≡ Ok l) where
  pub new-limits : f.stored ≡ false → (v : ℕ) → v < groups_of l → limit_of s l v ≡ written_of s l v
  new-limits new = limit-written s l (new-below f s l is new)

  pub new-stored : reading (as_stored f) s ≡ Ok l
  new-stored = accepted-stored f s l is

module _ (s : List ℕ) (l : Layout) (sound : Sound s l) where
  abbrev lists : SameLists (written_day s l) (instance_of s l)
  lists = limit-lists s l sound

  pub stored-fits :
      (side : ℕ) (X : ℕ → ℕ) → FitsSide (network_of s l) (written_of s l) side X → FitsSide (network_of s l) (limit_of s l) side X
  stored-fits = lists.there

  pub fits-stored :
      (side : ℕ) (X : ℕ → ℕ) → FitsSide (network_of s l) (limit_of s l) side X → FitsSide (network_of s l) (written_of s l) side X
  fits-stored = lists.home

  pub stored-rank :
      (side : ℕ) (X : ℕ → ℕ) (r : ℕ) →
      Rank l.rows (Independent (network_of s l) (written_of s l) side) X r
      ↔ Rank l.rows (Independent (network_of s l) (limit_of s l) side) X r
  stored-rank side X r = (lists-rank lists side X r, lists-rank (lists-turned lists) side X r)

  pub stored-kept : Kinds first_terms s l → (X : ℕ → ℕ) → KeptOf (written_day s l) X ↔ KeptOf (instance_of s l) X
  stored-kept two X = (lists-kept lists two X, lists-kept (lists-turned lists) two X)

  pub stored-choice :
      Kinds first_terms s l →
      best_choice (network_of s l) (written_of s l) 2 (kind_of s l) ≡ best_choice (network_of s l) (limit_of s l) 2 (kind_of s l)
  stored-choice two = lists-choice lists 2 two

  pub stored-spare :
      (X : ℕ → ℕ) (x : ℕ) → x < l.rows →
      spare_places (network_of s l) (written_of s l) X x ≡ spare_places (network_of s l) (limit_of s l) X x
  stored-spare = limit-spare s l sound
