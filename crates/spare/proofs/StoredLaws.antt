-- Spare places answers the same for every new file, handed in as a new one or as a stored one (document 02, E4).
--   spare-same             the answer is the same
-- What the answer for a stored file means is said by `Spared`, over the lowered limits. That it is the answer for the limits as stored too
-- is `stored-spare` (claimfile).
use mathlib.Core.Path.{◌≡◌, ap}
use mathlib.Core.List.{List}
use Prim.Native.Nat.{ℕ}
use Rattle.claimfile.specs.File.{as_stored}
use Rattle.reader.specs.Reading.{reading}
use Rattle.claimfile.specs.declared.Form.{Form}
use Rattle.claimfile.specs.declared.Layout.{Layout}
use Rattle.limits.proofs.StoredLaws.{entered-same}
use Rattle.spare.specs.Spare.{spare_by, spare}
use Rattle.std.specs.Prelude.{Ok}

pub spare-same :
    (f : Form) (s sel : List ℕ) (l : Layout) → reading f s ≡ Ok l → (x : ℕ) → spare (as_stored f) s sel x ≡ spare f s sel x
unfolding spare
spare-same f s sel l is x = ap (spare_by s sel x) (entered-same f s sel l is)
