-- Spare places answers the same for an accepted file and for its week file (document 02, E9: "Old-layout files .. act as ones with the same
-- limit on seven days"). Both hold the same day, and the answer is decided by it (`entry-week`, limits).
--   spare-week             the answer is the same
use mathlib.Core.Path.{◌≡◌, refl, ap}
use mathlib.Core.List.{List}
use Prim.Native.Nat.{ℕ, ◌<◌}
use lib.Dec.{leb, eqb}
use lib.ListN.{get_or}
use Rattle.theory.specs.Sum.{pick}
use Rattle.theory.specs.Matroid.{row}
use Rattle.theory.specs.Spare.{spare_places}
use Rattle.claimfile.specs.declared.Form.{Form}
use Rattle.claimfile.specs.declared.Layout.{Layout}
use Rattle.reader.specs.Reading.{reading}
use Rattle.claimwriter.specs.Week.{week_form, as_week}
use Rattle.refusal.specs.declared.Reason.TheVariants.{Value, Selected}
use Rattle.limits.proofs.WeekLaws.{entry-week}
use Rattle.spare.specs.Spare.{spare_by, spare}
use Rattle.std.specs.Prelude.{Ok, Err}

pub spare-week :
    (f : Form) (s : List ℕ) (l : Layout) → reading f s ≡ Ok l → ((i : ℕ) → get_or s i 0 < 256) → (sel : List ℕ) (x : ℕ) →
    spare f s sel x ≡ spare (week_form f) (as_week s l) sel x
unfolding spare
spare-week f s l is bytes sel x =
    entry-week f s l is bytes sel (spare_by s sel x) (spare_by (as_week s l) sel x) (λ why. refl)
    (ap
    (λ i.
    pick (leb l.rows x) (Err Value)
    (pick (eqb (row sel x) 1) (Err Selected) (Ok (spare_places i.net i.limit (row sel) x)))))
