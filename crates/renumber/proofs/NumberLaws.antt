-- Laws of the table of a side as its rows are gone through.
--   WaysTo ways-step ways-rowed    at the start: no group has a number
--   rowed-few              no more than 256 groups have a number
--   rowed-walk rowed-free rowed-climbs     the walks of the next row
--   rowed-next             the table after it
--   rowed-as               the table, by an equal number of the row
--   rowed-end              the table after the last row
use mathlib.Core.Path.{◌≡◌, sym, ap, ◌∙◌, subst}
use mathlib.Core.List.{List}
use Prim.Native.Nat.{ℕ, ◌+◌, ◌≤◌, ◌<◌, zero-le}
use native.Mathlib.Decide.{ℕ_discrete, dec_lt}
use native.Mathlib.Omega.{arith}
use lib.ListN.{length, set}
use lib.Seq.{get_or-set_same, get_or-set_other}
use Rattle.theory.specs.Bounds.{max_groups}
use Rattle.theory.proofs.ForestLaws.{up-inside, up-own}
use Rattle.claimfile.specs.Sound.{Sound}
use Rattle.claimfile.specs.declared.Layout.{Layout}
use Rattle.claimfile.proofs.DayLaws.{side-most}
use Rattle.renumber.specs.Side.{Side, up, lowest}
use Rattle.renumber.specs.Canonical.{named, side_of}
use Rattle.renumber.specs.Numbers.{cell, way_from, cell_before, Rowed, Numbers}
use Rattle.renumber.specs.Numbers.{Walk, fresh, free, Unnumbered, Climbs, Climbed, NumberedUp}
use Rattle.renumber.proofs.ChainLaws.{SoundSide, side-down}
use Rattle.renumber.proofs.OrderLaws.{lowest-least, low-used, used_low, used-inside}
use Rattle.renumber.proofs.DayLaws.{side-sound}
use Rattle.renumber.proofs.CellLaws.{way-large, cell-number, cell-way, low-counts}
use Rattle.renumber.proofs.CellLaws.{given-few, given-start, given-next, given-end}

-- the cells of the groups before g are those of groups without a number
abbrev pub WaysTo : Side → List ℕ → ℕ → Type 0
WaysTo d t g = (h : ℕ) → h < g → cell t h ≡ way_from d h

pub ways-step :
    (d : Side) (t : List ℕ) (g w : ℕ) → g < length t → w ≡ way_from d g → WaysTo d t g → WaysTo d (set t g w) (g + 1)
ways-step d t g w inside e to h m =
    elim (ℕ_discrete g h) [
      | yes q ↦ rw (← q) (get_or-set_same t g w 0 inside ∙ e)
      | no q ↦ get_or-set_other t g h w 0 (λ i. q (sym i)) ∙ to h (omega arith)
    ]

pub ways-rowed : (d : Side) (t : List ℕ) → length t ≡ max_groups → WaysTo d t d.groups → Rowed d 0 t 0
ways-rowed d t size ways =
    record { size = size; count = sym (given-start d); cells = λ g l. ways g l ∙ sym (cell-way d g 0 zero-le) }

-- row k, which names g
module _
    {s : List ℕ} {l : Layout} (sound : Sound s l) (side : ℕ) {k g n : ℕ} {t : List ℕ} (row : k < l.rows)
    (e : g ≡ named s l side k) (r : Rowed (side_of s l side) k t n)
  where
    abbrev d : Side
    d = side_of s l side

    sd : SoundSide d
    sd = side-sound sound side

    pub rowed-few : n ≤ max_groups
    rowed-few = omega (arith, r.count, given-few d k, side-most s l sound side)

    abbrev rowed-walk : Walk t g
    rowed-walk =
        record {
          file = s;
          layout = l;
          side = side;
          row = k;
          sound = sound;
          inside = row;
          counted = subst (λ v. 1 ≤ up d (d.names k) v) (sym e) (up-own (side-down sd) (d.names k) (sd.named k row));
          cells = λ h m. r.cells h (up-inside (side-down sd) g h m);
        }

    module _ (m : ℕ) (counted : Unnumbered t g n m) where
      rowed-free : m ≡ free rowed-walk
      rowed-free = omega (arith, counted rowed-walk, r.count)

      pub rowed-climbs : Climbs t g m
      rowed-climbs = record { size = r.size; walk = rowed-walk; end = rowed-free }

      -- the groups that have a number after this row and not before have it as their lowest row; they are g and groups above it
      pub rowed-next : (u : List ℕ) → NumberedUp t u g m → Rowed d (k + 1) u m
      rowed-next u numbered =
          record {
            size = climbed.size ∙ r.size;
            count = omega (arith, rowed-free, given-next sd k row, ap (fresh d k) e);
            cells = λ h inside.
                elim (dec_lt (up d g h) 1) [
                  | yes z ↦ climbed.kept h (omega arith) ∙ r.cells h inside ∙ other h (omega arith)
                  | no z ↦
                      let low = lowest-least d h k row (subst (λ v. 1 ≤ up d v h) e (omega arith)) in
                      climbed.numbered h (omega arith) ∙ sym (cell-number d h (k + 1) (omega (arith, low)))
                ];
          }
        where
          climbed : Climbed rowed-walk u
          climbed = numbered rowed-walk rowed-free

          other : (h : ℕ) → up d g h ≡ 0 → cell_before d k h ≡ cell_before d (k + 1) h
          other h none =
              elim (dec_lt (lowest d h) k) [
                | yes m ↦ cell-number d h k m ∙ sym (cell-number d h (k + 1) (omega arith))
                | no m ↦
                    elim (dec_lt k (lowest d h)) [
                      | yes q ↦ cell-way d h k (omega arith) ∙ sym (cell-way d h (k + 1) (omega arith))
                      | no q ↦
                          absurd (omega (arith, none, low-counts sd k row h (omega arith), ap (λ v. up d v h) e))
                    ]
              ]

pub rowed-as : {d : Side} {k m : ℕ} {t : List ℕ} {n : ℕ} → m ≡ k → Rowed d k t n → Rowed d m t n
rowed-as {d} {k} {m} {t} {n} e r = subst (λ i. Rowed d i t n) (sym e) r

pub rowed-end : {d : Side} → SoundSide d → (t : List ℕ) (n : ℕ) → Rowed d d.rows t n → Numbers d t n
rowed-end {d} sd t n r =
    record {
      count = r.count ∙ given-end d;
      used = λ g u. r.cells g (used-inside sd g u) ∙ cell-number d g d.rows (used_low d g u);
      dropped = λ g inside n.
          elim (dec_lt (lowest d g) d.rows) [
            | yes m ↦ absurd (n (low-used d g m))
            | no m ↦ omega (arith, r.cells g inside, cell-way d g d.rows (omega arith), way-large d g)
          ];
    }
