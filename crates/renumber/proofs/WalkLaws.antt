-- Laws of one walk through the parents, from a group that a row counts in. The groups from it up whose lowest row is this row
-- have no number yet; they are the first that the walk comes to, since a row that counts in a group counts in those above it.
--   walk-sound walk_inside walk-most walk-cell     the side, the group and its cell
--   number-few             its number is below 256
--   walk-old walk-new      where it has a number a lower row counts in it, else this is its lowest row
--   walk-way walk-parent walk_top      where its cell leads
--   fresh-old fresh-new fresh-past     how many groups from it up have no number
--   free_new               the number that it gets
--   up_to up-under walk_up the walk from its parent, in a table that is alike there
--   count_none count-top count-up      one law for each branch of the first walk
--   set_own set_other set-up free_up   the table with the group's number, and the walk from its parent there
--   climbed-by climbed-top climbed-up  what the second walk has done, by what it did from the parent on
--   climbs-inside climbs-some climbs-up    what the second walk asks
--   climb-none climb-top climb-up      one law for each branch of the second walk
use mathlib.Core.Path.{◌≡◌, refl, sym, ap, ◌∙◌, subst}
use mathlib.Core.Logic.{inl, inr, ◌≢◌}
use mathlib.Core.List.{List}
use Prim.Native.Nat.{ℕ, ◌+◌, ◌≤◌, ◌<◌}
use native.Mathlib.Decide.{dec_lt}
use native.Mathlib.Omega.{arith}
use lib.ListN.{length, set, length-set}
use lib.Seq.{get_or-set_same, get_or-set_other}
use Rattle.theory.specs.Bounds.{max_groups}
use Rattle.theory.proofs.SumLaws.{same-eq}
use Rattle.theory.proofs.ForestLaws.{chain-in, up_start, up-inside, up-own, up-parent, up_split, up-trans, up-less}
use Rattle.claimfile.proofs.DayLaws.{side-most}
use Rattle.renumber.specs.Side.{up, lowest, number}
use Rattle.renumber.specs.Numbers.{cell, way_from, cell_before, Walk, on, fresh, free}
use Rattle.renumber.specs.Numbers.{Unnumbered, Climbs, Climbed, NumberedUp}
use Rattle.renumber.proofs.ChainLaws.{SoundSide, side-down}
use Rattle.renumber.proofs.OrderLaws.{lowest-least, low-used, up-lowest, number_small}
use Rattle.renumber.proofs.SideLaws.{few-groups}
use Rattle.renumber.proofs.DayLaws.{side-sound}
use Rattle.renumber.proofs.CellLaws.{way-parent, way-top, way-large, cell-number, cell-way}
use Rattle.renumber.proofs.CellLaws.{fresh-zero, fresh-own, number-fresh}

module _ {t : List ℕ} {g : ℕ} (w : Walk t g) where
  walk-sound : SoundSide (on w)
  walk-sound = side-sound w.sound w.side

  walk_inside : g < (on w).groups
  walk_inside = up-inside (side-down walk-sound) ((on w).names w.row) g w.counted

  walk-most : (on w).groups ≤ max_groups
  walk-most = side-most w.file w.layout w.sound w.side

  walk-cell : cell t g ≡ cell_before (on w) w.row g
  walk-cell = w.cells g (up-own (side-down walk-sound) g walk_inside)

  walk-old : cell t g < max_groups → lowest (on w) g < w.row
  walk-old small =
      elim (dec_lt (lowest (on w) g) w.row) [
        | yes l ↦ l
        | no l ↦ absurd (omega (arith, walk-cell, cell-way (on w) g w.row (omega arith), way-large (on w) g))
      ]

  number-few : lowest (on w) g ≤ w.row → number (on w) g < max_groups
  number-few low =
      let used = low-used (on w) g (omega (arith, w.inside)) in
      omega (arith, number_small walk-sound g used, few-groups (on w), walk-most)

  walk-new : max_groups ≤ cell t g → lowest (on w) g ≡ w.row
  walk-new large =
      elim (dec_lt (lowest (on w) g) w.row) [
        | yes l ↦ absurd (omega (arith, walk-cell, cell-number (on w) g w.row l, number-few (omega arith)))
        | no l ↦ omega (arith, lowest-least (on w) g w.row w.inside w.counted)
      ]

  walk-way : max_groups ≤ cell t g → cell t g ≡ way_from (on w) g
  walk-way large = walk-cell ∙ cell-way (on w) g w.row (omega (arith, walk-new large))

  walk-parent : (p : ℕ) → cell t g ≡ max_groups + p → p < g → (on w).parent g ≡ p
  walk-parent p e less =
      elim (dec_lt ((on w).parent g) (on w).groups) [
        | yes l ↦ omega (arith, walk-way (omega arith), way-parent (on w) g l)
        | no l ↦ absurd (omega (arith, walk-way (omega arith), way-top (on w) g (omega arith), walk_inside, walk-most))
      ]

  walk_top : max_groups + g ≤ cell t g → (on w).groups ≤ (on w).parent g
  walk_top large =
      elim (dec_lt ((on w).parent g) (on w).groups) [
        | yes l ↦
            elim (walk-sound.rooted g walk_inside) [
              | inl m ↦ absurd (omega (arith, walk-way (omega arith), way-parent (on w) g l))
              | inr e ↦ omega arith
            ]
        | no l ↦ omega arith
      ]

  fresh-old : lowest (on w) g < w.row → fresh (on w) w.row g ≡ 0
  fresh-old l =
      fresh-zero walk-sound w.row g
      (λ h m e. omega (arith, up-lowest walk-sound g h (low-used (on w) g (omega (arith, w.inside))) m))

  fresh-new : lowest (on w) g ≡ w.row → fresh (on w) w.row g ≡ fresh (on w) w.row ((on w).parent g) + 1
  fresh-new = fresh-own walk-sound w.row g walk_inside

  fresh-past : (on w).groups ≤ (on w).parent g → fresh (on w) w.row ((on w).parent g) ≡ 0
  fresh-past past =
      fresh-zero walk-sound w.row ((on w).parent g)
      (λ h m e. omega (arith, up_start (side-down walk-sound) ((on w).parent g) h m))

  free_new : lowest (on w) g ≡ w.row → free w ≡ number (on w) g + 1
  free_new e = omega (arith, fresh-new e, number-fresh walk-sound w.row g e)

  module _ (p : ℕ) (e : (on w).parent g ≡ p) (less : p < g) where
    up_to : 1 ≤ up (on w) g p
    up_to = subst (λ v. 1 ≤ up (on w) g v) e (up-parent (side-down walk-sound) g walk_inside (omega (arith, walk_inside)))

    up-under : (h : ℕ) → 1 ≤ up (on w) p h → h < g
    up-under h m = up-less (side-down walk-sound) g h walk_inside (subst (λ v. 1 ≤ up (on w) v h) (sym e) m)

    abbrev walk_up : (u : List ℕ) → ((h : ℕ) → h < g → cell u h ≡ cell t h) → Walk u p
    walk_up u alike =
        record {
          file = w.file;
          layout = w.layout;
          side = w.side;
          row = w.row;
          sound = w.sound;
          inside = w.inside;
          counted = up-trans (side-down walk-sound) ((on w).names w.row) g p w.counted up_to;
          cells = λ h m. alike h (up-under h m) ∙ w.cells h (up-trans (side-down walk-sound) g p h up_to m);
        }

--------------------------------------------------------------------------------
-- The first walk

module _ (t : List ℕ) (g n : ℕ) where
  pub count_none : cell t g < max_groups → Unnumbered t g n n
  count_none small w = omega (arith, fresh-old w (walk-old w small))

  pub count-top : max_groups + g ≤ cell t g → Unnumbered t g n (n + 1)
  count-top past w = omega (arith, fresh-new w (walk-new w (omega arith)), fresh-past w (walk_top w past))

  pub count-up : (p r : ℕ) → cell t g ≡ max_groups + p → p < g → Unnumbered t p (n + 1) r → Unnumbered t g n r
  count-up p r way less counted w =
      let e = walk-parent w p way less in
      omega (
        arith,
        counted (walk_up w p e less t (λ h m. refl)),
        fresh-new w (walk-new w (omega arith)),
        ap (fresh (on w) w.row) e,
      )

--------------------------------------------------------------------------------
-- The second walk

module _ {t : List ℕ} {g : ℕ} (w : Walk t g) where
  -- g has its number, those above it have theirs, and nothing else has changed
  climbed-by :
      (u : List ℕ) → length u ≡ length t → cell u g ≡ number (on w) g →
      ((h : ℕ) → 1 ≤ up (on w) ((on w).parent g) h → cell u h ≡ number (on w) h) →
      ((h : ℕ) → h ≢ g → up (on w) ((on w).parent g) h ≡ 0 → cell u h ≡ cell t h) → Climbed w u
  climbed-by u size own above others =
      record {
        size = size;
        numbered = λ h m.
            elim (up_split (side-down (walk-sound w)) g (walk_inside w) h m) [
              | inl e ↦ subst (λ v. cell u v ≡ number (on w) v) e own
              | inr o ↦ above h o
            ];
        kept = λ h m.
            let two = chain-in (on w).groups (on w).parent (side-down (walk-sound w)) g h (walk_inside w) in
            others h (λ e. omega (arith, two, same-eq g h (sym e))) (omega (arith, two));
      }

  module _ (last : ℕ) where
    set_other : (h : ℕ) → h ≢ g → cell (set t g last) h ≡ cell t h
    set_other h n = get_or-set_other t g h last 0 n

    abbrev set-up : (p : ℕ) → (on w).parent g ≡ p → p < g → Walk (set t g last) p
    set-up p e less = walk_up w p e less (set t g last) (λ h m. set_other h (λ q. omega arith))

    module _ (large : max_groups ≤ cell t g) (is : last + 1 ≡ free w) where
      -- those above g get the numbers before
      free_up : (p : ℕ) (e : (on w).parent g ≡ p) (less : p < g) → last ≡ free (set-up p e less)
      free_up p e less = omega (arith, fresh-new w (walk-new w large), ap (fresh (on w) w.row) e)

      module _ (long : length t ≡ max_groups) where
        set_own : cell (set t g last) g ≡ number (on w) g
        set_own =
            get_or-set_same t g last 0 (omega (arith, walk_inside w, walk-most w))
            ∙ omega (arith, free_new w (walk-new w large))

        climbed-top : (on w).groups ≤ (on w).parent g → Climbed w (set t g last)
        climbed-top past =
            climbed-by (set t g last) (length-set t g last) set_own
            (λ h m. absurd (omega (arith, up_start (side-down (walk-sound w)) ((on w).parent g) h m))) (λ h n m. set_other h n)

        climbed-up :
            (p : ℕ) (e : (on w).parent g ≡ p) (less : p < g) (u : List ℕ) → Climbed (set-up p e less) u → Climbed w u
        climbed-up p e less u c =
            climbed-by u (c.size ∙ length-set t g last) (c.kept g apart ∙ set_own)
            (λ h m. c.numbered h (subst (λ v. 1 ≤ up (on w) v h) e m))
            (λ h n m. c.kept h (subst (λ v. up (on w) v h ≡ 0) e m) ∙ set_other h n)
          where
            apart : up (on w) p g ≡ 0
            apart =
                elim (dec_lt (up (on w) p g) 1) [
                  | yes m ↦ omega arith
                  | no m ↦ absurd (omega (arith, up-under w p e less g (omega arith)))
                ]

module _ {t : List ℕ} {g n : ℕ} (c : Climbs t g n) where
  pub climbs-inside : g < max_groups
  climbs-inside = omega (arith, walk_inside c.walk, walk-most c.walk)

  pub climb-none : cell t g < max_groups → NumberedUp t t g n
  climb-none small w is =
      record {
        size = refl;
        numbered = λ h m.
            let old = walk-old w small in
            let low = up-lowest (walk-sound w) g h (low-used (on w) g (omega (arith, old, w.inside))) m in
            w.cells h m ∙ cell-number (on w) h w.row (omega (arith, low, old));
        kept = λ h m. refl;
      }

  module _ (large : max_groups ≤ cell t g) where
    pub climbs-some : (1 ≤ n) × (n ≤ max_groups)
    climbs-some =
        let w = c.walk in
        let low = walk-new w large in
        let is = free_new w low in
        (omega (arith, c.end, is), omega (arith, c.end, is, number-few w (omega (arith, low))))

    module _ (last : ℕ) (e : last + 1 ≡ n) where
      pub climb-top : max_groups + g ≤ cell t g → NumberedUp t (set t g last) g n
      climb-top past w is = climbed-top w last large (e ∙ is) c.size (walk_top w past)

      module _ (p : ℕ) (way : cell t g ≡ max_groups + p) (less : p < g) (m : ℕ) (same : m ≡ last) where
        pub climbs-up : Climbs (set t g last) p m
        climbs-up =
            let w = c.walk in
            let q = walk-parent w p way less in
            record {
              size = length-set t g last ∙ c.size;
              walk = set-up w last p q less;
              end = same ∙ free_up w last large (e ∙ c.end) p q less;
            }

        pub climb-up : (u : List ℕ) → NumberedUp (set t g last) u p m → NumberedUp t u g n
        climb-up u up w is =
            let q = walk-parent w p way less in
            climbed-up w last large (e ∙ is) c.size p q less u
            (up (set-up w last p q less) (same ∙ free_up w last large (e ∙ is) p q less))
