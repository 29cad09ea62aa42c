-- Laws of the spare places of a row of a file.
--   RoomAt RoomOn          a group, and each group that the row counts in on a side, has k places left
--   rooms-places places-rooms      there are k places on both sides exactly where each group of the network has them
--   Sides                  what holds when some sides are done: the selection fits them, and the number is the greatest with places there
--   sides-start sides-end  before the first side and after the last
--   Groups                 the same of the groups of a list, on a side
--   groups-start groups-step   at the start of the list, and at the next group
--   chain-inside chain_fits chain-step chain-end   the same of the row's chain, by the counts of a side; with all its groups the
--                          side is done
--   unfit-side full-group  where it is left early
--   told-spares            what the number means
--   spare-value spare-selected spare-row   the answer for an accepted file, one law a case
--   spared-by              an answer that is as defined says what it means, and has at most 65535 places
use mathlib.Core.Path.{◌≡◌, refl, sym, ap, ◌∙◌, subst}
use mathlib.Core.List.{List}
use mathlib.Core.Bool.{true}
use mathlib.Core.Logic.{inl, inr, ◌≢◌}
use Prim.Native.Nat.{ℕ, zero, suc, ◌+◌, ◌-◌, min, ◌≤◌, ◌<◌, zero-le}
use native.Mathlib.Nat.{le_refl}
use native.Mathlib.Decide.{ℕ_discrete, dec_lt}
use native.Mathlib.Omega.{arith}
use lib.ListN.{get_or}
use lib.Dec.{leb, eqb}
use borrow.Author.Tests.{lt-leb, le-leb, eq-eqb, ne_eqb}
use Rattle.theory.specs.Bounds.{max_limit}
use Rattle.theory.specs.Incidence.{load}
use Rattle.theory.specs.Matroid.{row}
use Rattle.theory.specs.Network.{Network, on_both, FitsSide, FitsBoth, fits_both}
use Rattle.theory.specs.Formed.{Formed}
use Rattle.theory.specs.Spare.{spare_places, HasPlaces}
use Rattle.theory.proofs.TestLaws.{either, both_true}
use Rattle.theory.proofs.SpareLaws.{spare-none, spare-unfit, spare-most, spare-places, spare-greatest, spares}
use Rattle.theory.proofs.ForestLaws.{up_one, up-own}
use Rattle.claimfile.specs.Day.{count_of, group_of, groups_of, first_of, written_of, limit_of, network_of, instance_of}
use Rattle.claimfile.specs.declared.Form.{Form}
use Rattle.claimfile.specs.declared.Layout.{Layout}
use Rattle.claimfile.specs.declared.Group.{Group}
use Rattle.claimfile.proofs.DayLaws.{side-room, each-node, written_on, limit-small, sound-formed}
use Rattle.reader.proofs.StoredLaws.{stored-spare}
use Rattle.refusal.specs.declared.Reason.{Reason}
use Rattle.refusal.specs.declared.Reason.TheVariants.{Value, Selected}
use Rattle.refusal.proofs.TableLaws.{number-some}
use Rattle.claimfile.specs.File.{first_terms}
use Rattle.sides.specs.declared.Found.{Found}
use Rattle.limits.specs.Answers.{entered}
use Rattle.spare.specs.Spare.{SparesOn, spare_by, spare, spare_numbers, Spared}
use Rattle.sides.specs.Ready.{Ready}
use Rattle.sides.specs.Side.{limit_in, hangs, counts_in, FitsIn, Placed}
use Rattle.spare.specs.Chain.{Chained}
use Rattle.sides.proofs.ParentLaws.{side-down}
use Rattle.sides.proofs.SideLaws.{group-node, node-group, both-on, both-load}
use Rattle.limits.proofs.EntryLaws.{entering}
use Rattle.std.specs.Prelude.{Ok, Err, Result}

module _ (s sel : List ℕ) (l : Layout) (x : ℕ) where
  abbrev pub RoomAt : ℕ → ℕ → ℕ → Type 0
  RoomAt side h k = load l.rows (counts_in s l side) (row sel) h + k ≤ limit_in s l side h

  abbrev pub RoomOn : ℕ → ℕ → Type 0
  RoomOn side k = (h : ℕ) → h < count_of l side → counts_in s l side x h ≡ 1 → RoomAt side h k

  -- the sides before `side` are done
  pub record Sides (side n : ℕ) : Type 0 where
    pub fits : (t : ℕ) → t < side → FitsIn s l t (row sel)
    pub most : n ≤ max_limit
    pub room : (t : ℕ) → t < side → RoomOn t n
    pub greatest : (k : ℕ) → k ≤ max_limit → ((t : ℕ) → t < side → RoomOn t k) → k ≤ n

  pub sides-start : Sides 0 max_limit
  sides-start =
      record {
        fits = λ t h. absurd (omega arith);
        most = le_refl max_limit;
        room = λ t h. absurd (omega arith);
        greatest = λ k h rooms. h;
      }

  -- the groups of the list before the one in cell j are done; the number was m before the first
  pub record Groups (side m : ℕ) (list : List ℕ) (j n : ℕ) : Type 0 where
    pub least : n ≤ m
    pub room : (i : ℕ) → i < j → RoomAt side (row list i) n
    pub greatest : (k : ℕ) → k ≤ m → ((i : ℕ) → i < j → RoomAt side (row list i) k) → k ≤ n

  module _ (side m : ℕ) (list : List ℕ) where
    pub groups-start : Groups side m list 0 m
    groups-start =
        record { least = le_refl m; room = λ i h. absurd (omega arith); greatest = λ k h rooms. h }

    -- c rows of the selection count in the next group
    groups-step :
        (j n c : ℕ) → Groups side m list j n → c ≡ load l.rows (counts_in s l side) (row sel) (row list j) →
        c ≤ limit_in s l side (row list j) → Groups side m list (j + 1) (min n (limit_in s l side (row list j) - c))
    groups-step j n c g e fits =
        record {
          least = omega (arith, g.least);
          room = λ i h.
              elim (ℕ_discrete j i) [
                | yes q ↦
                    subst (λ a. RoomAt side (row list a) (min n (limit_in s l side (row list j) - c))) q (omega (arith, e, fits))
                | no q ↦ omega (arith, g.room i (omega arith))
              ];
          greatest = λ k h rooms. omega (arith, e, g.greatest k h (λ i b. rooms i (omega arith)), rooms j (omega arith));
        }

  -- the row's chain on a side that the selection fits, with the counts there
  module _
      (side : ℕ) (list : List ℕ) (r : ℕ) (chained : Chained s l side x list r) (counts : List ℕ) (f : Found)
      (placed : Placed s sel l side counts f) (fit : f.fits ≡ true)
    where
      -- the group in cell j, with its record
      module _ (j : ℕ) (within : j < r) (g : ℕ) (is : g ≡ row list j) where
        pub chain-inside : g < count_of l side
        chain-inside = rw is (chained.lists.each j zero-le within).0

        counted : row counts g ≡ load l.rows (counts_in s l side) (row sel) g
        counted = placed.lifted.counts fit g chain-inside

        module _ (q : Group) (record_is : q ≡ group_of s l side g) where
          pub chain_fits : row counts g ≤ q.limit
          chain_fits =
              omega (arith, counted, ap (λ (p : Group). p.limit) record_is, placed.lifted.fits fit g chain-inside)

          pub chain-step :
              (m n : ℕ) → Groups side m list j n →
              Groups side m list (j + 1) (min n (q.limit - row counts g))
          chain-step m n before =
              let limit_is : limit_in s l side (row list j) ≡ q.limit =
              ap (λ h. limit_in s l side h) (sym is) ∙ sym (ap (λ (p : Group). p.limit) record_is) in
              subst (λ y. Groups side m list (j + 1) (min n (y - row counts g))) limit_is
              (groups-step side m list j n (row counts g) before
              (counted ∙ ap (λ h. load l.rows (counts_in s l side) (row sel) h) is)
              (omega (arith, chain_fits, limit_is)))

      -- with all groups of the chain the side is done
      pub chain-end : (m n j : ℕ) → j ≡ r → Sides side m → Groups side m list j n → Sides (side + 1) n
      chain-end m n j all before g =
          record {
            fits = λ t h.
                elim (ℕ_discrete side t) [
                  | yes e ↦ rw (← e) (placed.lifted.fits fit)
                  | no e ↦ before.fits t (omega arith)
                ];
            most = omega (arith, g.least, before.most);
            room = λ t h.
                elim (ℕ_discrete side t) [
                  | yes e ↦ subst (λ u. RoomOn u n) e here
                  | no e ↦ λ v i q. omega (arith, g.least, before.room t (omega arith) v i q)
                ];
            greatest = λ k h rooms.
                g.greatest k (before.greatest k h (λ t b. rooms t (omega arith)))
                (λ i b.
                let on = chained.lists.each i zero-le (omega arith) in
                rooms side (omega arith) (row list i) on.0 on.1);
          }
        where
          here : RoomOn side n
          here v i e =
              let cell = chained.lists.all v i e in
              subst (λ u. RoomAt side u n) cell.3 (g.room cell.0 (omega (arith, cell.2)))

--------------------------------------------------------------------------------
-- Both sides

module _ (s sel : List ℕ) (l : Layout) (ready : Ready s sel l) (x : ℕ) (inside : x < l.rows) where
  abbrev net : Network
  net = network_of s l

  formed : Formed net
  formed = sound-formed s l ready.sound

  abbrev number : ℕ
  number = spare_places net (limit_of s l) (row sel) x

  -- the same number by the written limits, which the code reads
  abbrev by_written : ℕ
  by_written = spare_places net (written_of s l) (row sel) x

  same_number : by_written ≡ number
  same_number = stored-spare s l ready.sound (row sel) x inside

  abbrev Fits : Type 0
  Fits = FitsBoth net (written_of s l) (row sel)

  rooms-places :
      (k : ℕ) → ((side : ℕ) → RoomOn s sel l x side k) → HasPlaces (network_of s l) (written_of s l) (row sel) x k
  rooms-places k rooms =
      each-node s l
      (λ v. on_both (network_of s l) x v ≡ 1 → load l.rows (on_both (network_of s l)) (row sel) v + k ≤ written_of s l v)
      (λ side g m e.
      omega (
        arith,
        rooms side g m (sym (both-on s l ready.sound x inside side g m) ∙ e),
        both-load s l ready.sound (row sel) side g m,
        written_on s l side g m,
      ))

  places-rooms :
      (k : ℕ) → HasPlaces (network_of s l) (written_of s l) (row sel) x k → (side : ℕ) → RoomOn s sel l x side k
  places-rooms k places side g m e =
      omega (
        arith,
        places (first_of l side + g) (omega (arith, side-room l side))
            (both-on s l ready.sound x inside side g m ∙ e),
        both-load s l ready.sound (row sel) side g m,
        written_on s l side g m,
      )

  -- a side that is not the card side is the shop side
  each-side : (k : ℕ) → ((t : ℕ) → t < 2 → RoomOn s sel l x t k) → (side : ℕ) → RoomOn s sel l x side k
  each-side k rooms zero = rooms 0 (omega arith)
  each-side k rooms (suc n) = rooms 1 (omega arith)

  fits_on : Fits → (side : ℕ) → FitsIn s l side (row sel)
  fits_on f zero = node-group s l ready.sound 0 (limit_in s l 0) (written_of s l) (written_on s l 0) (row sel) f.0
  fits_on f (suc n) = node-group s l ready.sound 1 (limit_in s l 1) (written_of s l) (written_on s l 1) (row sel) f.1

  pub sides-end : (side n : ℕ) → 2 ≤ side → Sides s sel l x side n → n ≡ number
  sides-end side n all d =
      spare-greatest net formed (written_of s l) (row sel) x inside
      (fits 0 (omega arith), fits 1 (omega arith))
      n d.most
      (rooms-places n (each-side n (λ t h. d.room t (omega arith))))
      (λ k h places. d.greatest k h (λ t b. places-rooms k places t))
      ∙ same_number
    where
      fits : (t : ℕ) → t < 2 → FitsSide net (written_of s l) t (row sel)
      fits t h =
          group-node s l ready.sound t (limit_in s l t) (written_of s l) (written_on s l t) (row sel) (d.fits t (omega arith))

  -- left where a side does not fit
  pub unfit-side : (side : ℕ) → ¬ FitsIn s l side (row sel) → 0 ≡ number
  unfit-side side unfit =
      sym (spare-unfit net (written_of s l) (row sel) x (λ f. unfit (fits_on f side))) ∙ same_number

  -- left where a group has no place
  pub full-group :
      (side m : ℕ) (list : List ℕ) (r j n : ℕ) → Sides s sel l x side m → Chained s l side x list r → j ≤ r →
      Groups s sel l x side m list j n → n ≡ 0 → n ≡ number
  full-group side m list r j n before chained upto g none =
      elim (either (fits_both net (written_of s l) (row sel))) [
        | inl e ↦ omega (arith, most (both_true net (written_of s l) (row sel) e), same_number)
        | inr e ↦ none ∙ sym (spare-none net (written_of s l) (row sel) x e) ∙ same_number
      ]
    where
      most : Fits → by_written ≤ n
      most f =
          let rooms = places-rooms by_written
          (spare-places net formed (written_of s l) (row sel) x inside f by_written (le_refl by_written)) in
          g.greatest by_written
          (before.greatest by_written (spare-most net (written_of s l) (row sel) x) (λ t b. rooms t))
          (λ i b.
          let on = chained.lists.each i zero-le (omega arith) in
          rooms side (row list i) on.0 on.1)

  -- the row counts in a group of the shop side, whose limit is a number of 16 bits
  told-spares : ((i : ℕ) → get_or s i 0 < 256) → SparesOn (instance_of s l) sel x number
  told-spares bytes =
      let h = hangs s l 1 x in
      let own = ready.sound.row_shops x inside in
      let within : l.cards + h < groups_of l = omega arith in
      spares net formed (limit_of s l) (row sel) x inside (l.cards + h) within
      (both-on s l ready.sound x inside 1 h own ∙ up_one (side-down s l 1) h h (up-own (side-down s l 1) h own))
      (omega (arith, limit-small s l bytes (l.cards + h) within))

  pub spares-on : ((i : ℕ) → get_or s i 0 < 256) → (n : ℕ) → n ≡ number → SparesOn (instance_of s l) sel x n
  spares-on bytes n e = subst (SparesOn (instance_of s l) sel x) (sym e) (told-spares bytes)

--------------------------------------------------------------------------------
-- The answer

module _ (s sel : List ℕ) (x : ℕ) where
  spare-by : (f : Form) (y : Result Layout Reason) → entered f s sel ≡ y → spare f s sel x ≡ spare_by s sel x y
  unfolding spare
  spare-by f y e = ap (spare_by s sel x) e

  module _ (l : Layout) where
    pub spare-value : l.rows ≤ x → Err Value ≡ spare_by s sel x (Ok l)
    spare-value h = rw (le-leb _ _ h)

    module _ (h : x < l.rows) where
      pub spare-selected : row sel x ≡ 1 → Err Selected ≡ spare_by s sel x (Ok l)
      spare-selected e = rw (lt-leb _ _ h, eq-eqb _ _ e)

      pub spare-row :
          row sel x ≢ 1 → (n : ℕ) → n ≡ spare_places (network_of s l) (limit_of s l) (row sel) x →
          Ok n ≡ spare_by s sel x (Ok l)
      spare-row out n e = rw (lt-leb _ _ h, ne_eqb _ _ out) (ap Ok e)

by_most : (s sel : List ℕ) (x : ℕ) (y : Result Layout Reason) → (spare_numbers (spare_by s sel x y)).places ≤ max_limit
by_most s sel x (Err why) = zero-le
by_most s sel x (Ok l) =
    elim (either (leb l.rows x)) [
      | inl e ↦ rw e zero-le
      | inr e ↦
          elim (either (eqb (row sel x) 1)) [
            | inl q ↦ rw (e, q) zero-le
            | inr q ↦ rw (e, q) (spare-most (network_of s l) (limit_of s l) (row sel) x)
          ]
    ]

module _ (f : Form) (s sel : List ℕ) (x : ℕ) (r : Result ℕ Reason) (is : r ≡ spare f s sel x) (bytes : (i : ℕ) → get_or s i 0 < 256) where
  -- a refusal's number is not 0
  not-refused : {A : Type 0} (why : Reason) → (spare_numbers r).refusal ≡ 0 → r ≡ Err why → A
  not-refused why none e = absurd (omega (arith, number-some why, ap (λ y. (spare_numbers y).refusal) e))

  means-entered :
      (l : Layout) → (spare_numbers r).refusal ≡ 0 → entered f s sel ≡ Ok l → Ready s sel l →
      (row sel x ≡ 0) × SparesOn (instance_of s l) sel x (spare_numbers r).places
  means-entered l none e ready =
      elim (dec_lt x l.rows) [
        | no h ↦ not-refused Value none (by ∙ sym (spare-value s sel x l (omega arith)))
        | yes h ↦
            elim (ℕ_discrete (row sel x) 1) [
              | yes q ↦ not-refused Selected none (by ∙ sym (spare-selected s sel x l h q))
              | no q ↦ (
                omega (arith, ready.bits x h),
                subst (λ (y : Result ℕ Reason). SparesOn (instance_of s l) sel x (spare_numbers y).places)
                    (spare-row s sel x l h q _ refl ∙ sym by) (told-spares s sel l ready x h bytes),
              )
            ]
      ]
    where
      by : r ≡ spare_by s sel x (Ok l)
      by = is ∙ spare-by s sel x f (Ok l) e

  small : (spare_numbers r).places ≤ max_limit
  unfolding spare
  small = omega (arith, ap (λ y. (spare_numbers y).places) is, by_most s sel x (entered f s sel))

  spared : Spared f s sel x r
  spared =
      record {
        is = is;
        numbers = ap spare_numbers is;
        most = small;
        means = λ l e none.
            elim (entering first_terms f s sel l e) [
              | inl q ↦ not-refused q.0 none (is ∙ spare-by s sel x f (Err q.0) q.1)
              | inr q ↦ means-entered l none q.0 q.1
            ];
      }

-- the same of what the call answers: y is the entry that was found, z what it is
pub spared-by :
    (f : Form) (s sel : List ℕ) → ((i : ℕ) → get_or s i 0 < 256) → (x : ℕ) (r : Result ℕ Reason) (y z : Result Layout Reason) → y ≡ entered f s sel → y ≡ z →
    r ≡ spare_by s sel x z → Spared f s sel x r
spared-by f s sel bytes x r y z e q is = spared f s sel x r (is ∙ sym (spare-by s sel x f z (sym e ∙ q))) bytes
