-- Laws of writing the files of a joined day, one after the other.
--   given-keeps            a store changes nothing that was given
--   member-stands member-small wrote-member    a file, by the layout that its counts give
--   spot-none              where the first file stands
--   next-stands            file k stands where the files before it end
--   next-spot filled_next  once it is written, the next one stands behind it, and the first k + 1 files are written
--   put-oven oven-filled   the oven, by its two stores, and when it alone is written
use mathlib.Core.Path.{◌≡◌, refl, sym, ap, subst, ◌∙◌}
use mathlib.Core.Logic.{inl}
use mathlib.Core.List.{List}
use Prim.Native.Nat.{ℕ, suc, ◌+◌, ◌<◌}
use native.Mathlib.Numerals.{add-one}
use native.Mathlib.Omega.{arith}
use lib.ListN.{length}
use Rattle.theory.specs.Capped.{capped}
use Rattle.theory.specs.Network.{Instance}
use Rattle.claimfile.specs.declared.Layout.{Layout}
use Rattle.scratch.specs.declared.Shape.{Shape}
use Rattle.scratch.specs.Map.{max_spare, parents, spares, Room, Put}
use Rattle.scratch.proofs.MapLaws.{room-keeps}
use Rattle.tables.specs.declared.Spot.{Spot}
use Rattle.tables.specs.Tables.{Stands, PutFile}
use Rattle.counters.specs.Joined.{cards_of, shops_of, rows_of, oven_node}
use Rattle.counters.proofs.PartLaws.{sum-none, sum-suc, part_end}
use Rattle.members.specs.Members.{member_of, layouts_of}
use Rattle.jointables.specs.Filled.{spot_of, Filled, next_spot, layout_at, MemberStands, WroteMember, PutOven, days_of, JoinGiven}
use Rattle.jointables.proofs.FilledLaws.{filled-oven, filled-member}

pub given-keeps :
    (day : ℕ) (b ls : List ℕ) (sh : Shape) (t u : List ℕ) → length u ≡ length t → JoinGiven day b ls sh t → JoinGiven day b ls sh u
given-keeps day b ls sh t u e G = record { read = G.read; shape = G.shape; room = room-keeps e G.room }

pub put-oven :
    (sh : Shape) (t r u : List ℕ) (oven limit : ℕ) → limit ≡ capped max_spare oven → Put sh t r parents sh.cards (sh.groups + 1) →
    Put sh r u spares sh.cards limit → PutOven sh t u oven
put-oven sh t r u oven limit e A B = record {
  between = r;
  parent = A;
  limit = subst (λ (x : ℕ). Put sh r u spares sh.cards x) e B;
  long = B.long ∙ A.long;
}

-- y is the layout that the file's counts give
module _
    (day : ℕ) (s : List ℕ) (sh : Shape) (spot : Spot) (t : List ℕ) (M : MemberStands day s sh spot t) (y : Layout)
    (is : y ≡ layout_at day s)
  where
    pub member-stands : Stands s y sh spot t
    member-stands = subst (λ (k : Layout). Stands s k sh spot t) (sym is) M.stands

    pub member-small : (spot.card + y.cards < 65536) × (spot.shop + y.shops < 65536) × (spot.row + y.rows < 65536)
    member-small =
        let S = member-stands in (
          omega (arith, S.cards, S.room.few.groups),
          omega (arith, S.shops, S.room.few.groups),
          omega (arith, S.rows, S.room.few.rows),
        )

    pub wrote-member :
        (u : List ℕ) (r : Spot) → length u ≡ length t → PutFile s y sh spot t u → r ≡ next_spot spot y → WroteMember day s sh spot t u r
    wrote-member u r long P e = record {
      wrote = subst (λ (k : Layout). PutFile s k sh spot t u) is P;
      long = long;
      next = e ∙ ap (next_spot spot) is;
    }

module _ (day : ℕ) (b ls : List ℕ) (sh : Shape) (t₀ : List ℕ) (G : JoinGiven day b ls sh t₀) where
  abbrev n : ℕ
  n = length ls

  abbrev m : ℕ → Instance
  m = days_of day b ls

  spot-are :
      (a c o e x y v z : ℕ) → a ≡ x → c ≡ y → o ≡ v → e ≡ z →
      ◌≡◌ {A = Spot} (record { card = a; shop = c; over = o; row = e }) (record { card = x; shop = y; over = v; row = z })
  spot-are a c o e x y v z p q w r =
      ap (λ (k : ℕ). record { card = k; shop = c; over = o; row = e }) p
      ∙ ap (λ (k : ℕ). record { card = x; shop = k; over = o; row = e }) q
      ∙ ap (λ (k : ℕ). record { card = x; shop = y; over = k; row = e }) w
      ∙ ap (λ (k : ℕ). record { card = x; shop = y; over = v; row = k }) r

  pub spot-none : ◌≡◌ {A = Spot} (record { card = 0; shop = sh.cards + 1; over = sh.cards; row = 0 }) (spot_of n m 0)
  spot-none =
      spot-are _ _ _ _ _ _ _ _ (sum-none (cards_of n m)) (omega (arith, G.shape.cards, sum-none (shops_of n m))) G.shape.cards
      (sum-none (rows_of n m))

  spot-more : (k : ℕ) → next_spot (spot_of n m k) (layouts_of day b ls k) ≡ spot_of n m (suc k)
  spot-more k =
      spot-are _ _ _ _ _ _ _ _ (sym (sum-suc (cards_of n m) k)) (omega (arith, sum-suc (shops_of n m) k)) refl
      (sym (sum-suc (rows_of n m) k))

  module _ (k : ℕ) (file : k < n) (t : List ℕ) (room : Room sh t) where
    stands : MemberStands day (member_of b ls k) sh (spot_of n m k) t
    stands = record {
      accepted = G.read.each k file;
      stands = record {
        sound = G.read.all.sound k file;
        kinds = λ c h. omega (arith, G.read.all.kinds k file c h);
        room = room;
        cards = omega (arith, G.shape.groups, part_end (cards_of n m) n k file);
        shops = omega (arith, G.shape.groups, part_end (shops_of n m) n k file);
        rows = omega (arith, G.shape.rows, part_end (rows_of n m) n k file);
        low = omega (arith, G.read.all.cards_most);
        over = inl (omega arith);
      };
    }

    -- s is the part of the buffer that is handed on
    module _ (s : List ℕ) (spot : Spot) (p : s ≡ member_of b ls k) (e : spot ≡ spot_of n m k) where
      pub next-stands : MemberStands day s sh spot t
      next-stands =
          subst (λ (x : List ℕ). MemberStands day x sh spot t) (sym p)
          (subst (λ (z : Spot). MemberStands day (member_of b ls k) sh z t) (sym e) stands)

      wrote : (u : List ℕ) (r : Spot) → WroteMember day s sh spot t u r → WroteMember day (member_of b ls k) sh (spot_of n m k) t u r
      wrote u r W =
          subst (λ (z : Spot). WroteMember day (member_of b ls k) sh z t u r) e
          (subst (λ (x : List ℕ). WroteMember day x sh spot t u r) p W)

      module _ (u : List ℕ) (r : Spot) (W : WroteMember day s sh spot t u r) where
        pub next-spot : r ≡ spot_of n m (k + 1)
        next-spot = (wrote u r W).next ∙ spot-more k ∙ ap (spot_of n m) (sym (add-one k))

        pub filled_next : (oven : ℕ) → Filled n m oven sh t k → Filled n m oven sh u (k + 1)
        filled_next oven F =
            subst (Filled n m oven sh u) (sym (add-one k))
            (filled-member n (member_of b ls) (layouts_of day b ls) oven day G.read.all sh G.shape k file t u (wrote u r W).wrote F)

  pub oven-filled : (oven : ℕ) (u : List ℕ) → PutOven sh t₀ u oven → Filled n m oven sh u 0
  oven-filled oven u P =
      filled-oven n (member_of b ls) (layouts_of day b ls) oven day G.read.all sh G.shape t₀ P.between u
      (subst (λ (x : ℕ). Put sh t₀ P.between parents (oven_node n m) (x + 1)) G.shape.groups
      (subst (λ (x : ℕ). Put sh t₀ P.between parents x (sh.groups + 1)) G.shape.cards P.parent))
      (subst (λ (x : ℕ). Put sh P.between u spares x (capped max_spare oven)) G.shape.cards P.limit)
