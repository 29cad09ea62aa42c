-- The joined file is written from what the files hold, each file's records moved behind those of the files before it. Numbers of groups stay
-- below the counts and parents below their groups, so what it holds is within range; what is written so is accepted, and read back.
--   above-group above-top  the node above a group, and the number of its parent in the joined file: moved, or what stands over the tops
--   card-inside shop-inside    a file's groups are among those of the joined file
--   card-read shop-read claim-read     the records of the joined file as they are read, file by file
--   oven-limit             the oven's limit as it is read, on any day
--   joined-ranged          what it holds is within range, where what each file holds is, and the counts pass no bound
--   joined-accepted joined-sound joined_bytes_lem  so it is accepted as a stored file in the week layout
--   joined-kinds           its claims are of the first terms
--   joined-kind            a row has the kind that it has in its file
use mathlib.Core.Path.{◌≡◌, refl, sym, ap, subst, ◌∙◌}
use mathlib.Core.List.{List}
use mathlib.Core.Logic.{inl, inr}
use mathlib.Core.Bool.{true, true≢false}
use Prim.Native.Nat.{ℕ, zero, suc, ◌+◌, ◌-◌, ◌≤◌, ◌<◌}
use native.Mathlib.Decide.{dec_lt}
use native.Mathlib.Omega.{arith}
use lib.ListN.{get_or}
use borrow.Author.Tests.{lt-ltb, le-ltb, ne_eqb}
use Rattle.theory.specs.Bounds.{max_groups, max_rows, max_limit}
use Rattle.theory.specs.Sum.{sum}
use Rattle.claimfile.specs.File.{first_terms, days, stored_week}
use Rattle.claimfile.specs.Day.{above, group_of, claim_of, kind_of}
use Rattle.claimfile.specs.Sound.{Sound, Kinds, SmallerOrTop}
use Rattle.claimfile.specs.declared.Layout.{Layout}
use Rattle.claimfile.specs.declared.Group.{Group}
use Rattle.claimfile.specs.declared.Claim.{Claim}
use Rattle.reader.specs.Reading.{reading}
use Rattle.reader.proofs.AcceptedLaws.{accepted-kinds}
use Rattle.claimwriter.specs.Written.{WeekGroup, on_day_of, Contents, records_on, Ranged}
use Rattle.claimwriter.proofs.WrittenLaws.{written-group, written-claim, written-accepted, written-sound, written-bytes}
use Rattle.claimwriter.proofs.WeekLaws.{contents-ranged}
use Rattle.counters.proofs.PartLaws.{part_end, of_part-is, each_part}
use Rattle.members.specs.Accepted.{Members}
use Rattle.joinfile.specs.Files.{cards_in, shops_in, rows_in, card_group_in, shop_group_in, claim_in}
use Rattle.joinfile.specs.Files.{joined_contents, joined_file, joined_layout, contents_of}
use Rattle.std.specs.Prelude.{Ok}

module _ (own parent first root : ℕ) where
  pub above-group : parent < own → above own parent first root ≡ first + parent
  above-group h = rw (lt-ltb _ _ h)

  pub above-top : own ≤ parent → above own parent first root ≡ root
  above-top h = rw (le-ltb _ _ h)

  -- a group that stands behind `first` others may have the parent that is moved by them
  above-fits : (at : ℕ) → first + own ≡ at → SmallerOrTop at root → SmallerOrTop at (above own parent first root)
  above-fits at is fits =
      elim (dec_lt parent own) [
        | yes h ↦ inl (omega (arith, above-group h))
        | no h ↦ subst (SmallerOrTop at) (sym (above-top (omega arith))) fits
      ]

module _ (n : ℕ) (d : ℕ → Contents) (oven : ℕ) where
  abbrev cards : ℕ → ℕ
  cards = cards_in n d

  abbrev shops : ℕ → ℕ
  shops = shops_in n d

  abbrev rows : ℕ → ℕ
  rows = rows_in n d

  abbrev D : Contents
  D = joined_contents n d oven

  ------------------------------------------------------------------------------
  -- What it holds, file by file

  module _ (k : ℕ) (file : k < n) where
    module _ (g : ℕ) (group : g < cards k) where
      pub card-inside : sum k cards + g < sum n cards
      card-inside = omega (arith, part_end cards n k file)

      card-content : D.group 0 (sum k cards + g) ≡ card_group_in n d k g
      card-content = of_part-is cards n (card_group_in n d) k g file group

    module _ (g : ℕ) (group : g < shops k) where
      pub shop-inside : 1 + (sum k shops + g) < 1 + sum n shops
      shop-inside = omega (arith, part_end shops n k file)

      shop-content : D.group 1 (1 + (sum k shops + g)) ≡ shop_group_in n d k g
      shop-content =
          let some : 1 + (sum k shops + g) ≡ 0 → ⊥ = λ e. omega arith in
          let back : 1 + (sum k shops + g) - 1 ≡ sum k shops + g = omega arith in
          rw (ne_eqb _ _ some, back) (of_part-is shops n (shop_group_in n d) k g file group)

    module _ (c : ℕ) (inside : c < rows k) where
      row_inside : sum k rows + c < sum n rows
      row_inside = omega (arith, part_end rows n k file)

      row-content : D.claim (sum k rows + c) ≡ claim_in n d k c
      row-content = of_part-is rows n (claim_in n d) k c file inside

  -- a fact of the oven and of each file's shop groups is one of all shop groups
  each-shop :
      (P : ℕ → Type 0) → P 0 → ((k : ℕ) → k < n → (g : ℕ) → g < shops k → P (1 + (sum k shops + g))) →
      (g : ℕ) → g < 1 + sum n shops → P g
  each-shop P first each zero h = first
  each-shop P first each (suc g) h = rest
    where
      back : 1 + g ≡ suc g
      back = omega arith

      rest : P (suc g)
      rest = rw back at (each_part shops n (λ g. P (1 + g)) each g (omega arith))

  ------------------------------------------------------------------------------
  -- How it is read

  module _ (today : ℕ) where
    abbrev J : List ℕ
    J = joined_file n d oven

    abbrev L : Layout
    L = joined_layout n d oven today

    module _ (week : today < days) where
      record_is : (side g : ℕ) → g < records_on D side → group_of J L side g ≡ on_day_of (D.group side g) today
      record_is side g h = written-group D (λ side g. refl) today side g week h

      pub oven-limit : (group_of J L 1 0).limit ≡ oven
      oven-limit = omega (arith, ap (λ (x : Group). x.limit) (record_is 1 0 (omega arith)))

      module _ (k : ℕ) (file : k < n) where
        pub card-read : (g : ℕ) → g < cards k → group_of J L 0 (sum k cards + g) ≡ on_day_of (card_group_in n d k g) today
        card-read g h =
            record_is 0 (sum k cards + g) (card-inside k file g h)
            ∙ ap (λ (x : WeekGroup). on_day_of x today) (card-content k file g h)

        pub shop-read : (g : ℕ) → g < shops k → group_of J L 1 (1 + (sum k shops + g)) ≡ on_day_of (shop_group_in n d k g) today
        shop-read g h =
            record_is 1 (1 + (sum k shops + g)) (shop-inside k file g h)
            ∙ ap (λ (x : WeekGroup). on_day_of x today) (shop-content k file g h)

    pub claim-read : (k : ℕ) → k < n → (c : ℕ) → c < rows k → claim_of J L (sum k rows + c) ≡ claim_in n d k c
    claim-read k file c h = written-claim D (sum k rows + c) (row_inside k file c h) ∙ row-content k file c h

  ------------------------------------------------------------------------------
  -- It is within range

  module _
      (each : (k : ℕ) → k < n → Ranged (d k)) (cards_most : sum n cards ≤ max_groups) (shops_most : 1 + sum n shops ≤ max_groups)
      (rows_most : sum n rows ≤ max_rows) (small : oven ≤ max_limit)
    where
      fits : {at : ℕ} {x y : WeekGroup} → x ≡ y → SmallerOrTop at y.parent → SmallerOrTop at x.parent
      fits {at} e = subst (λ (z : WeekGroup). SmallerOrTop at z.parent) (sym e)

      parents : (side g : ℕ) → g < records_on D side → SmallerOrTop g (D.group side g).parent
      parents zero =
          each_part cards n (λ g. SmallerOrTop g (D.group 0 g).parent)
          (λ k file g h.
          fits (card-content k file g h) (above-fits g ((d k).group 0 g).parent _ _ _ (omega arith) (inr refl)))
      parents (suc side) =
          each-shop (λ g. SmallerOrTop g (D.group 1 g).parent) (inr refl)
          (λ k file g h.
          fits (shop-content k file g h) (above-fits g ((d k).group 1 g).parent _ _ _ (omega arith) (inl (omega arith))))

      limits : (t side g : ℕ) → t < days → g < records_on D side → (D.group side g).limit t ≤ max_limit
      limits t zero g within =
          each_part cards n (λ g. (D.group 0 g).limit t ≤ max_limit)
          (λ k file g h.
          omega (arith, ap (λ (x : WeekGroup). x.limit t) (card-content k file g h), (each k file).limits t 0 g within h))
          g
      limits t (suc side) g within =
          each-shop (λ g. (D.group 1 g).limit t ≤ max_limit) (omega arith)
          (λ k file g h.
          omega (arith, ap (λ (x : WeekGroup). x.limit t) (shop-content k file g h), (each k file).limits t 1 g within h))
          g

      pub joined-ranged : Ranged (joined_contents n d oven)
      joined-ranged = record {
        sides = λ side g. refl;
        cards_most = cards_most;
        shops_most = shops_most;
        rows_most = rows_most;
        parents = parents;
        limits = limits;
        claim_cards =
            each_part rows n (λ c. (D.claim c).card < sum n cards)
            (λ k file c h.
            omega (
              arith,
              ap (λ (x : Claim). x.card) (row-content k file c h),
              (each k file).claim_cards c h,
              part_end cards n k file,
            ));
        claim_shops =
            each_part rows n (λ c. (D.claim c).shop < 1 + sum n shops)
            (λ k file c h.
            omega (
              arith,
              ap (λ (x : Claim). x.shop) (row-content k file c h),
              (each k file).claim_shops c h,
              part_end shops n k file,
            ));
        claim_kinds =
            each_part rows n (λ c. (D.claim c).kind ≤ 1)
            (λ k file c h. omega (arith, ap (λ (x : Claim). x.kind) (row-content k file c h), (each k file).claim_kinds c h));
      }

--------------------------------------------------------------------------------
-- It is accepted

module _ (n : ℕ) (s : ℕ → List ℕ) (l : ℕ → Layout) (oven today : ℕ) (all : Members n s l today) (small : oven < 65536) where
  abbrev written : List ℕ
  written = joined_file n (contents_of s l) oven

  abbrev laid : Layout
  laid = joined_layout n (contents_of s l) oven today

  ranged : Ranged (joined_contents n (contents_of s l) oven)
  ranged =
      joined-ranged n (contents_of s l) oven
      (λ k h. contents-ranged (s k) (l k) (all.sound k h) (all.kinds k h) (all.bytes k))
      all.cards_most all.shops_most all.rows_most (omega arith)

  pub joined-accepted : reading (stored_week today) written ≡ Ok laid
  joined-accepted = written-accepted (joined_contents n (contents_of s l) oven) ranged true today (λ e. absurd (true≢false e))

  pub joined-sound : Sound written laid
  joined-sound = written-sound (joined_contents n (contents_of s l) oven) ranged today

  pub joined-kinds : Kinds first_terms written laid
  joined-kinds = accepted-kinds (stored_week today) written laid joined-accepted

  pub joined_bytes_lem : (i : ℕ) → get_or written i 0 < 256
  joined_bytes_lem = written-bytes (joined_contents n (contents_of s l) oven) ranged

  pub joined-kind :
      (k : ℕ) → k < n → (c : ℕ) → c < (l k).rows → kind_of written laid (sum k (λ j. (l j).rows) + c) ≡ kind_of (s k) (l k) c
  joined-kind k h c i = ap (λ (x : Claim). x.kind) (claim-read n (contents_of s l) oven today k h c i)
