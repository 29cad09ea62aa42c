-- Files under either terms (document 02, E12). The number of kinds is asked of a claim's kind alone, so a file whose kinds are all
-- below it is read alike with more kinds.
--   claim-same claims-same the fault of a claim and of a claims section whose kinds are below both numbers
--   same-reading           a file of K kinds has the same reading with more: the same layout, or the same fault
--   either-reading         so has a new file in the week layout with only kinds 0 and 1 under either terms
--   either-refused         it is refused by the same fault under either, or under none
--   kinds-of               an accepted file whose claims are of K kinds is of K kinds in its bytes
--   first-second           a new file in the week layout that is accepted under the first terms is accepted under the second, with the
--                          same layout: so it holds the same day
--   second-sound second-kinds    what holds of a file that is accepted under the second terms
use mathlib.Core.Path.{◌≡◌, refl, sym, ap, ◌∙◌, subst}
use mathlib.Core.Logic.{◌↔◌}
use mathlib.Core.List.{List}
use Prim.Native.Nat.{ℕ, ◌+◌, ◌*◌, ◌-◌, ◌<◌, ◌≤◌}
use native.Mathlib.Omega.{arith}
use lib.ListN.{length, drop, length-drop}
use borrow.Author.Tests.{lt-leb}
use Rattle.theory.specs.Bounds.{max_rows}
use Rattle.claimfile.specs.File.{first_terms, second_terms, new_week, group_width, claim_width, word, claim_at}
use Rattle.reader.specs.Reading.{read_section, claim_fault}
use Rattle.reader.specs.Reading.{section_by, section_at, claims_at, after_claims, after_shops, after_cards}
use Rattle.reader.specs.Reading.{reading_in, reading, reading_kinds}
use Rattle.reader.specs.Sections.{behind, section_on}
use Rattle.claimfile.specs.Day.{start_of}
use Rattle.claimfile.specs.Sound.{Sound, Kinds}
use Rattle.reader.specs.Terms.{OfKinds}
use Rattle.claimfile.specs.declared.Form.{Form}
use Rattle.claimfile.specs.declared.Claim.{Claim}
use Rattle.claimfile.specs.declared.Layout.{Layout}
use Rattle.reader.specs.declared.Refusal.{Refusal}
use Rattle.reader.specs.declared.Refusal.TheVariants.{ClaimCount}
use Rattle.reader.specs.declared.Section.{Section}
use Rattle.reader.proofs.AcceptedLaws.{Accords, accords-in, accepted-kinds}
use Rattle.claimfile.proofs.WidthLaws.{width-split}
use Rattle.reader.proofs.SectionLaws.{records-same}
use Rattle.std.specs.Prelude.{Ok, Err, Result}

--------------------------------------------------------------------------------
-- Any file

claim-same :
    (K L : ℕ) (claim : Claim) (cards shops : ℕ) → claim.kind < K → claim.kind < L →
    claim_fault K claim cards shops ≡ claim_fault L claim cards shops
unfolding claim_fault
claim-same K L claim cards shops h k = rw (lt-leb _ _ h, lt-leb _ _ k)

module _ (K L : ℕ) (more : K ≤ L) (f : Form) (s : List ℕ) where
  claims-same :
      (at cards shops : ℕ) →
      ((c : ℕ) → c < word s at → at + 2 + claim_width * c + claim_width ≤ length s → (claim_at (drop (at + 2) s) c).kind < K) →
      claims_at K s at cards shops ≡ claims_at L s at cards shops
  unfolding claims_at
  claims-same at cards shops few =
      let r = drop (at + 2) s in
      ap (section_by s at max_rows ClaimCount claim_width)
      (records-same (length r) 0 claim_width (length r) 0 claim_width (λ c. claim_fault K (claim_at r c) cards shops)
      (λ c. claim_fault L (claim_at r c) cards shops) (word s at) (λ c h. refl)
      (λ c h whole.
      let kind : (claim_at r c).kind < K = few c h (omega (arith, whole, length-drop (at + 2) s)) in
      claim-same K L (claim_at r c) cards shops kind (omega (arith, kind))) 0 (word s at) (omega arith))

  module _ (few : OfKinds K f s) where
    by-shops :
        (cards card_at next : ℕ) → section_at f s 0 ≡ Ok (read_section cards card_at next) → (x : Result Section Refusal) → section_at f s next ≡ x →
        after_shops K f s cards card_at x ≡ after_shops L f s cards card_at x
    by-shops cards card_at next is (Ok read) e =
        ap (after_claims f s cards read.count card_at read.start)
        (claims-same read.next cards read.count (few cards card_at next read.count read.start read.next is e))
    by-shops cards card_at next is (Err why) e = refl

    by-cards : (x : Result Section Refusal) → section_at f s 0 ≡ x → after_cards K f s x ≡ after_cards L f s x
    by-cards (Ok read) e = by-shops read.count read.start read.next e (section_at f s read.next) refl
    by-cards (Err why) e = refl

    pub same-reading : reading_in K f s ≡ reading_in L f s
    unfolding reading_in
    same-reading = by-cards (section_at f s 0) refl

module _ (d : ℕ) (s : List ℕ) (few : OfKinds first_terms (new_week d) s) where
  pub either-reading : reading (new_week d) s ≡ reading_kinds d s
  either-reading = same-reading first_terms second_terms (omega arith) (new_week d) s few

  pub either-refused : (why : Refusal) → (reading (new_week d) s ≡ Err why) ↔ (reading_kinds d s ≡ Err why)
  either-refused why = (λ e. sym either-reading ∙ e, λ e. either-reading ∙ e)

--------------------------------------------------------------------------------
-- Accepted files

module _ (K L : ℕ) (f : Form) (s : List ℕ) (l : Layout) (is : reading_in L f s ≡ Ok l) where
  abbrev all : Accords L f s l
  all = accords-in L f s l is

  -- behind its two group sections stand the claims of the layout
  pub kinds-of : Kinds K s l → OfKinds K f s
  kinds-of few cards card_at next shops shop_at at cards-are shops-are c h whole =
      subst (λ (start : ℕ). (claim_at (drop start s) c).kind < K) (sym place) (few c (omega (arith, h, count)))
    where
      shops-on : section_on f s 1 ≡ Ok (read_section shops shop_at at)
      shops-on = ap (λ x. section_at f s (behind x)) cards-are ∙ shops-are

      behind-both : at ≡ start_of l 1 + group_width l.week * l.shops
      behind-both = ap behind (sym shops-on ∙ all.sections 1 (omega arith))

      place : at + 2 ≡ l.row_at
      place = omega (arith, behind-both, all.sound.shop_place, all.sound.row_place, width-split l.week l.cards l.shops)

      count : word s at ≡ l.rows
      count =
          let before : at ≡ l.row_at - 2 = omega (arith, place) in
          ap (word s) before ∙ all.rows

module _ (d : ℕ) (s : List ℕ) (l : Layout) where
  pub first-second : reading (new_week d) s ≡ Ok l → reading_kinds d s ≡ Ok l
  first-second is =
      sym (either-reading d s (kinds-of first_terms first_terms (new_week d) s l is (accepted-kinds (new_week d) s l is))) ∙ is

  module _ (is : reading_kinds d s ≡ Ok l) where
    all-second : Accords second_terms (new_week d) s l
    all-second = accords-in second_terms (new_week d) s l is

    pub second-sound : Sound s l
    second-sound = all-second.sound

    pub second-kinds : Kinds second_terms s l
    second-kinds = all-second.kinds
