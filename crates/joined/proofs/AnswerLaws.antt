-- Laws of what settling counters together answers, by what is judged of their files.
--   joins-oven             the contract, by another name of the oven limit
--   sizes-few              the sizes of files that are ready are within bounds
--   ready-joins            so the files may be settled together, with the layout of the joined file
--   joins-member joins-refused joins-settled   the whole contract, one law a case
--   joins-fault            both cases of a fault
use mathlib.Core.Path.{◌≡◌, refl, sym, ap, ap₂, subst, ◌∙◌}
use mathlib.Core.List.{List}
use Prim.Native.Nat.{ℕ, ◌+◌, ◌≤◌, ◌<◌}
use native.Mathlib.Omega.{arith}
use lib.ListN.{length, get_or}
use Rattle.theory.specs.Bounds.{max_groups, max_rows}
use Rattle.theory.specs.Sum.{sum}
use Rattle.claimfile.specs.declared.Layout.{Layout}
use Rattle.claimfile.specs.File.{stored_week}
use Rattle.claimfile.specs.Day.{instance_of, on_day}
use Rattle.reader.specs.declared.Refusal.{Refusal}
use Rattle.refusal.specs.declared.Reason.{Reason}
use Rattle.answers.specs.declared.SettleJoinedAnswer.{SettleJoinedAnswer}
use Rattle.claimwriter.specs.Written as written
use Rattle.closing.specs.Settle.{settled_numbers, Untouched, SettlesOn, Settles}
use Rattle.closing.proofs.AnswerLaws.{settles-accepted}
use Rattle.members.specs.declared.Sizes.{Sizes}
use Rattle.members.specs.Members.{most_files, member_of, layouts_of, judged, ovened}
use Rattle.members.proofs.FoundLaws.{Found, ready-found, not-member, not-refused, not-both, one-member, one-reason, member-place}
use Rattle.joinfile.proofs.FileLaws.{joined-accepted}
use Rattle.joined.specs.Call.{together, layout_for, joint_of, joined_numbers, as_joined, told_for, JoinsAs}
use Rattle.joined.specs.Close.{Joins}
use Rattle.members.specs.declared.Fault.TheVariants.{Member, Whole}
use Rattle.std.specs.Prelude.{Ok, Err, Result}
use Rattle.members.specs.declared.Fault.{Fault}
use Rattle.closing.specs.declared.Totals.{Totals}

-- document 01's numbers of an answer of settle, as this call tells them
joint-told : (q : Result Totals Reason) → joined_numbers (joint_of q) ≡ as_joined (settled_numbers q)
joint-told (Ok a) = refl
joint-told (Err why) = refl

joint-place : (q : Result Totals Reason) → (joined_numbers (joint_of q)).file < most_files
joint-place (Ok a) = omega arith
joint-place (Err why) = omega arith

pub joins-oven :
    (day : ℕ) (b ls : List ℕ) (o p : ℕ) → o ≡ p → (ch sheet t ch' sheet' t' : List ℕ) (r : Result Totals Fault) →
    JoinsAs day b ls o ch sheet t ch' sheet' t' r → JoinsAs day b ls p ch sheet t ch' sheet' t' r
joins-oven day b ls o p e ch sheet t ch' sheet' t' r J = subst (λ (x : ℕ). JoinsAs day b ls x ch sheet t ch' sheet' t' r) e J

module _ (day : ℕ) (b ls : List ℕ) (oven : ℕ) (bytes : (i : ℕ) → get_or b i 0 < 256) (small : oven < 65536) where
  module _ (z : Sizes) (ready : judged day b ls ≡ Ok z) where
    abbrev found : Found day b ls bytes z ready
    found = ready-found day b ls bytes z ready

    pub sizes-few : (z.cards ≤ max_groups) × (1 + z.shops ≤ max_groups) × (z.rows ≤ max_rows)
    sizes-few =
        let t = found.taken in
        let a = found.read.all in
        (omega (arith, t.cards, a.cards_most), omega (arith, t.shops, a.shops_most), omega (arith, t.rows, a.rows_most))

    ovened-is : ovened z day ≡ layout_for day b ls oven
    ovened-is =
        let t = found.taken in
        ap (λ (x : ℕ). on_day (written.layout_for x (1 + z.shops) z.rows) day) t.cards
        ∙ ap₂
        (λ (x y : ℕ). on_day (written.layout_for (sum (length ls) (λ k. (layouts_of day b ls k).cards)) (1 + x) y) day)
        t.shops t.rows

    pub ready-joins : (l : Layout) → l ≡ ovened z day → Joins day b ls oven l
    ready-joins l e = record { read = found.read; small = small; layout = e ∙ ovened-is }

    pub joins-settled :
        (l : Layout) → l ≡ ovened z day → (ch sheet t ch' sheet' t' : List ℕ) (q : Result Totals Reason) (r : Result Totals Fault) → r ≡ joint_of q →
        SettlesOn (instance_of (together day b ls oven) l) day ch sheet t ch' sheet' t' q →
        JoinsAs day b ls oven ch sheet t ch' sheet' t' r
    joins-settled l e ch sheet t ch' sheet' t' q r is S = record {
      member = λ k why p. not-member (judged day b ls) k why z p ready;
      refused = λ why p. not-refused (judged day b ls) why z p ready;
      settled = λ y p. (q, is, as-joined);
      told =
          ap joined_numbers is
          ∙ joint-told q
          ∙ ap as_joined as-joined.told
          ∙ ap (λ (x : Result Sizes Fault). told_for day x (together day b ls oven) ch sheet t) (sym ready);
      place = omega (arith, ap (λ (x : Result Totals Fault). (joined_numbers x).file) is, joint-place q);
    }
      where
        as-joined : Settles (stored_week day) (together day b ls oven) ch sheet t ch' sheet' t' q
        as-joined =
            settles-accepted (stored_week day) (together day b ls oven) ch sheet t ch' sheet' t' q (layout_for day b ls oven)
            (joined-accepted (length ls) (member_of b ls) (layouts_of day b ls) oven day found.read.all small)
            (subst (λ (x : Layout). SettlesOn (instance_of (together day b ls oven) x) day ch sheet t ch' sheet' t' q)
            (e ∙ ovened-is) S)

  module _ (ch sheet t : List ℕ) where
    untouched : Untouched ch sheet t ch sheet t
    untouched = record { choices = refl; sheets = refl; cells = refl }

    abbrev told : Result Sizes Fault → SettleJoinedAnswer
    told x = told_for day x (together day b ls oven) ch sheet t

    told_is : (x : Result Sizes Fault) → judged day b ls ≡ x → told x ≡ told (judged day b ls)
    told_is x is = ap told (sym is)

    pub joins-member :
        (k : ℕ) (why : Refusal) → judged day b ls ≡ Err (Member k why) → (r : Result Totals Fault) → r ≡ Err (Member k why) →
        JoinsAs day b ls oven ch sheet t ch sheet t r
    joins-member k why is r e = record {
      member = λ j v p.
          let same = one-member (judged day b ls) k j why v is p in
          (e ∙ ap₂ (λ (x : ℕ) (y : Refusal). Err (Member x y)) same.0 same.1, untouched);
      refused = λ v p. not-both (judged day b ls) k why v is p;
      settled = λ z p. not-member (judged day b ls) k why z is p;
      told = ap joined_numbers e ∙ told_is (Err (Member k why)) is;
      place = omega (arith, ap (λ (x : Result Totals Fault). (joined_numbers x).file) e, member-place day b ls k why is);
    }

    pub joins-refused :
        (why : Reason) → judged day b ls ≡ Err (Whole why) → (r : Result Totals Fault) → r ≡ Err (Whole why) →
        JoinsAs day b ls oven ch sheet t ch sheet t r
    joins-refused why is r e = record {
      member = λ j v p. not-both (judged day b ls) j v why p is;
      refused = λ v p. (e ∙ ap (λ (x : Reason). Err (Whole x)) (one-reason (judged day b ls) why v is p), untouched);
      settled = λ z p. not-refused (judged day b ls) why z is p;
      told = ap joined_numbers e ∙ told_is (Err (Whole why)) is;
      place = omega (arith, ap (λ (x : Result Totals Fault). (joined_numbers x).file) e);
    }

    pub joins-fault :
        (x : Fault) → judged day b ls ≡ Err x → (r : Result Totals Fault) → r ≡ Err x → JoinsAs day b ls oven ch sheet t ch sheet t r
    joins-fault (Member k why) is r e = joins-member k why is r e
    joins-fault (Whole why) is r e = joins-refused why is r e
