-- What settling counters together promises, as theorems that a reader can cite. Document 02, E13:
--   number-told            the number told, and the place of the file at fault: those of what is judged of the files, else those of settling
--                          the joined file
--   joined-day             "Result, buffers and day are those of settling one joined file": where the files are ready, it is accepted as a
--                          stored file in the week layout, and its day is the joined day, as `joined` defines it
--   closed-joined          where the call answers Closed, the files are ready, the week has the day, and the buffers hold what `Closes` says of
--                          the joined file
--   alone                  "If nothing is refused and the oven limit is at least the number of all claims, each counter keeps exactly what it
--                          would keep alone, whichever files the others send": the choice at the rows of file k is the best choice of file k
--                          alone, which file k decides
--   alone-settled          so it is what settle leaves for file k by itself, in any buffers
use mathlib.Core.Path.{◌≡◌, refl, sym, ap, ◌∙◌}
use mathlib.Core.List.{List}
use Prim.Native.Nat.{ℕ, ◌+◌, ◌≤◌, ◌<◌}
use native.Mathlib.Omega.{arith}
use lib.ListN.{length, get_or}
use Rattle.theory.specs.Sum.{sum}
use Rattle.theory.specs.Matroid.{row}
use Rattle.theory.specs.Best.{Agree}
use Rattle.claimfile.specs.declared.Layout.{Layout}
use Rattle.claimfile.specs.File.{days, new_week, stored_week}
use Rattle.claimfile.specs.Day.{network_of, instance_of}
use Rattle.reader.specs.declared.Refusal.{Refusal}
use Rattle.reader.specs.Reading.{reading}
use Rattle.reader.proofs.AcceptedLaws.{one-layout}
use Rattle.refusal.specs.declared.Reason.{Reason}
use Rattle.closing.specs.declared.Totals.{Totals}
use Rattle.closing.specs.Settle.{Enough, Closes, best_row}
use Rattle.closing.specs.Settle as settle
use Rattle.closing.proofs.Demand as demand
use Rattle.counters.specs.Joined.{joined}
use Rattle.counters.proofs.PartLaws.{part_end}
use Rattle.members.specs.declared.Sizes.{Sizes}
use Rattle.members.specs.Members.{member_of, layouts_of, judged}
use Rattle.members.proofs.FoundLaws.{ready-found}
use Rattle.joinfile.specs.Files.{DaysAgree}
use Rattle.joinfile.proofs.FileLaws.{joined-accepted}
use Rattle.joinfile.proofs.DayLaws.{joined_same, alone-in-file}
use Rattle.jointables.specs.Filled.{days_of}
use Rattle.joined.specs.Call.{together, layout_for, joint_of, joined_numbers, told_for, JoinsAs}
use Rattle.joined.specs.Close.{all_rows}
use Rattle.members.specs.declared.Fault.TheVariants.{Member, Whole}
use Rattle.std.specs.Prelude.{Ok, Err, Result}
use Rattle.members.specs.declared.Fault.{Fault}

-- the cases of an answer exclude each other
member-closes : {A : Type 0} (x : Result Totals Fault) (k : ℕ) (why : Refusal) (a : Totals) → x ≡ Err (Member k why) → x ≡ Ok a → A
member-closes x k why a p q =
    let e : ◌≡◌ {A = ℕ} 0 1 = cc in
    absurd (omega arith)

refused-closes : {A : Type 0} (x : Result Totals Fault) (why : Reason) (a : Totals) → x ≡ Err (Whole why) → x ≡ Ok a → A
refused-closes x why a p q =
    let e : ◌≡◌ {A = ℕ} 0 1 = cc in
    absurd (omega arith)

same-totals : (x : Result Totals Fault) (a c : Totals) → x ≡ Ok a → x ≡ Ok c → a ≡ c
same-totals x a c p q = cc

-- only settling closes
closed_is : (a : Totals) (q : Result Totals Reason) → Ok a ≡ joint_of q → q ≡ Ok a
closed_is a (Ok c) e = ap Ok (sym (same-totals (Ok a) a c refl e))
closed_is a (Err why) e = refused-closes (Ok a) why a e refl

module _ (day : ℕ) (b ls : List ℕ) (oven : ℕ) (bytes : (i : ℕ) → get_or b i 0 < 256) (small : oven < 65536) where
  pub joined-day :
      (z : Sizes) → judged day b ls ≡ Ok z →
      (reading (stored_week day) (together day b ls oven) ≡ Ok (layout_for day b ls oven))
      × (day < days →
      DaysAgree (instance_of (together day b ls oven) (layout_for day b ls oven)) (joined (length ls) (days_of day b ls) oven))
  joined-day z ready =
      let all = (ready-found day b ls bytes z ready).read.all in (
        joined-accepted (length ls) (member_of b ls) (layouts_of day b ls) oven day all small,
        λ week. joined_same (length ls) (member_of b ls) (layouts_of day b ls) oven day all small week,
      )

  module _ (ch sheet t ch' sheet' t' : List ℕ) (r : Result Totals Fault) (J : JoinsAs day b ls oven ch sheet t ch' sheet' t' r) where
    pub number-told : joined_numbers r ≡ told_for day (judged day b ls) (together day b ls oven) ch sheet t
    number-told = J.told

    module _ (a : Totals) (is : r ≡ Ok a) where
      pub record ClosedFiles : Type 0 where
        pub sizes : Sizes
        pub ready : judged day b ls ≡ Ok sizes
        pub known : day < days
        pub enough : Enough (network_of (together day b ls oven) (layout_for day b ls oven)) ch sheet t
        pub closes : Closes (instance_of (together day b ls oven) (layout_for day b ls oven)) ch sheet t ch' sheet' t' a

      by : (x : Result Sizes Fault) → judged day b ls ≡ x → ClosedFiles
      by (Err (Member k why)) e = member-closes r k why a (J.member k why e).0 is
      by (Err (Whole why)) e = refused-closes r why a (J.refused why e).0 is
      by (Ok z) e =
          let s = J.settled z e in
          let closed =
          demand.closed_on (instance_of (together day b ls oven) (layout_for day b ls oven)) day ch sheet t ch' sheet' t' s.0 a
          (s.2.settled (layout_for day b ls oven) (joined-day z e).0) (closed_is a s.0 (sym is ∙ s.1)) in
          record { sizes = z; ready = e; known = closed.0; enough = closed.1; closes = closed.2 }

      pub closed-joined : ClosedFiles
      closed-joined = by (judged day b ls) refl

      module _ (wide : all_rows day b ls ≤ oven) (k : ℕ) (file : k < length ls) where
        abbrev own : List ℕ
        own = member_of b ls k

        abbrev layout : Layout
        layout = layouts_of day b ls k

        abbrev first : ℕ
        first = sum k (λ j. (layouts_of day b ls j).rows)

        pub alone : Agree layout.rows (λ c. row ch' (first + c)) (best_row (instance_of own layout))
        alone c h =
            let f = closed-joined in
            let found = ready-found day b ls bytes f.sizes f.ready in
            f.closes.best (first + c) (omega (arith, part_end (λ j. (layouts_of day b ls j).rows) (length ls) k file))
            ∙ alone-in-file (length ls) (member_of b ls) (layouts_of day b ls) oven day found.read.all small f.known k file wide c h

        pub alone-settled :
            (ch₁ sheet₁ t₁ ch₂ sheet₂ t₂ : List ℕ) (q : Result Totals Reason) (c : Totals) →
            settle.Settles (new_week day) own ch₁ sheet₁ t₁ ch₂ sheet₂ t₂ q → q ≡ Ok c →
            Agree layout.rows (λ i. row ch' (first + i)) (row ch₂)
        alone-settled ch₁ sheet₁ t₁ ch₂ sheet₂ t₂ q c S e i h =
            let f = closed-joined in
            let found = ready-found day b ls bytes f.sizes f.ready in
            let D = demand.closed-day (new_week day) own ch₁ sheet₁ t₁ ch₂ sheet₂ t₂ q c S e in
            let same : D.layout ≡ layout =
            one-layout (reading (new_week day) own) D.layout layout D.accepted (found.read.each k file) in
            alone i h
            ∙ ap (λ (x : Layout). best_row (instance_of own x) i) (sym same)
            ∙ sym (D.closes.best i (omega (arith, ap (λ (x : Layout). x.rows) same)))
