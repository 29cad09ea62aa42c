-- Laws of counting the kept rows of the joined day, file by file: rows that stand one behind the other are counted one part after the other.
--   tally-none tally-next tally-all    the rows of no file, of one file more, and of all files are counted
--   member-ready member-few member-counted     the rows of one file, with their part of the choice
--   join-counts            a choice of bits may be counted
--   tally-small            the total is small enough for the product
--   tally-counted          what the tally of all files gives is what the choice comes to
use mathlib.Core.Path.{◌≡◌, sym, ap, subst, ◌∙◌}
use mathlib.Core.List.{List}
use Prim.Native.Nat.{ℕ, suc, ◌+◌, ◌*◌, ◌-◌, ◌≤◌, ◌<◌}
use native.Mathlib.Nat.{mul-le-mul}
use native.Mathlib.Numerals.{add-one}
use native.Mathlib.Omega.{arith}
use lib.ListN.{length, drop, length-drop}
use lib.Seq.{get_or-drop}
use Rattle.theory.specs.Bounds.{max_rows, cell_bound}
use Rattle.theory.specs.Sum.{sum, same}
use Rattle.theory.specs.Incidence.{Selection, size}
use Rattle.theory.specs.Matroid.{row}
use Rattle.theory.specs.Priority.{kept}
use Rattle.theory.proofs.SumLaws.{sum-cong}
use Rattle.theory.proofs.BestLaws.{kept-agree, kept-kinds}
use Rattle.claimfile.specs.declared.Layout.{Layout}
use Rattle.claimfile.specs.File.{days, new_week}
use Rattle.claimfile.specs.Day.{kind_of, instance_of}
use Rattle.claimfile.specs.Sound.{Sound}
use Rattle.reader.proofs.AcceptedLaws.{accepted-sound, accepted-kinds}
use Rattle.selection.specs.declared.Counts.{Counts}
use Rattle.selection.specs.Selection.{Covers, Counted}
use Rattle.closing.specs.declared.Totals.{Totals}
use Rattle.closing.specs.Close.{CountedBy}
use Rattle.closing.proofs.CountLaws.{two-worth, earned-is, kept-is}
use Rattle.counters.proofs.PartLaws.{sum-none, sum-suc, sum-split, part_end}
use Rattle.counters.proofs.JoinLaws as join
use Rattle.members.specs.Members.{member_of, layouts_of}
use Rattle.jointables.specs.Filled.{layout_at, days_of}
use Rattle.joined.specs.declared.Tally.{Tally}
use Rattle.joined.specs.Call.{together}
use Rattle.joined.specs.Close.{Joins, all_rows, kinds_of, Tallied, JoinCounts, TallyOf, MemberCount, CountedMember}
use Rattle.joined.proofs.CloseLaws.{joins-kinds, join-same}

kept-split :
    (o k : ℕ) (kind X : ℕ → ℕ) (j : ℕ) → kept (o + k) kind X j ≡ kept o kind X j + kept k (λ i. kind (o + i)) (λ i. X (o + i)) j
unfolding kept
kept-split o k kind X j = sum-split o k (λ c. X c * same (kind c) j)

kept-none : (kind X : ℕ → ℕ) (j : ℕ) → 0 ≡ kept 0 kind X j
unfolding kept
kept-none kind X j = sum-none (λ c. X c * same (kind c) j)

--------------------------------------------------------------------------------
-- The rows of one file

-- y is the layout that the file's counts give, and rest is the choice from the file's first row on
module _
    (day : ℕ) (s : List ℕ) (z : Tally) (ch : List ℕ) (M : MemberCount day s z ch) (y : Layout) (is : y ≡ layout_at day s) (rest : List ℕ)
    (tail : rest ≡ drop z.row ch)
  where
    few : y.rows ≡ (layout_at day s).rows
    few = ap (λ (x : Layout). x.rows) is

    sound : Sound s y
    sound = subst (Sound s) (sym is) (accepted-sound (new_week day) s (layout_at day s) M.accepted)

    rest-row : (i : ℕ) → row rest i ≡ row ch (z.row + i)
    rest-row i = ap (λ (x : List ℕ). row x i) tail ∙ get_or-drop z.row ch i 0

    bits : Selection y.rows (row rest)
    bits i h = omega (arith, rest-row i, M.bits i (omega (arith, few)))

    pub member-few : (y.rows ≤ max_rows) × (z.row ≤ max_rows)
    member-few = (sound.rows_most, M.within)

    pub member-ready : Covers s y rest
    member-ready = record { sound = sound; long = omega (arith, ap length tail, length-drop z.row ch, M.long, few) }

    pub member-counted :
        (r : Counts) → Counted s y 0 y.rows rest r → (o : Tally) → o.row ≡ z.row + y.rows →
        o.earned ≡ z.earned + (r.kept - r.matched) → o.kept ≡ z.kept + r.kept → CountedMember day s z ch o
    member-counted r U o rows earned all = record {
      rows = omega (arith, rows, few);
      earned =
          omega (
            arith,
            earned,
            earned-is s y rest r U kinds bits,
            ap (λ (f : ℕ → ℕ). f 1) (kept-agree y.rows (kind_of s y) (λ i h. rest-row i)),
            ap (λ (x : Layout). kept x.rows (kind_of s x) (λ i. row ch (z.row + i)) 1) is,
          );
      kept =
          omega (
            arith,
            all,
            kept-is s y rest r U kinds bits,
            sum-cong y.rows {f = row rest} {g = λ i. row ch (z.row + i)} (λ i h. rest-row i),
            ap (λ (n : ℕ). sum n (λ i. row ch (z.row + i))) few,
          );
      part = omega (arith, earned, all, U.part, M.part);
      few = omega (arith, rows, all, U.few, M.few);
    }
      where
        kinds : (c : ℕ) → c < y.rows → kind_of s y c < 2
        kinds c h =
            omega (
              arith,
              ap (λ (x : Layout). kind_of s x c) is,
              accepted-kinds (new_week day) s (layout_at day s) M.accepted c (omega (arith, few)),
            )

--------------------------------------------------------------------------------
-- The rows of the first files

module _ (day : ℕ) (b ls ch : List ℕ) where
  abbrev rows : ℕ → ℕ
  rows j = (layouts_of day b ls j).rows

  -- the rows of the first k files are counted
  pub record Reached (k : ℕ) (z : Tally) : Type 0 where
    pub rows : z.row ≡ sum k (λ j. (layouts_of day b ls j).rows)
    pub counts : Tallied (kinds_of day b ls) ch z

  pub tally-none : Reached 0 (record { row = 0; earned = 0; kept = 0 })
  tally-none = record {
    rows = sum-none rows;
    counts = record {
      earned = kept-none (kinds_of day b ls) (row ch) 1;
      kept = sum-none (row ch);
      part = omega arith;
      few = omega arith;
    };
  }

  pub tally-all : (z : Tally) → Reached (length ls) z → TallyOf day b ls ch z
  tally-all z R = record { rows = R.rows; counts = R.counts }

  module _ (C : JoinCounts day b ls ch) (k : ℕ) (file : k < length ls) (z : Tally) (R : Reached k z) where
    end : z.row + rows k ≤ all_rows day b ls
    end = omega (arith, R.rows, part_end rows (length ls) k file)

    counts : MemberCount day (member_of b ls k) z ch
    counts = record {
      accepted = C.read.each k file;
      long = omega (arith, end, C.long);
      bits = λ i h. C.bits (z.row + i) (omega (arith, end));
      within = omega (arith, end, C.read.all.rows_most);
      part = R.counts.part;
      few = R.counts.few;
    }

    kinds : (i : ℕ) → i < rows k → kinds_of day b ls (z.row + i) ≡ kind_of (member_of b ls k) (layouts_of day b ls k) i
    kinds i h =
        ap (λ (x : ℕ). kinds_of day b ls (x + i)) R.rows ∙ join.row-kind (length ls) (days_of day b ls) k file i h 0

    next : (r : Tally) → CountedMember day (member_of b ls k) z ch r → Reached (suc k) r
    next r N = record {
      rows = omega (arith, N.rows, R.rows, sum-suc rows k);
      counts = record {
        earned =
            omega (
              arith,
              N.earned,
              R.counts.earned,
              kept-split z.row (rows k) (kinds_of day b ls) (row ch) 1,
              ap (λ (f : ℕ → ℕ). f 1) (kept-kinds (rows k) (λ i. row ch (z.row + i)) kinds),
              ap (λ (n : ℕ). kept n (kinds_of day b ls) (row ch) 1) N.rows,
            );
        kept =
            omega (arith, N.kept, R.counts.kept, sum-split z.row (rows k) (row ch), ap (λ (n : ℕ). size n (row ch)) N.rows);
        part = N.part;
        few = N.few;
      };
    }

    -- s is the part of the buffer that is handed on
    module _ (s : List ℕ) (p : s ≡ member_of b ls k) where
      pub tally-ready : MemberCount day s z ch
      tally-ready = subst (λ (x : List ℕ). MemberCount day x z ch) (sym p) counts

      pub tally-next : (r : Tally) → CountedMember day s z ch r → Reached (k + 1) r
      tally-next r N =
          subst (λ (x : ℕ). Reached x r) (sym (add-one k)) (next r (subst (λ (x : List ℕ). CountedMember day x z ch r) p N))

--------------------------------------------------------------------------------
-- All of them

module _ (day : ℕ) (b ls : List ℕ) (oven : ℕ) (l : Layout) (J : Joins day b ls oven l) (ch : List ℕ) where
  all-rows : l.rows ≡ all_rows day b ls
  all-rows = ap (λ (x : Layout). x.rows) J.layout

  pub join-counts : l.rows ≤ length ch → Selection l.rows (row ch) → JoinCounts day b ls ch
  join-counts long bits =
      record { read = J.read; long = omega (arith, all-rows); bits = λ c h. bits c (omega (arith, all-rows)) }

  module _ (z : Tally) (T : TallyOf day b ls ch z) where
    pub tally-small : l.rows * z.earned + z.kept < cell_bound
    tally-small =
        omega (
          arith,
          mul-le-mul {n₁ = l.rows} {m₁ = z.earned} {n₂ = max_rows} {m₂ = max_rows} few
              (omega (arith, T.counts.part, T.counts.few, T.rows, all-rows, few)),
          T.counts.few,
          T.rows,
          all-rows,
          few,
        )
      where
        few : l.rows ≤ max_rows
        few = omega (arith, all-rows, J.read.all.rows_most)

    pub tally-counted :
        day < days → (a : Totals) → a.earned ≡ z.earned → a.kept ≡ z.kept → a.total ≡ l.rows * z.earned + z.kept →
        CountedBy (instance_of (together day b ls oven) l) ch a
    tally-counted week a earned all total = record {
      earned = earned ∙ earned-of;
      kept = all ∙ kept_of_lem;
      total =
          omega (
            arith,
            total,
            two-worth l.rows (kind_of (together day b ls oven) l) (joins-kinds day b ls oven l J) (row ch),
            ap (λ (e : ℕ). l.rows * e) earned-of,
            kept_of_lem,
          );
    }
      where
        same_rows : z.row ≡ l.rows
        same_rows = T.rows ∙ sym all-rows

        earned-of : z.earned ≡ kept l.rows (kind_of (together day b ls oven) l) (row ch) 1
        earned-of =
            T.counts.earned
            ∙ ap (λ (n : ℕ). kept n (kinds_of day b ls) (row ch) 1) same_rows
            ∙ sym (ap (λ (f : ℕ → ℕ). f 1) (kept-kinds l.rows (row ch) (join-same day b ls oven l J week).kinds))

        kept_of_lem : z.kept ≡ size l.rows (row ch)
        kept_of_lem = T.counts.kept ∙ ap (λ (n : ℕ). size n (row ch)) same_rows
