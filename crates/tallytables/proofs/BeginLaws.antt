-- Laws of beginning a tally.
--   empty-none             a tally without rows or groups
--   filled_none            a tally of a file in which no row is in
--   started-refused started-dayless started-filled     what beginning promises, case by case
use mathlib.Core.Path.{◌≡◌, refl, sym, ap, ◌∙◌, subst}
use mathlib.Core.List.{List}
use Prim.Native.Nat.{ℕ, ◌<◌, ◌≤◌, zero-le}
use native.Mathlib.Decide.{dec_lt}
use native.Mathlib.Omega.{arith}
use lib.ListN.{length-replicate, get_or-replicate}
use Rattle.theory.specs.Network.{on_side, on_both}
use Rattle.theory.specs.Level.{count}
use Rattle.theory.proofs.IncidenceLaws.{load-zero, fits-zero}
use Rattle.claimfile.specs.declared.Form.{Form}
use Rattle.claimfile.specs.declared.Layout.{Layout}
use Rattle.claimfile.specs.File.{days}
use Rattle.claimfile.specs.Day.{groups_of, limit_of, network_of, instance_of}
use Rattle.claimfile.specs.Sound.{Sound}
use Rattle.claimfile.proofs.DayLaws.{sound-formed}
use Rattle.reader.specs.declared.Refusal.{Refusal}
use Rattle.reader.specs.Reading.{reading}
use Rattle.reader.proofs.AcceptedLaws.{one-layout, one-refusal, not-both}
use Rattle.refusal.specs.declared.Reason.TheVariants.{File, Day}
use Rattle.refusal.specs.Table.{number_of}
use Rattle.tally.specs.declared.State.{State}
use Rattle.tally.specs.declared.Tally.{Tally}
use Rattle.tally.specs.Cells.{cells, Table, up_to, cell_of}
use Rattle.tally.specs.Tally.{tally, none_in, none, Holds}
use Rattle.tally.proofs.CellLaws.{up-to-in, up-to-past}
use Rattle.tallytables.specs.Begin.{Empty, Started}
use Rattle.std.specs.Prelude.{Ok, Err}

pub empty-none : (tb : List ℕ) (st : State) → Table cells none tb → st ≡ none_in 0 0 0 → Empty (tally tb st)
empty-none tb st table is = subst (λ (x : State). Empty (tally tb x)) (sym is) record {
  cards = refl;
  shops = refl;
  rows = refl;
  tables = table;
  selection = λ i h. get_or-replicate {A = ℕ} 512 i 0 0 h;
  counts = λ i h. get_or-replicate {A = ℕ} 512 i 0 0 h;
}

zero-up-to : (n : ℕ) (f : ℕ → ℕ) → ((i : ℕ) → f i ≡ 0) → (i : ℕ) → 0 ≡ up_to n f i
zero-up-to n f z i =
    elim (dec_lt i n) [
      | yes h ↦ sym (up-to-in n f i h ∙ z i)
      | no h ↦ sym (up-to-past n f i (omega arith))
    ]

pub filled_none :
    (s : List ℕ) (l : Layout) → Sound s l → (tb : List ℕ) (st : State) → Table cells (cell_of (instance_of s l)) tb →
    st ≡ none_in l.cards l.shops l.rows → Holds (instance_of s l) (tally tb st) none
filled_none s l sound tb st table is = subst (λ (x : State). Holds (instance_of s l) (tally tb x) none) (sym is) record {
  formed = sound-formed s l sound;
  groups_most = omega (arith, sound.cards_most, sound.shops_most);
  rows_most = sound.rows_most;
  cards = refl;
  shops = refl;
  rows = refl;
  tables = table;
  long_counts = length-replicate {A = ℕ} 512 0;
  long_selection = length-replicate {A = ℕ} 512 0;
  selection = λ i h. get_or-replicate {A = ℕ} 512 i 0 0 h ∙ zero-up-to l.rows none (λ j. refl) i;
  counts = λ v h.
      get_or-replicate {A = ℕ} 512 v 0 0 h
      ∙ zero-up-to (groups_of l) (count (network_of s l) none) (load-zero l.rows (on_both (network_of s l))) v;
  choice = record {
    bits = λ c h. zero-le;
    fits = (
      fits-zero l.rows (on_side (network_of s l) 0) (groups_of l) (limit_of s l),
      fits-zero l.rows (on_side (network_of s l) 1) (groups_of l) (limit_of s l),
    );
  };
}

module _ (f : Form) (s : List ℕ) (n : ℕ) (t : Tally) where
  pub started-refused :
      (why : Refusal) → reading f s ≡ Err why → n ≡ number_of (File why) → Empty t → Started f s n t
  started-refused why is number empty = record {
    refused = λ w p. (number ∙ ap (λ (x : Refusal). number_of (File x)) (one-refusal (reading f s) why w is p), empty);
    dayless = λ l p. not-both (reading f s) l why p is;
    accepted = λ l p. not-both (reading f s) l why p is;
  }

  module _ (l : Layout) (is : reading f s ≡ Ok l) where
    same-day : (k : Layout) → reading f s ≡ Ok k → l.day ≡ k.day
    same-day k p = ap (λ (x : Layout). x.day) (one-layout (reading f s) l k is p)

    pub started-dayless : days ≤ l.day → n ≡ number_of Day → Empty t → Started f s n t
    started-dayless past number empty = record {
      refused = λ why p. not-both (reading f s) l why is p;
      dayless = λ k p h. (number, empty);
      accepted = λ k p h. absurd (omega (arith, same-day k p));
    }

    pub started-filled : l.day < days → n ≡ 0 → Holds (instance_of s l) t none → Started f s n t
    started-filled day number holds = record {
      refused = λ why p. not-both (reading f s) l why is p;
      dayless = λ k p h. absurd (omega (arith, same-day k p));
      accepted = λ k p h.
          (number, subst (λ (x : Layout). Holds (instance_of s x) t none) (one-layout (reading f s) l k is p) holds);
    }
