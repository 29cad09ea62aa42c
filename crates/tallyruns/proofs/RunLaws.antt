-- Laws of runs of calls on a tally.
--   run_holds              after a run of calls the tally holds the rows put in and not taken out since
--   empty-changed empty-count empty-run        on a tally without rows or groups every call answers 9, and none changes anything
use mathlib.Core.Path.{◌≡◌, sym, ◌∙◌, subst}
use mathlib.Core.List.{List, [], ◌∷◌}
use Prim.Native.Nat.{ℕ}
use native.Mathlib.Omega.{arith}
use Rattle.theory.specs.Incidence.{plus}
use Rattle.theory.specs.Network.{Instance}
use Rattle.exchange.specs.Exchange.{minus}
use Rattle.answers.specs.declared.TallyCountAnswer.{TallyCountAnswer}
use Rattle.refusal.specs.declared.Reason.TheVariants.{Value}
use Rattle.refusal.specs.Table.{number_of}
use Rattle.tally.specs.declared.Tally.{Tally}
use Rattle.tally.specs.Tally.{Holds, put_number, take_number, Changed, lacking, CountRead}
use Rattle.tallytables.specs.Begin.{Empty}
use Rattle.tallyruns.specs.Runs.{Call, Run, after, in_after}
use Rattle.tallyruns.specs.Runs.Call.{put, taken, read}

pub run_holds :
    (i : Instance) (calls : List Call) (t t' : Tally) (X : ℕ → ℕ) → Holds i t X → Run t calls t' → Holds i t' (in_after i X calls)
run_holds i [] t t' X H e = subst (λ (u : Tally). Holds i u X) (sym e) H
run_holds i (put c ∷ calls) t t' X H (u, (n, p), rest) =
    run_holds i calls u t' (after i X (put c)) (p.holds i X H).1 rest
run_holds i (taken c ∷ calls) t t' X H (u, (n, p), rest) =
    run_holds i calls u t' (after i X (taken c)) (p.holds i X H).1 rest
run_holds i (read side g ∷ calls) t t' X H (u, (r, (shown, e)), rest) =
    run_holds i calls u t' X (subst (λ (w : Tally). Holds i w X) (sym e) H) rest

--------------------------------------------------------------------------------
-- A tally without rows or groups

module _ (t : Tally) (w : Empty t) where
  pub empty-changed :
      (number : Instance → (ℕ → ℕ) → ℕ → ℕ) (next : (ℕ → ℕ) → ℕ → ℕ → ℕ) (c n : ℕ) (u : Tally) → Changed number next t c n u →
      (n ≡ number_of Value) × (u ≡ t)
  empty-changed number next c n u p =
      let nine : n ≡ number_of Value = p.lacks (omega (arith, w.rows)) in
      (nine, p.still (λ e. omega arith))

  pub empty-count : (side g : ℕ) (r : TallyCountAnswer) (u : Tally) → CountRead t side g r u → (r ≡ lacking) × (u ≡ t)
  empty-count side g r u (shown, e) = (shown.lacks w.cards w.shops, e)

pub empty-run : (calls : List Call) (t t' : Tally) → Empty t → Run t calls t' → t' ≡ t
empty-run [] t t' w e = e
empty-run (put c ∷ calls) t t' w (u, (n, p), rest) =
    let same = (empty-changed t w put_number plus c n u p).1 in
    empty-run calls u t' (subst Empty (sym same) w) rest ∙ same
empty-run (taken c ∷ calls) t t' w (u, (n, p), rest) =
    let same = (empty-changed t w take_number minus c n u p).1 in
    empty-run calls u t' (subst Empty (sym same) w) rest ∙ same
empty-run (read side g ∷ calls) t t' w (u, (r, (shown, e)), rest) = empty-run calls u t' (subst Empty (sym e) w) rest ∙ e
