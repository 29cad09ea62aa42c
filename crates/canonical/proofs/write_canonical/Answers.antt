-- `write_canonical` meets its contract: the file's first fault is told, then that the buffer is shorter than the file read would be in
-- the week layout, each with nothing changed; else `canonical_on` writes.
use mathlib.Core.Path.{sym, subst, ◌∙◌}
use Prim.Native.Nat.{ℕ}
use Rattle.std.specs.Prelude.{Result}
use native.Mathlib.Omega.{arith}
use Rattle.reader.proofs.PassedLaws.{passed-on}
use Rattle.reader.proofs.AcceptedLaws.{accepted-sound}
use Rattle.refusal.specs.declared.Reason.{Reason}
use Rattle.canonical.specs.Write.{Writes}
use Rattle.canonical.proofs.WriteLaws.{writes-refused, writes_short, writes-written}
use Rattle.canonical.proofs.write_canonical.Goals as goal

pub week_length-least-requires : goal.week_length-least-requires
week_length-least-requires c =
    let sound = accepted-sound _ _ _ (sym c.read.ensures ∙ c.in_ok-layout.was) in
    (sound.cards_most, sound.shops_most, sound.rows_most)

pub returns-then-out-least : goal.returns-then-out-least
returns-then-out-least c =
    let a = c.args in
    writes_short a.form a.file.now a.out.now _ (sym c.read.ensures ∙ c.in_ok-layout.was)
    (omega (arith, c.week_length-least.ensures))

pub canonical_on-requires : goal.canonical_on-requires
canonical_on-requires c =
    (accepted-sound _ _ _ (sym c.read.ensures ∙ c.in_ok-layout.was), omega (arith, c.week_length-least.ensures))

pub returns-in_err-layout : goal.returns-in_err-layout
returns-in_err-layout c =
    let a = c.args in
    subst (λ (r : Result ℕ Reason). Writes a.form a.file.now a.out.now a.out.now r)
    (sym (passed-on _ _ c.from_residual.ensures.1))
    (writes-refused a.form a.file.now a.out.now _ (sym c.read.ensures ∙ c.in_err-layout.was))

pub returns : goal.returns
returns c =
    let a = c.args in
    writes-written a.form a.file.now a.out.now _ (sym c.read.ensures ∙ c.in_ok-layout.was) _ _
    (omega (arith, c.week_length-least.ensures)) c.canonical_on.ensures
