-- `write_slip` meets its contract: the file's first fault is told with nothing changed, and for an accepted file `slip_on` writes.
use mathlib.Core.Path.{sym, subst, ◌∙◌}
use Prim.Native.Nat.{ℕ}
use Rattle.std.specs.Prelude.{Result}
use Rattle.reader.proofs.PassedLaws.{passed-on}
use Rattle.reader.proofs.AcceptedLaws.{accepted-sound}
use Rattle.refusal.specs.declared.Reason.{Reason}
use Rattle.slip.specs.Write.{Slips}
use Rattle.slip.proofs.WriteLaws.{slips-refused, slips-accepted}
use Rattle.slip.proofs.write_slip.Goals as goal

pub slip_on-requires : goal.slip_on-requires
slip_on-requires c = accepted-sound _ _ _ (sym c.read.ensures ∙ c.in_ok-layout.was)

pub returns-in_err-layout : goal.returns-in_err-layout
returns-in_err-layout c =
    let a = c.args in
    subst (λ (r : Result ℕ Reason). Slips a.form a.file.now a.selection.now a.out.now a.out.now r)
    (sym (passed-on _ _ c.from_residual.ensures.1))
    (slips-refused a.form a.file.now a.selection.now a.out.now _ (sym c.read.ensures ∙ c.in_err-layout.was))

pub returns : goal.returns
returns c =
    let a = c.args in
    slips-accepted a.form a.file.now a.selection.now a.out.now _ _ _
    (sym c.read.ensures ∙ c.in_ok-layout.was) c.slip_on.ensures
