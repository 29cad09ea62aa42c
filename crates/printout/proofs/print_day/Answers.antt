-- A refused file's number is printed with nothing changed, and an accepted file is printed by `print_on`.
use mathlib.Core.Path.{sym, subst, ◌∙◌}
use Prim.Native.Nat.{ℕ}
use native.Mathlib.Omega.{arith}
use Rattle.reader.proofs.AcceptedLaws.{accepted-day, accepted-sound, accepted-kinds}
use Rattle.text.specs.Buffer.{Written}
use Rattle.report.specs.Text.{refused_text}
use Rattle.printout.proofs.PrintLaws.{prints-refused, prints-accepted}
use Rattle.printout.proofs.print_day.Goals as goal

pub print_on-requires : goal.print_on-requires
print_on-requires c =
    let is = sym c.read.ensures ∙ c.in-Ok.is in
    (accepted-sound _ _ _ is, accepted-kinds _ _ _ is, omega (arith, accepted-day _ _ _ is))

pub returns-in-Err : goal.returns-in-Err
returns-in-Err c =
    let a = c.args in
    prints-refused a.file.now a.choice.now a.sheet.now a.scratch.now a.out.now _ _ _
    (sym c.read.ensures ∙ c.in-Err.is)
    (subst (λ (x : ℕ). Written (refused_text x) a.out.now c.write_refused.new.out c.write_refused.result)
    c.number.ensures c.write_refused.ensures)

pub returns-in-Ok : goal.returns-in-Ok
returns-in-Ok c =
    let a = c.args in
    prints-accepted a.file.now a.choice.now a.sheet.now a.scratch.now a.out.now _ _ _ _ _ _
    (sym c.read.ensures ∙ c.in-Ok.is) c.print_on.ensures
