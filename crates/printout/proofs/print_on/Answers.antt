-- What settling answers decides the text: a refusal's number, or the choice and the totals that it left.
use mathlib.Core.Path.{subst}
use Prim.Native.Nat.{ℕ}
use native.Mathlib.Omega.{arith}
use Rattle.claimfile.specs.Day.{instance_of}
use Rattle.closing.proofs.Demand.{closed_on}
use Rattle.text.specs.Buffer.{Written}
use Rattle.report.specs.Text.{refused_text}
use Rattle.printout.proofs.PrintLaws.{prints-closed, prints-short}
use Rattle.printout.proofs.print_on.Goals as goal

pub write_closed-requires : goal.write_closed-requires
write_closed-requires c =
    let a = c.args in
    let closed =
    closed_on (instance_of a.file.now a.layout) a.layout.day a.choice.now a.sheet.now a.scratch.now _ _ _ _ _
    c.settle_on.ensures c.in-Ok.is
    in
    (c.requires.0, omega (arith, closed.1.choices, closed.2.choice_rest.long))

pub returns-in-Err : goal.returns-in-Err
returns-in-Err c =
    let a = c.args in
    prints-short (instance_of a.file.now a.layout) a.layout.day c.requires.2 a.choice.now a.sheet.now
    a.scratch.now _ _ _ _
    c.settle_on.ensures a.out.now _ _ _ c.in-Err.is
    (subst (λ (x : ℕ). Written (refused_text x) a.out.now c.write_refused.new.out c.write_refused.result)
    c.number.ensures c.write_refused.ensures)

pub returns-in-Ok : goal.returns-in-Ok
returns-in-Ok c =
    let a = c.args in
    prints-closed (instance_of a.file.now a.layout) a.layout.day c.requires.2 a.choice.now a.sheet.now
    a.scratch.now _ _ _ _
    c.settle_on.ensures a.out.now _ _ _ c.in-Ok.is c.write_closed.ensures
