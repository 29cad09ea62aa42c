-- A row that is left out changes no count; one that is kept adds 1, and 1 to those of the kind where it is of the kind.
use mathlib.Core.Path.{ap, ◌∙◌}
use Prim.Native.Nat.{ℕ}
use native.Mathlib.Omega.{arith}
use lib.Dec.{eqb}
use Rattle.theory.specs.Sum.{pick}
use Rattle.claimfile.specs.declared.Claim.{Claim}
use Rattle.selection.proofs.CountLaws.{byte-pick, counted-out, counted-in}
use Rattle.selection.proofs.count_row.Goals as goal

pub returns-then-selection-c-ne1 : goal.returns-then-selection-c-ne1
returns-then-selection-c-ne1 c =
    let a = c.args in
    counted-out a.file.now a.layout a.kind a.selection.now a.c a.counts c.requires.2
    (λ e. omega (arith, e, c.if-selection-c-ne1.true))

pub returns : goal.returns
returns c =
    let a = c.args in
    counted-in a.file.now a.layout a.kind a.selection.now a.c a.counts c.requires.2
    (omega (arith, c.if-selection-c-ne1.false)) _
    (omega (arith, c.from.ensures ∙ byte-pick _ ∙ ap (λ (x : Claim). pick {A = ℕ} (eqb x.kind a.kind) 1 0) c.claim_of-claim.ensures.0))
    (omega arith)
