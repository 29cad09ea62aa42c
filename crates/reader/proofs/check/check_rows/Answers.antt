use mathlib.Core.Path.{◌≡◌, sym, ◌∙◌, ap}
use native.Mathlib.Omega.{arith}
use native.Mathlib.Nat.{sub-zero}
use Rattle.claimfile.specs.File.{claim_at}
use Rattle.reader.specs.Reading.{claim_fault}
use Rattle.claimfile.specs.declared.Claim.{Claim}
use Rattle.reader.proofs.PassedLaws.{passed-on}
use Rattle.reader.proofs.FileLaws.{no_record, record_cut, record_fault, next-record}
use Rattle.reader.proofs.check.check_rows.Goals as goal
use Rattle.reader.proofs.check.check_rows.Goals.{After-check_claim}

-- what the check of the present record finds is the fault of its fields
judged :
    (c : After-check_claim) →
    let a = c.args in
    c.check_claim.result ≡ claim_fault a.kinds (claim_at a.rows.now c.loop-c.c) a.cards a.shops
judged c =
    let a = c.args in
    c.check_claim.ensures ∙ ap (λ (y : Claim). claim_fault a.kinds y a.cards a.shops) c.claim_at.ensures

pub loop-c-init : goal.loop-c-init
loop-c-init c = simp sub-zero

pub claim_at-requires : goal.claim_at-requires
claim_at-requires c = omega (arith, c.min-c-end.ensures)

pub returns-in_err-check_claim : goal.returns-in_err-check_claim
returns-in_err-check_claim c =
    let a = c.args in
    passed-on _ _ c.from_residual.ensures.1
    ∙ sym
    (record_fault _ _ _ _ a.count c.loop-c.c (omega (arith, c.min-c-end.ensures)) (omega (arith, c.min-c-end.ensures)) _
    (sym (judged (goal.at.returns-in_err-check_claim c).After-check_claim) ∙ c.in_err-check_claim.was))
    ∙ c.loop-c.invariant

pub loop-c-preserved : goal.loop-c-preserved
loop-c-preserved c =
    let a = c.args in
    sym
    (next-record _ _ _ _ a.count c.loop-c.c (omega (arith, c.min-c-end.ensures)) (omega (arith, c.min-c-end.ensures))
    (sym (judged (goal.at.loop-c-preserved c).After-check_claim) ∙ c.in_ok-check_claim.was))
    ∙ c.loop-c.invariant

-- the next record is cut off
pub returns-then-whole-count : goal.returns-then-whole-count
returns-then-whole-count c =
    let a = c.args in
    sym
    (record_cut _ _ _ _ a.count c.loop-c.c (omega (arith, c.min-c-end.ensures))
    (omega (arith, c.min-c-end.ensures)))
    ∙ c.loop-c.invariant

pub returns : goal.returns
returns c =
    let a = c.args in
    sym (no_record _ _ _ _ a.count c.loop-c.c (omega (arith, c.min-c-end.ensures))) ∙ c.loop-c.invariant
