use mathlib.Core.Path.{◌≡◌, sym, ◌∙◌}
use Prim.Native.Nat.{◌+◌, ◌≤◌}
use native.Mathlib.Omega.{arith}
use native.Mathlib.Nat.{sub-zero}
use lib.ListN.{length}
use Rattle.claimfile.specs.File.{group_width, record_at}
use Rattle.claimfile.proofs.WidthLaws.{width-inside}
use Rattle.reader.proofs.PassedLaws.{passed-on}
use Rattle.reader.proofs.FileLaws.{no_record, record_cut, record_fault, next-record}
use Rattle.reader.proofs.check.check_groups.Goals as goal
use Rattle.reader.proofs.check.check_groups.Goals.{In-loop-own}

pub overflow_sub-file : goal.overflow_sub-file
overflow_sub-file c = omega arith

pub loop-own-init : goal.loop-own-init
loop-own-init c = simp sub-zero

-- the record that the loop is at is whole, and one of the section's
at-record :
    (c : In-loop-own) →
    let a = c.args in
    record_at a.form.week a.start c.loop-own.own + group_width a.form.week ≤ length a.file.now
at-record c =
    omega (
      arith,
      c.requires.0,
      c.min-own-end.ensures,
      c.whole_in-whole.ensures.0,
      width-inside c.args.form.week c.loop-own.own c.whole_in-whole.result (omega (arith, c.min-own-end.ensures)),
    )

pub check_group-requires : goal.check_group-requires
check_group-requires c = at-record (goal.at.check_group-requires c).In-loop-own

pub returns-in_err-check_group : goal.returns-in_err-check_group
returns-in_err-check_group c =
    let a = c.args in
    passed-on _ _ c.from_residual.ensures.1
    ∙ sym
    (record_fault _ _ _ _ a.count c.loop-own.own (omega (arith, c.min-own-end.ensures))
    (at-record (goal.at.returns-in_err-check_group c).In-loop-own) _ (sym c.check_group.ensures ∙ c.in_err-check_group.was))
    ∙ c.loop-own.invariant

pub loop-own-preserved : goal.loop-own-preserved
loop-own-preserved c =
    let a = c.args in
    sym
    (next-record _ _ _ _ a.count c.loop-own.own (omega (arith, c.min-own-end.ensures)) (at-record (goal.at.loop-own-preserved c).In-loop-own)
    (sym c.check_group.ensures ∙ c.in_ok-check_group.was))
    ∙ c.loop-own.invariant

-- the next record is cut off
pub returns-then-whole-count : goal.returns-then-whole-count
returns-then-whole-count c =
    let a = c.args in
    let last : c.loop-own.own ≡ c.whole_in-whole.result = omega (arith, c.min-own-end.ensures) in
    sym
    (record_cut _ _ _ _ a.count c.loop-own.own (omega arith)
    (rw last (omega (arith, c.requires.0, c.whole_in-whole.ensures.1))))
    ∙ c.loop-own.invariant

pub returns : goal.returns
returns c =
    let a = c.args in
    sym (no_record _ _ _ _ a.count c.loop-own.own (omega (arith, c.min-own-end.ensures))) ∙ c.loop-own.invariant
