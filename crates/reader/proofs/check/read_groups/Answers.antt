-- `read_groups` meets its contract: a count without a fault is whole and small, so its records can be checked.
use mathlib.Core.Path.{◌≡◌, sym, ◌∙◌, ap, ap₂}
use Prim.Native.Nat.{ℕ, ◌+◌, ◌*◌, ◌≤◌}
use native.Mathlib.Omega.{arith}
use lib.ListN.{length}
use Rattle.std.specs.Prelude.{Ok}
use Rattle.theory.specs.Bounds.{max_groups}
use Rattle.claimfile.specs.File.{group_width, word}
use Rattle.reader.specs.Reading.{Checked, read_section, groups_from, section_of, section_at}
use Rattle.reader.specs.declared.Refusal.TheVariants.{GroupCount}
use Rattle.claimfile.proofs.WidthLaws.{width-most}
use Rattle.reader.proofs.PassedLaws.{passed-on}
use Rattle.reader.proofs.FileLaws.{count-fine, section-fault, section-fits}
use Rattle.reader.proofs.check.read_groups.Goals as goal
use Rattle.reader.proofs.check.read_groups.Goals.{In_ok-check_count, After-check_groups}

-- what is known of the count once it has no fault
whole :
    (c : In_ok-check_count) →
    let a = c.args in
    (a.at + 2 ≤ length a.file.now) × (word a.file.now a.at ≤ max_groups)
whole c =
    let a = c.args in
    let fine = count-fine a.file.now a.at _ _ (sym c.check_count.ensures ∙ c.in_ok-check_count.was) in
    (fine.0, omega arith)

-- the section by the check of its records
checked :
    (c : After-check_groups) (x : Checked) → c.check_groups.result ≡ x →
    let a = c.args in
    section_at a.form a.file.now a.at ≡ section_of x (word a.file.now a.at) (a.at + 2) (group_width a.form.week)
unfolding section_at
checked c x is =
    let a = c.args in
    let s = a.file.now in
    section-fits s a.at max_groups GroupCount _ _ (sym c.check_count.ensures ∙ c.in_ok-check_count.was)
    ∙ ap (λ (y : Checked). section_of y (word s a.at) (a.at + 2) (group_width a.form.week))
    (ap (groups_from a.form s (a.at + 2) 0) (sym c.u16_at-count.ensures.0) ∙ sym c.check_groups.ensures ∙ is)

pub returns-in_err-check_count : goal.returns-in_err-check_count
unfolding section_at
returns-in_err-check_count c =
    let a = c.args in
    passed-on _ _ c.from_residual.ensures.1
    ∙ sym (section-fault a.file.now a.at max_groups GroupCount _ _ _ (sym c.check_count.ensures ∙ c.in_err-check_count.was))

pub u16_at-count-requires : goal.u16_at-count-requires
u16_at-count-requires c = (whole (goal.at.u16_at-count-requires c).In_ok-check_count).0

pub overflow_add-start : goal.overflow_add-start
overflow_add-start c = omega (arith, (whole (goal.at.overflow_add-start c).In_ok-check_count).0)

pub check_groups-requires : goal.check_groups-requires
check_groups-requires c =
    let fine = whole (goal.at.check_groups-requires c).In_ok-check_count in
    (omega arith, omega (arith, c.u16_at-count.ensures.0))

pub returns-in_err-check_groups : goal.returns-in_err-check_groups
unfolding section_at
returns-in_err-check_groups c =
    passed-on _ _ c.from_residual-in_err-check_groups.ensures.1
    ∙ sym (checked (goal.at.returns-in_err-check_groups c).After-check_groups _ c.in_err-check_groups.was)

pub overflow_add-result : goal.overflow_add-result
overflow_add-result c =
    let fine = whole (goal.at.overflow_add-result c).In_ok-check_count in
    omega (
      arith,
      c.u16_at-count.ensures.0,
      ap (λ (w : ℕ). w * c.u16_at-count.result) c.width_of.ensures,
      width-most c.args.form.week c.u16_at-count.result,
    )

pub returns : goal.returns
returns c =
    let a = c.args in
    ap₂ (λ (n w : ℕ). Ok (read_section n (a.at + 2) (a.at + 2 + w * n))) c.u16_at-count.ensures.0 c.width_of.ensures
    ∙ sym (checked (goal.at.returns c).After-check_groups _ c.in_ok-check_groups.was)
