-- `read_claims` meets its contract: a count without a fault is whole and small, so its records can be checked.
use mathlib.Core.Path.{◌≡◌, sym, ◌∙◌, ap, ap₂}
use Prim.Native.Nat.{ℕ, ◌+◌, ◌*◌, ◌≤◌}
use mathlib.Core.List.{List}
use native.Mathlib.Omega.{arith}
use borrow.Author.Rules.{rules}
use lib.ListN.{length}
use Rattle.std.specs.Prelude.{Ok}
use Rattle.theory.specs.Bounds.{max_rows}
use Rattle.claimfile.specs.File.{word}
use Rattle.reader.specs.Reading.{Checked, read_section, rows_from, section_of, claims_at}
use Rattle.reader.specs.declared.Refusal.TheVariants.{ClaimCount}
use Rattle.claimfile.proofs.WidthLaws.{tail-is}
use Rattle.reader.proofs.PassedLaws.{passed-on}
use Rattle.reader.proofs.FileLaws.{count-fine, section-fault, section-fits}
use Rattle.reader.proofs.check.read_claims.Goals as goal
use Rattle.reader.proofs.check.read_claims.Goals.{In_ok-check_count, After-check_rows}

-- what is known of the count once it has no fault
whole :
    (c : In_ok-check_count) →
    let a = c.args in
    (a.at + 2 ≤ length a.file.now) × (word a.file.now a.at ≤ max_rows)
whole c =
    let a = c.args in
    let fine = count-fine a.file.now a.at _ _ (sym c.check_count.ensures ∙ c.in_ok-check_count.was) in
    (fine.0, omega arith)

-- the section by the check of its records
checked :
    (c : After-check_rows) (x : Checked) → c.check_rows.result ≡ x →
    let a = c.args in
    claims_at a.kinds a.file.now a.at a.cards a.shops ≡ section_of x (word a.file.now a.at) (a.at + 2) 5
unfolding claims_at
checked c x is =
    let a = c.args in
    let s = a.file.now in
    section-fits s a.at max_rows ClaimCount _ _ (sym c.check_count.ensures ∙ c.in_ok-check_count.was)
    ∙ ap (λ (y : Checked). section_of y (word s a.at) (a.at + 2) 5)
    (ap₂ (λ (r : List ℕ) (n : ℕ). rows_from a.kinds r a.cards a.shops 0 n) (sym (tail-is (a.at + 2) s)) (sym c.u16_at-count.ensures.0)
    ∙ sym c.check_rows.ensures ∙ is)

pub returns-in_err-check_count : goal.returns-in_err-check_count
unfolding claims_at
returns-in_err-check_count c =
    let a = c.args in
    passed-on _ _ c.from_residual.ensures.1
    ∙ sym (section-fault a.file.now a.at max_rows ClaimCount _ _ _ (sym c.check_count.ensures ∙ c.in_err-check_count.was))

pub u16_at-count-requires : goal.u16_at-count-requires
u16_at-count-requires c = (whole (goal.at.u16_at-count-requires c).In_ok-check_count).0

pub overflow_add-start : goal.overflow_add-start
overflow_add-start c = omega (arith, (whole (goal.at.overflow_add-start c).In_ok-check_count).0)

pub slice_bounds-check_rows-count : goal.slice_bounds-check_rows-count
slice_bounds-check_rows-count c = omega (arith, (whole (goal.at.slice_bounds-check_rows-count c).In_ok-check_count).0)

pub slice_bounds-check_rows-start : goal.slice_bounds-check_rows-start
slice_bounds-check_rows-start c =
    let fine = whole (goal.at.slice_bounds-check_rows-start c).In_ok-check_count in
    search rules

pub check_rows-requires : goal.check_rows-requires
check_rows-requires c = omega (arith, (whole (goal.at.check_rows-requires c).In_ok-check_count).1, c.u16_at-count.ensures.0)

pub returns-in_err-check_rows : goal.returns-in_err-check_rows
unfolding claims_at
returns-in_err-check_rows c =
    passed-on _ _ c.from_residual-in_err-check_rows.ensures.1
    ∙ sym (checked (goal.at.returns-in_err-check_rows c).After-check_rows _ c.in_err-check_rows.was)

pub overflow_add-result : goal.overflow_add-result
overflow_add-result c =
    let fine = whole (goal.at.overflow_add-result c).In_ok-check_count in
    omega (arith, c.u16_at-count.ensures.0)

pub returns : goal.returns
returns c =
    let a = c.args in
    ap (λ (n : ℕ). Ok (read_section n (a.at + 2) (a.at + 2 + 5 * n))) c.u16_at-count.ensures.0
    ∙ sym (checked (goal.at.returns c).After-check_rows _ c.in_ok-check_rows.was)
