-- `spare_places` meets its contract: a file that is entered is ready for the body, and each answer is that of the definition.
use mathlib.Core.Path.{sym, ◌∙◌}
use native.Mathlib.Omega.{arith}
use Rattle.claimfile.specs.File.{first_terms}
use Rattle.reader.proofs.PassedLaws.{passed-on}
use Rattle.limits.proofs.EntryLaws.{entered-ready}
use Rattle.spare.proofs.SpareLaws.{spare-value, spare-selected, spare-row, spared-by}
use Rattle.spare.proofs.spare_places.Goals as goal

pub returns-then-layout-row : goal.returns-then-layout-row
returns-then-layout-row c =
    let a = c.args in
    spared-by a.form a.file.now a.selection.now (λ i. omega (arith, c.shared_slice_known-1.given i)) a.row _
    c.enter.result _ c.enter.ensures c.in_ok-layout.was
    (spare-value a.file.now a.selection.now a.row _ (omega arith))

pub bounds-selection-row : goal.bounds-selection-row
bounds-selection-row c =
    let a = c.args in
    omega (
      arith,
      (entered-ready first_terms a.form a.file.now a.selection.now _ (sym c.enter.ensures ∙ c.in_ok-layout.was)).long,
    )

pub returns-then-selection-row-eq1 : goal.returns-then-selection-row-eq1
returns-then-selection-row-eq1 c =
    let a = c.args in
    spared-by a.form a.file.now a.selection.now (λ i. omega (arith, c.shared_slice_known-1.given i)) a.row _
    c.enter.result _ c.enter.ensures c.in_ok-layout.was
    (spare-selected a.file.now a.selection.now a.row _ (omega arith) c.if-selection-row-eq1.true)

pub spare_on-requires : goal.spare_on-requires
spare_on-requires c =
    let a = c.args in
    record {
      ready = entered-ready first_terms a.form a.file.now a.selection.now _ (sym c.enter.ensures ∙ c.in_ok-layout.was);
      row_lt_rows = omega arith;
    }

pub returns-in_err-layout : goal.returns-in_err-layout
returns-in_err-layout c =
    let a = c.args in
    spared-by a.form a.file.now a.selection.now (λ i. omega (arith, c.shared_slice_known-1.given i)) a.row _
    c.enter.result _ c.enter.ensures c.in_err-layout.was
    (passed-on _ _ c.from_residual.ensures.1)

pub returns : goal.returns
returns c =
    let a = c.args in
    spared-by a.form a.file.now a.selection.now (λ i. omega (arith, c.shared_slice_known-1.given i)) a.row _
    c.enter.result _ c.enter.ensures c.in_ok-layout.was
    (spare-row a.file.now a.selection.now a.row _ (omega arith) c.if-selection-row-eq1.false c.spare_on.result
    c.spare_on.ensures.is)
