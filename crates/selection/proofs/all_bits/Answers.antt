-- The bytes that the chain goes through are the first `rows`, and it tells whether each is 0 or 1.
use Rattle.std.specs.Prelude.{◌↔◌, ◌≤◌, IsTrue, EachIndex, slice_index, take}
use Rattle.std.proofs.Common.{rules}
use Rattle.selection.proofs.SelectionLaws.{bits-by}
use Rattle.selection.proofs.all_bits.Goals as goal

pub returns : goal.returns
returns c =
    let a = c.args in
    let first = take a.rows a.selection.now in
    let is : IsTrue c.all.result ↔ EachIndex first (λ k. slice_index first k ≤ 1) = search rules in
    bits-by a.rows a.selection.now c.requires c.all.result is
