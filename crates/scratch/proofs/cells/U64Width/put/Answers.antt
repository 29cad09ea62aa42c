-- What is stored is below 2 ^ 32, so it is its own low half.
use Rattle.std.proofs.Common.{◌≡◌, ℕ, set, ap, arith, ◌∙◌}
use Rattle.std.proofs.lemmas.List.{map-set}
use Rattle.std.specs.Prelude.{map}
use Rattle.scratch.specs.Memory.{low}
use Rattle.scratch.proofs.cells.U64Width.put.Goals as goal

pub returns : goal.returns
returns c =
    let same : low c.from.result ≡ c.args.x = omega (arith, c.from.ensures, c.ranges.x) in
    map-set low c.args.cells.now c.args.at c.from.result ∙ ap (λ (x : ℕ). set (map low c.args.cells.now) c.args.at x) same
