use mathlib.Core.Path.{◌≡◌}
use Prim.Native.Nat.{◌+◌, ◌-◌}
use native.Mathlib.Omega.{arith}
use Rattle.residual.proofs.LinkLaws.{links-of}
use Rattle.residual.proofs.lists.link_children.Goals as goal

pub link_child-requires-clause-links : goal.link_child-requires-clause-links
link_child-requires-clause-links g c =
    let L = c.loop-v in
    let e : c.args.sh.rows + (L.v - 1) + 1 ≡ c.args.sh.rows + L.v = omega (arith, c.loop-v-test.true) in
    rw e (links-of L.invariant)

pub returns : goal.returns
returns g c =
    let all : c.args.sh.rows + c.loop-v.v ≡ c.args.sh.rows = omega arith in
    rw all at c.loop-v.invariant
