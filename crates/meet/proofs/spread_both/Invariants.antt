-- The invariant, `Going`: the first h nodes from the start and the first k from the target are done, and no step from them leads to a fresh
-- node or to the other end. Each turn does one node more; there are no more than the nodes of both ends.
use Prim.Native.Nat.{◌+◌, ◌*◌, ◌-◌}
use Rattle.meet.specs.Meet.{Begun}
use Rattle.meet.proofs.SearchLaws.{Going}
use Rattle.meet.proofs.spread_both.Given as goal

abbrev pub invariant-loop-h : goal.invariant-loop-h
invariant-loop-h g l = (B : Begun l.sh l.choice (g.W.Width.memory l.sheet) (g.W.Width.memory l.initial.scratch) l.start l.target) →
    Going l.sh l.choice (g.W.Width.memory l.sheet) B.old (g.W.Width.memory l.scratch) l.start l.target l.n l.m l.h l.k l.hit

abbrev pub decreases-loop-h : goal.decreases-loop-h
decreases-loop-h g l = 2 * (l.sh.groups + 3) - l.h - l.k
