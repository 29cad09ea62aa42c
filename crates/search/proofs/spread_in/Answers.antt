use mathlib.Core.Path.{sym, ◌∙◌}
use native.Mathlib.Omega.{arith}
use Rattle.search.proofs.QueueLaws.{going-first, going-most, going-room, going-open, going_next, going-found, going_end}
use Rattle.search.proofs.spread_in.Goals as goal

pub loop-h-init : goal.loop-h-init
loop-h-init g c = going-first c.requires

pub label-requires-clause-room : goal.label-requires-clause-room
label-requires-clause-room g c =
    going-room c.requires c.loop-h.invariant

pub returns-then-label-was : goal.returns-then-label-was
returns-then-label-was g c =
    going-found c.requires c.loop-h.invariant
    (λ z. c.if-label-was.true (c.label.ensures.0 ∙ z ∙ sym c.label-was.ensures.0))

pub queue-u-requires : goal.queue-u-requires
queue-u-requires g c =
    record {
      room = going-room c.requires c.loop-h.invariant;
      i_bound = omega
          (arith, c.loop-h-test.true, going-most c.requires c.loop-h.invariant);
    }

pub scan_in-n-requires : goal.scan_in-n-requires
scan_in-n-requires g c = going-open c.requires c.loop-h.invariant c.loop-h-test.true c.queue-u.ensures

pub overflow_add-h : goal.overflow_add-h
overflow_add-h g c =
    omega (arith, c.loop-h-test.true, going-most c.requires c.loop-h.invariant, c.requires.ready.buffers.room.few)

pub loop-h-smaller : goal.loop-h-smaller
loop-h-smaller g c = omega (arith, c.loop-h-test.true, going-most c.requires c.loop-h.invariant)

pub loop-h-preserved : goal.loop-h-preserved
loop-h-preserved g c = going_next c.requires c.loop-h.invariant c.loop-h-test.true c.queue-u.ensures
    c.scan_in-n.ensures

pub returns : goal.returns
returns g c = going_end c.requires c.loop-h.invariant c.loop-h-test.false
