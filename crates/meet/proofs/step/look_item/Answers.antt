-- An item is a child or a row. A listed row costs its weight, so its arc is open; it leads from the node where its byte in the choice says
-- so.
use mathlib.Core.Path.{refl}
use native.Mathlib.Omega.{arith}
use borrow.Author.Tests.{eq-eqb, ne_eqb}
use Rattle.scratch.specs.View.{net_of}
use Rattle.look.proofs.ReachLaws.{arc-row, arc-child}
use Rattle.look.proofs.StepLaws.{item-down, ends-below}
use Rattle.meet.proofs.StepLaws.{looked-tried, looked-none, looked-as, item-leads, row_ends}
use Rattle.meet.proofs.step.look_item.Goals as goal
use Rattle.meet.proofs.step.look_item.Goals.{Start}

pub look_child-requires-clause-child_item : goal.look_child-requires-clause-child_item
look_child-requires-clause-child_item g c =
    item-down c.requires.at_item c.if-rows-j.true

pub returns-then-rows-j : goal.returns-then-rows-j
returns-then-rows-j g c =
    looked-as (arc-child (net_of c.args.sh (g.W.Width.memory c.args.scratch.now)) c.args.back c.if-rows-j.true)
    c.look_child.ensures

pub take-requires-clause-v_bound : goal.take-requires-clause-v_bound
take-requires-clause-v_bound g c = (
  ends-below c.requires.looking.ready
      (row_ends c.args.back c.args.shops c.requires.at_item c.requires.looking.ready.formed c.requires.side_of
      c.if-rows-j.false c.across-v.ensures c.byte_from.ensures),
  (c.requires.looking.most, omega (arith, c.if-rows-j.false, c.requires.looking.ready.buffers.room.few)),
)

pub returns-then-kept-byte_from : goal.returns-then-kept-byte_from
returns-then-kept-byte_from g c =
    looked-as (arc-row (net_of c.args.sh (g.W.Width.memory c.args.scratch.now)) c.args.back c.if-rows-j.false)
    (looked-tried (item-leads c.args.back c.args.shops c.requires.looking.ready.formed c.requires.at_item
    c.requires.side_of c.if-rows-j.false c.across-v.ensures c.byte_from.ensures
    c.kept.ensures)
    (ends-below c.requires.looking.ready
    (row_ends c.args.back c.args.shops c.requires.at_item c.requires.looking.ready.formed c.requires.side_of
    c.if-rows-j.false c.across-v.ensures c.byte_from.ensures))
    (omega (arith, c.if-rows-j.false, c.requires.looking.ready.buffers.room.few)) (eq-eqb _ _ c.if-kept-byte_from.true)
    c.take.ensures)

pub returns : goal.returns
returns g c =
    looked-as (arc-row (net_of c.args.sh (g.W.Width.memory c.args.scratch.now)) c.args.back c.if-rows-j.false)
    (looked-none (item-leads c.args.back c.args.shops c.requires.looking.ready.formed c.requires.at_item
    c.requires.side_of c.if-rows-j.false refl c.byte_from.ensures c.kept.ensures)
    (ne_eqb _ _ c.if-kept-byte_from.false))
