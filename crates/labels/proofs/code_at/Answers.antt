-- A row that does not weigh the toll is ordinary. Else the two labels are read: where they differ the code is 3, and where they are
-- the same the one label tells it.
use native.Mathlib.Omega.{arith}
use Rattle.theory.proofs.ResidualLaws.{card-below, shop-below}
use Rattle.labels.proofs.ReadLaws.{code-mixed, code-source, code-sink, code_rest}
use Rattle.labels.proofs.code_at.Goals as goal

pub label-a-requires : goal.label-a-requires
label-a-requires g c =
    record {
      room = c.requires.0.room;
      v_bound = omega (arith, c.card.ensures, card-below _ c.requires.0.formed _ c.requires.1);
    }

pub label-b-requires : goal.label-b-requires
label-b-requires g c =
    record {
      room = c.requires.0.room;
      v_bound = omega (arith, c.shop.ensures, shop-below _ c.requires.0.formed _ c.requires.1);
    }

pub returns-then-a-b : goal.returns-then-a-b
returns-then-a-b g c =
    code-mixed _ _ _ c.weight.ensures.0 c.card.ensures c.shop.ensures c.label-a.ensures.0
    c.label-b.ensures.0 (omega (arith, c.if-weight-toll.false)) (λ e. omega (arith, c.if-a-b.true)) (omega arith)

pub returns-then-a-eq-FROM_SOURCE : goal.returns-then-a-eq-FROM_SOURCE
returns-then-a-eq-FROM_SOURCE g c =
    code-source _ _ _ c.weight.ensures.0 c.card.ensures c.shop.ensures c.label-a.ensures.0
    c.label-b.ensures.0 (omega (arith, c.if-weight-toll.false)) (omega (arith, c.if-a-b.false))
    (omega (arith, c.if-a-eq-FROM_SOURCE.true)) (omega arith)

pub returns-then-a-eq-TO_SINK : goal.returns-then-a-eq-TO_SINK
returns-then-a-eq-TO_SINK g c =
    code-sink _ _ _ c.weight.ensures.0 c.card.ensures c.shop.ensures c.label-a.ensures.0
    c.label-b.ensures.0 (omega (arith, c.if-weight-toll.false)) (omega (arith, c.if-a-b.false))
    (omega (arith, c.if-a-eq-TO_SINK.true)) (omega arith)

pub returns : goal.returns
returns g c =
    code_rest _ _ _ c.weight.ensures.0 c.card.ensures c.shop.ensures c.label-a.ensures.0
    c.label-b.ensures.0 (omega (arith, c.if-weight-toll.false)) (λ e. omega (arith, c.if-a-eq-FROM_SOURCE.false))
    (λ e. omega (arith, c.if-a-eq-TO_SINK.false)) (omega arith)
