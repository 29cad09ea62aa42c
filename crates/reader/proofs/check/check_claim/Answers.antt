-- `check_claim` meets its contract.
use Prim.Native.Nat.{◌<◌, ◌≤◌}
use native.Mathlib.Omega.{arith}
use borrow.Author.Tests.{le-leb, lt-leb}
use Rattle.reader.specs.Reading.{claim_fault}
use Rattle.reader.proofs.check.check_claim.Goals as goal

pub returns-then-cards-claim : goal.returns-then-cards-claim
unfolding claim_fault
returns-then-cards-claim c =
    let a = c.args in
    let card : a.cards ≤ a.claim.card = omega arith in
    rw (le-leb _ _ card)

pub returns-then-shops-claim : goal.returns-then-shops-claim
unfolding claim_fault
returns-then-shops-claim c =
    let a = c.args in
    let card : a.claim.card < a.cards = omega arith in
    let shop : a.shops ≤ a.claim.shop = omega arith in
    rw (lt-leb _ _ card, le-leb _ _ shop)

pub returns-then-kinds-claim : goal.returns-then-kinds-claim
unfolding claim_fault
returns-then-kinds-claim c =
    let a = c.args in
    let card : a.claim.card < a.cards = omega arith in
    let shop : a.claim.shop < a.shops = omega arith in
    let kind : a.kinds ≤ a.claim.kind = omega arith in
    rw (lt-leb _ _ card, lt-leb _ _ shop, le-leb _ _ kind)

pub returns : goal.returns
unfolding claim_fault
returns c =
    let a = c.args in
    let card : a.claim.card < a.cards = omega arith in
    let shop : a.claim.shop < a.shops = omega arith in
    let kind : a.claim.kind < a.kinds = omega arith in
    rw (lt-leb _ _ card, lt-leb _ _ shop, lt-leb _ _ kind)
