-- Laws of a selection given as bytes.
--   bits_are are-bits bits-by      whether its first n bytes are 0 or 1
use mathlib.Core.Path.{◌≡◌}
use mathlib.Core.List.{List}
use mathlib.Core.Bool.{Bool, true}
use Prim.Native.Nat.{ℕ, ◌≤◌, ◌<◌}
use native.Mathlib.Omega.{arith}
use lib.Dec.{leb}
use lib.ListN.{length, take}
use lib.Seq.{get_or-take, length-take-le}
use Rattle.std.specs.Prelude.{◌↔◌, IsTrue, EachIndex, slice_index}
use Rattle.std.specs.Bool.{one_answer}
use borrow.Author.Tests.{le-leb, leb-true}
use Rattle.theory.specs.Matroid.{row}
use Rattle.theory.proofs.TestLaws.{every_true, true-every}
use Rattle.selection.specs.Selection.{bits}

module _ (n : ℕ) (sel : List ℕ) where
  pub bits_are : ((c : ℕ) → c < n → row sel c ≤ 1) → bits n sel ≡ true
  unfolding bits
  bits_are h = true-every n (λ c. leb (row sel c) 1) (λ c l. le-leb (row sel c) 1 (h c l))

  pub are-bits : bits n sel ≡ true → (c : ℕ) → c < n → row sel c ≤ 1
  unfolding bits
  are-bits e c l = leb-true (row sel c) 1 (every_true n (λ i. leb (row sel i) 1) e c l)

  -- what is true where each of the first n bytes is 0 or 1, and only there, tells just that
  pub bits-by :
      n ≤ length sel → (t : Bool) → (IsTrue t ↔ EachIndex (take n sel) (λ c. slice_index (take n sel) c ≤ 1)) → t ≡ bits n sel
  bits-by long t is =
      one_answer t (bits n sel) is (
        (λ e c l.
            let below : c < n = omega (arith, length-take-le n sel long) in
            rw get_or-take (are-bits e c below)),
        (λ each. bits_are (λ c l. rw (← get_or-take n sel c 0 l) (each c (omega (arith, length-take-le n sel long))))),
      )
