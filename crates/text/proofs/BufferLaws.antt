-- Laws of appending bytes to a lent buffer.
--   sets_then              writing two runs of bytes is writing both as one
--   none                   no byte
--   then                   two appends are one
--   kept-length            an append keeps the buffer's length
--   whole, short           a text that was put into any other buffer, at its start, and ended at m: put at the start of a buffer of m
--                          cells or more it is written whole, and of a shorter one nothing is written
use mathlib.Core.Path.{◌≡◌, refl, sym, ap, ◌∙◌}
use mathlib.Core.Logic.{inl, inr}
use Prim.Native.Nat.{ℕ, suc, ◌+◌, ◌≤◌, ◌<◌}
use mathlib.Core.List.{List, [], ◌∷◌, ◌++◌}
use native.Mathlib.Nat.{add-zero, add-suc, suc-add}
use native.Mathlib.Omega.{arith}
use lib.ListN.{length, take, drop, set, length-append}
use lib.Seq.{sets, sets-eq, length-sets, take_at, drop_at}
use Rattle.text.specs.Buffer.{Appended, Written}

sets_then : (a b out : List ℕ) (at : ℕ) → sets (sets out at a) (at + length a) b ≡ sets out at (a ++ b)
sets_then [] b out at = rw add-zero
sets_then (x ∷ a) b out at = rw (add-suc, ← suc-add) (sets_then a b (set out at x) (suc at))

pub none : (out : List ℕ) (at : ℕ) → Appended out out at at []
none out at = record { cells = refl; end = sym (add-zero at) }

pub then : {out mid out' : List ℕ} {at m n : ℕ} {a b : List ℕ} → Appended out mid at m a → Appended mid out' m n b
    → Appended out out' at n (a ++ b)
then {out} {mid} {out'} {at} {m} {n} {a} {b} p q = record {
  cells = rw (← sets_then a b out at, ← p.cells, ← p.end) q.cells;
  end = omega (arith, length-append a b);
}

pub kept-length : {out out' : List ℕ} {at n : ℕ} {a : List ℕ} → Appended out out' at n a → length out' ≡ length out
kept-length {out} {out'} {at} {n} {a} p = ap length p.cells ∙ length-sets out at a

pub whole : {out out' any any' : List ℕ} {m n : ℕ} {a : List ℕ} → Appended any any' 0 m a → m ≤ length out
    → Appended out out' 0 n a → Written a out out' n
whole {out} {out'} {any} {any'} {m} {n} {a} q h p =
    let e : n ≡ length a = omega arith in
    let f : out' ≡ a ++ drop n out = p.cells ∙ sets-eq a out 0 (omega arith) ∙ ap (λ (k : ℕ). a ++ drop k out) (sym p.end) in
    let g : take n out' ≡ a = ap (take n) f ∙ take_at a (drop n out) n (sym e) in
    let l : length out' ≡ length out = kept-length p in
    record {
      within = omega arith;
      counted = e ∙ sym (ap length g);
      case =
          inl
          (record {
            fits = omega arith;
            count = e;
            start = g;
            rest = ap (drop n) f ∙ drop_at a (drop n out) n (sym e);
            same_length = l;
          });
    }

pub short : {out any any' : List ℕ} {m : ℕ} {a : List ℕ} → Appended any any' 0 m a → length out < m → Written a out out 0
short {out} {any} {any'} {m} {a} q h = record {
  within = omega arith;
  counted = refl;
  case = inr (record { lacks = omega arith; none = refl; same = refl });
}
