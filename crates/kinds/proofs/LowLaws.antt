-- Laws of a loop that keeps the low half of each cell of 64 bits, from the front.
--   Keeping b b' n        the first n cells hold their low halves, and the others what they held
--   keeping_none keeping-more keeping_all    it begins, goes on by one cell, and ends
--   lent-lows             buffers of the needed lengths, and their low halves
--   same-cells            lists of one length that hold the same in every cell are the same
use mathlib.Core.Path.{◌≡◌, refl, sym, ap, ap₂, ◌∙◌}
use mathlib.Core.List.{List, [], ◌∷◌}
use Prim.Native.Nat.{ℕ, suc, ◌+◌, ◌≤◌, ◌<◌}
use native.Mathlib.Decide.{ℕ_discrete, dec_lt}
use native.Mathlib.Omega.{arith}
use lib.ListN.{length, get_or, set, length-set, get_or-eq_default}
use lib.Seq.{get_or-set_same, get_or-set_other}
use Rattle.claimfile.specs.declared.Layout.{Layout}
use Rattle.scratch.specs.Memory.{low, lows, lows-long, lows-at}
use Rattle.closing.specs.Close.{Lent}

pub record Keeping (b b' : List ℕ) (n : ℕ) : Type 0 where
  pub long : length b' ≡ length b
  pub done : (i : ℕ) → i < n → get_or b' i 0 ≡ low (get_or b i 0)
  pub rest : (i : ℕ) → n ≤ i → get_or b' i 0 ≡ get_or b i 0

pub keeping_none : (b : List ℕ) → Keeping b b 0
keeping_none b = record { long = refl; done = λ i l. absurd (omega arith); rest = λ i l. refl }

pub same-cells : (a b : List ℕ) → length a ≡ length b → ((i : ℕ) → get_or a i 0 ≡ get_or b i 0) → a ≡ b
same-cells [] [] l e = refl
same-cells [] (y ∷ b) l e = absurd (omega (arith, l))
same-cells (x ∷ a) [] l e = absurd (omega (arith, l))
same-cells (x ∷ a) (y ∷ b) l e = ap₂ ◌∷◌ (e 0) (same-cells a b (omega (arith, l)) (λ i. e (suc i)))

module _ (b b' : List ℕ) (n : ℕ) (K : Keeping b b' n) where
  pub keeping-more : n < length b' → Keeping b (set b' n (low (get_or b' n 0))) (n + 1)
  keeping-more l = record {
    long = length-set b' n (low (get_or b' n 0)) ∙ K.long;
    done = λ i m.
        elim (ℕ_discrete i n) [
          | yes e ↦ rw e (get_or-set_same b' n (low (get_or b' n 0)) 0 l ∙ ap low (K.rest n (omega arith)))
          | no h ↦ get_or-set_other b' n i (low (get_or b' n 0)) 0 h ∙ K.done i (omega arith)
        ];
    rest = λ i m. get_or-set_other b' n i (low (get_or b' n 0)) 0 (λ e. absurd (omega (arith, e, m))) ∙ K.rest i (omega arith);
  }

  pub keeping_all : length b' ≤ n → b' ≡ lows b
  keeping_all l =
      same-cells b' (lows b) (K.long ∙ sym (lows-long b))
      (λ i.
      elim (dec_lt i n) [
        | yes h ↦ K.done i h ∙ sym (lows-at b i)
        | no h ↦
            get_or-eq_default b' 0 {n = i} (omega arith)
            ∙ sym (lows-at b i ∙ ap low (get_or-eq_default b 0 {n = i} (omega (arith, K.long))))
      ])

pub lent-lows :
    (K : ℕ) {s : List ℕ} {l : Layout} {ch : List ℕ} (sheet t : List ℕ) → Lent K s l ch sheet t → Lent K s l ch (lows sheet) (lows t)
lent-lows K sheet t L = record {
  sound = L.sound;
  kinds = L.kinds;
  choices = L.choices;
  sheets = lows-long sheet ∙ L.sheets;
  cells = lows-long t ∙ L.cells;
}
