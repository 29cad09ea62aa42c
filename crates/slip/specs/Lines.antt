-- What every slip looks like. `slip-lines` in proofs/LineLaws.antt shows it.
--   Line b                 the bytes b are one line of the roll: 33 bytes, of which the first 32 are printable and only the last is a
--                          line feed
--   Lines k b              the bytes b are k lines, one after the other
use Rattle.std.specs.Prelude.{ℕ, suc, ◌<◌, ◌≡◌, true, ◌≢◌, List, [], ◌++◌, length, get_or, take}
use Rattle.text.specs.Text.{printable}

pub record Line (b : List ℕ) : Type 0 where
  pub size : length b ≡ 33
  pub characters : printable (take 32 b) ≡ true
  pub feed : get_or b 32 0 ≡ 10
  pub only : (i : ℕ) → i < 32 → get_or b i 0 ≢ 10

pub data Lines : ℕ → List ℕ → Type 0 where
  none : Lines 0 []
  more : {k : ℕ} {b c : List ℕ} → Lines k b → Line c → Lines (suc k) (b ++ c)
