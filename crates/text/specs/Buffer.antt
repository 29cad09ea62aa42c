-- What is promised of a lent buffer: `out` before, `out'` afterwards.
--   Appended out out' at n new  the bytes `new` stand from `at` on, as far as the buffer reaches, and n is the place after them
--   Room at new                 the place after the bytes is a 64-bit number
--   Whole text out out' n       the buffer starts with the whole text of n bytes; its other cells are as before
--   Short text out out' n       the buffer is shorter than the text: nothing is written, and n is 0
--   Written text out out' n     the one or the other. The first two fields follow from it: they say of `&out[..n]`, the part that
--                               a caller takes, that it is one and how long it is
use Rattle.std.specs.Prelude.{ℕ, ◌+◌, ◌^◌, ◌≤◌, ◌<◌, ◌≡◌, ◌⊎◌, List, length, take, drop}
use Rattle.std.proofs.lemmas.List.Edits.{sets}

pub record Appended (out out' : List ℕ) (at n : ℕ) (new : List ℕ) : Type 0 where
  pub cells : out' ≡ sets out at new
  pub end : n ≡ at + length new

abbrev pub Room : ℕ → List ℕ → Type 0
Room at new = at + length new < 2 ^ 64

pub record Whole (text out out' : List ℕ) (n : ℕ) : Type 0 where
  pub fits : length text ≤ length out
  pub count : n ≡ length text
  pub start : take n out' ≡ text
  pub rest : drop n out' ≡ drop n out
  pub same_length : length out' ≡ length out

pub record Short (text out out' : List ℕ) (n : ℕ) : Type 0 where
  pub lacks : length out < length text
  pub none : n ≡ 0
  pub same : out' ≡ out

pub record Written (text out out' : List ℕ) (n : ℕ) : Type 0 where
  pub within : n ≤ length out'
  pub counted : n ≡ length (take n out')
  pub case : Whole text out out' n ⊎ Short text out out' n
