-- Limits that are cut off.
--   capped most n     n, or `most` where n is above it
-- Where there are fewer rows than `most`, no selection fills a group whose limit is cut off: it is as good as the whole one
-- (proofs/CappedLaws.antt).
use Rattle.std.specs.Prelude.{ℕ, min}

abbrev pub capped : ℕ → ℕ → ℕ
capped most n = min n most
