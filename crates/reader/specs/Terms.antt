-- The kinds in a file's bytes (document 02, E12), accepted or not.
--   OfKinds K f s          every claim record that stands whole in the bytes s has a kind below K. The claims stand where a call for
--                          files of the form f looks for them: behind two group sections without a fault. A file in which one of these
--                          is at fault has no claims yet, and is of any kinds.
use Rattle.std.specs.Prelude.{ℕ, ◌+◌, ◌*◌, ◌<◌, ◌≤◌, ◌≡◌, List, length, drop, Ok}
use Rattle.claimfile.specs.File.{claim_width, word, claim_at}
use Rattle.reader.specs.Reading.{read_section, section_at}
use Rattle.claimfile.specs.declared.Form.{Form}

abbrev pub OfKinds : ℕ → Form → List ℕ → Type 0
OfKinds K f s =
    (cards card_at next shops shop_at at : ℕ) → section_at f s 0 ≡ Ok (read_section cards card_at next) → section_at f s next ≡ Ok (read_section shops shop_at at) →
    (c : ℕ) → c < word s at → at + 2 + claim_width * c + claim_width ≤ length s → (claim_at (drop (at + 2) s) c).kind < K
