-- Texts of at most 255 octets.
use Rattle.std.specs.Prelude.{◌≡◌, ℕ, List, ◌++◌, take}

-- a text is appended, cut to 255 octets
abbrev pub AppendsCut : List ℕ → List ℕ → List ℕ → Type 0
AppendsCut text old new = new ≡ take 255 (old ++ text)
