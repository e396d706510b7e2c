-- The group that begins a text of groups.
use Rattle.std.specs.Prelude.{ℕ, ◌≡◌, List, Some}
use Rattle.std.specs.Net.Reader.{read_segment}

-- a text begins with a group, and this follows it
abbrev pub BeginsWithSegment : List ℕ → List ℕ → Type 0
BeginsWithSegment text rest = (value : ℕ) × (read_segment text ≡ Some (value, rest))
