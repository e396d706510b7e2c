-- Parts of a file, by the offsets and lengths of their octets.
use Rattle.std.specs.Prelude.{◌≡◌, ◌≤◌, ◌+◌, ◌++◌, ℕ, List, [], ◌∷◌}

-- a part: the offset of its first octet, and the number of its octets
pub record PartSpan : Type 0 where
  pub at : ℕ
  pub len : ℕ

-- parts follow one another, from an offset to another
abbrev pub FollowTo : List PartSpan → ℕ → ℕ → Type 0
FollowTo [] from to = from ≡ to
FollowTo (p ∷ parts) from to = (p.at ≡ from) × FollowTo parts (p.at + p.len) to

-- they follow one another from the first octet on, and are the whole file
abbrev pub AreWholeFile : List PartSpan → ℕ → Type 0
AreWholeFile parts octets = FollowTo parts 0 octets

-- a part of this length, after others that are the whole file so far, ends at this offset, and they still are
abbrev pub EndsPart : ℕ → ℕ → ℕ → Type 0
EndsPart began len at = (parts : List PartSpan) → AreWholeFile parts began → began ≤ at → AreWholeFile (parts ++ record { at = began; len = len } ∷ []) at
