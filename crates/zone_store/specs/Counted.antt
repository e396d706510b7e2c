-- Octets after their length.
use Rattle.std.specs.Prelude.{◌≡◌, ◌<◌, ◌+◌, ◌*◌, ◌^◌, ℕ, if◌then◌else◌, nat_lt, List, [], ◌∷◌, ◌++◌, length, take, drop, get_or}
use Rattle.std.specs.Int.{from_be_bytes, to_be_bytes, w16}

-- a length below 255 is one octet, and any other is 255 and two octets
abbrev pub length_octets : ℕ → List ℕ
length_octets n = if nat_lt n 255 then n ∷ [] else 255 ∷ to_be_bytes w16 n

-- the length, then the octets
abbrev pub counted_octets : List ℕ → List ℕ
counted_octets octets = length_octets (length octets) ++ octets

-- the length that octets begin with, and the octets after it; absent octets count as 0
abbrev pub first_length : List ℕ → ℕ
first_length [] = 0
first_length (count ∷ rest) = if nat_lt count 255 then count else get_or rest 0 0 * 256 + get_or rest 1 0

abbrev pub after_length : List ℕ → List ℕ
after_length [] = []
after_length (count ∷ rest) = if nat_lt count 255 then rest else drop 2 rest

-- the octets that a length of two octets counts, or those that there are of them, and the rest
abbrev pub first_long : List ℕ → List ℕ
first_long octets = take (from_be_bytes w16 (take 2 octets)) (drop 2 octets)

abbrev pub after_long : List ℕ → List ℕ
after_long octets = drop (from_be_bytes w16 (take 2 octets)) (drop 2 octets)

-- the octets that a length counts, or those that there are of them, and the rest
abbrev pub first_counted : List ℕ → List ℕ
first_counted [] = []
first_counted (count ∷ rest) = if nat_lt count 255 then take count rest else first_long rest

abbrev pub after_counted : List ℕ → List ℕ
after_counted [] = []
after_counted (count ∷ rest) = if nat_lt count 255 then drop count rest else after_long rest

-- octets after their length are the first part, and what follows them is the rest
abbrev pub SplitsCounted : List ℕ → List ℕ → List ℕ → Type 0
SplitsCounted octets first rest = (part more : List ℕ) → length part < 2 ^ 16 → octets ≡ counted_octets part ++ more → (first ≡ part) × (rest ≡ more)

abbrev pub SplitsLong : List ℕ → List ℕ → List ℕ → Type 0
SplitsLong octets first rest = (part more : List ℕ) → length part < 2 ^ 16 → octets ≡ to_be_bytes w16 (length part) ++ (part ++ more) → (first ≡ part) × (rest ≡ more)
