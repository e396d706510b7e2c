-- Octets as pairs of hexadecimal digits.
use Rattle.std.specs.Prelude.{ℕ, ◌≡◌, ◌<◌, ◌+◌, ◌-◌, ◌*◌, ◌/◌, ◌%◌, ◌==◌, ◌&&◌, List, [], ◌∷◌, ◌++◌, length, MatchBool, Bool, slice_index, nat_lt, if◌then◌else◌}
use Rattle.std.specs.Char.{digit_value}

-- two hexadecimal digits at an offset of a text, and the octet that they write
pub record IsPair (text : List ℕ) (at octet : ℕ) : Type 0 where
  pub high : digit_value (slice_index text at) < 16
  pub low : digit_value (slice_index text (at + 1)) < 16
  pub value : octet ≡ digit_value (slice_index text at) * 16 + digit_value (slice_index text (at + 1))

-- a pair for each octet, with nothing between them
pub record IsHex (text octets : List ℕ) : Type 0 where
  pub whole : length text ≡ 2 * length octets
  pub pairs : (k : ℕ) → k < length octets → IsPair text (2 * k) (slice_index octets k)

-- the digit of a number below sixteen, where `ten` is the letter of the digit ten
abbrev pub pair_digit : ℕ → ℕ → ℕ
pair_digit ten n = if nat_lt n 10 then 48 + n else ten + (n - 10)

abbrev pub pair_text : ℕ → ℕ → List ℕ
pair_text ten octet = pair_digit ten (octet / 16) ∷ pair_digit ten (octet % 16) ∷ []

abbrev pub pairs_text : List ℕ → List ℕ
pairs_text [] = []
pairs_text (o ∷ os) = pair_text 65 o ++ pairs_text os

-- a pair in lower case for each octet
abbrev pub small_pairs : List ℕ → List ℕ
small_pairs [] = []
small_pairs (o ∷ os) = pair_text 97 o ++ small_pairs os

-- a pair in lower case, after a mark if there is one
abbrev pub marked_pair : Bool → ℕ → ℕ → List ℕ
marked_pair is_marked mark octet = (if is_marked then mark ∷ [] else []) ++ pair_text 97 octet

-- a group of `size` octets other than the first begins here
abbrev pub begins_group : ℕ → ℕ → Bool
begins_group size place = nat_lt 0 place && place % size == 0

-- a pair for each octet, in groups of `size` octets with a mark between them, from this offset on
abbrev pub grouped_text : (size mark place : ℕ) → List ℕ → List ℕ
grouped_text size mark place [] = []
grouped_text size mark place (o ∷ os) = marked_pair (begins_group size place) mark o ++ grouped_text size mark (place + 1) os

-- true if the text writes the octets `now`; false if it writes no octets of this number
abbrev pub WritesOctets : (List ℕ → List ℕ → Type 0) → ℕ → List ℕ → List ℕ → Bool → Type 0
WritesOctets writes count text now r = MatchBool r (writes text now) ((octets : List ℕ) → length octets ≡ count → writes text octets → ⊥)
