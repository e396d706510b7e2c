-- Tokens as they are quoted in messages.
use Rattle.std.specs.Prelude.{◌≡◌, ℕ, ◌+◌, ◌/◌, ◌%◌, ◌↔◌, nat_le, nat_lt, IsTrue, if◌then◌else◌, Bool, true, false, List, [], ◌∷◌, ◌++◌, find, length, slice_index, take, codes, unwrap_or}
use Rattle.std.specs.List.{flat_map}
use Rattle.dns_symbol.specs.Characters.{backslash}
use Rattle.zone_format.specs.Place.{begins_character}
use Rattle.finding_formats.specs.Shown.{IsShowable, is_control}

-- a backslash and three digits
abbrev pub word_escape : ℕ → List ℕ
word_escape c = backslash ∷ (48 + c / 100) ∷ (48 + c / 10 % 10) ∷ (48 + c % 10) ∷ []

-- an octet that is written unchanged: printable ASCII, and from 128 on what is kept
abbrev pub is_kept : (keeps_high : Bool) → ℕ → Bool
is_kept keeps_high c = if nat_lt c 128 then (if is_control c then false else true) else keeps_high

abbrev pub word_octet : (keeps_high : Bool) → ℕ → List ℕ
word_octet keeps_high c = if is_kept keeps_high c then c ∷ [] else word_escape c

-- the number of octets of a token that are shown: all if they are at most 40, and else 40, or up to three fewer so that they end before a character
abbrev pub shown_count : List ℕ → ℕ
shown_count octets = if nat_le (length octets) 40 then length octets
    else unwrap_or (find (λ n. begins_character (slice_index octets n)) (40 ∷ 39 ∷ 38 ∷ 37 ∷ [])) 40

abbrev pub shown_octets : List ℕ → List ℕ
shown_octets octets = take (shown_count octets) octets

-- the single quote after a token, and two dots if more octets of it are not shown
abbrev pub word_end : List ℕ → List ℕ
word_end octets = if nat_lt (shown_count octets) (length octets) then codes "'.." else codes "'"

-- the first octets of a token in single quotes
pub record HasWord (octets old new : List ℕ) : Type 0 where
  pub keeps_high : Bool
  pub kept : IsTrue keeps_high ↔ IsShowable (shown_octets octets)
  pub is : new ≡ old ++ codes "'" ++ flat_map (word_octet keeps_high) (shown_octets octets) ++ word_end octets
