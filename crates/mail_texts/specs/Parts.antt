-- Parts of octets.
use Rattle.std.specs.Prelude.{◌≡◌, ◌<◌, ℕ, ◌+◌, ◌==◌, ◌&&◌, if◌then◌else◌, Bool, false, Option, Some, None, List, [], ◌∷◌, length, take, drop}
use Rattle.std.specs.List.{before_first, position, slice_split}
use Rattle.std.specs.Option.{option_map, option_map_or}
use Rattle.dns_octets.specs.Lowered.{same_lowered}

-- the octets before the first of an octet, or all
abbrev pub octets_before : ℕ → List ℕ → List ℕ
octets_before d octets = before_first (λ o. o == d) octets

-- the octets after it
abbrev pub octets_after : ℕ → List ℕ → Option (List ℕ)
octets_after d octets = option_map (λ place. drop (place + 1) octets) (position (λ o. o == d) octets)

-- the parts between those octets
abbrev pub parts_between : ℕ → List ℕ → List (List ℕ)
parts_between d octets = slice_split (λ o. o == d) octets

-- a part, and the octets after the octet that ends it
pub record IsSplitAt (d : ℕ) (octets before after : List ℕ) : Type 0 where
  pub is_before : octets_before d octets ≡ before
  pub is_after : octets_after d octets ≡ Some after
  pub parts : parts_between d octets ≡ before ∷ parts_between d after
  pub fewer : length after < length octets

-- no octet ends a part
pub record IsUnsplit (d : ℕ) (octets : List ℕ) : Type 0 where
  pub is_before : octets_before d octets ≡ octets
  pub is_after : octets_after d octets ≡ None
  pub parts : parts_between d octets ≡ octets ∷ []

-- the octets before the first of an octet pass a test, and those after it pass another one
abbrev pub is_pair : ℕ → (first second : List ℕ → Bool) → List ℕ → Bool
is_pair d first second octets = first (octets_before d octets) && option_map_or second (octets_after d octets) false

-- the octets after a text, in any letter case, with which octets begin
abbrev pub beyond_prefix : List ℕ → List ℕ → Option (List ℕ)
beyond_prefix prefix octets = if same_lowered (take (length prefix) octets) prefix then Some (drop (length prefix) octets) else None

-- octets are a text, in any letter case, and then pass a test
abbrev pub passes_beyond : List ℕ → (List ℕ → Bool) → List ℕ → Bool
passes_beyond prefix test octets = option_map_or test (beyond_prefix prefix octets) false
