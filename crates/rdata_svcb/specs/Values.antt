-- The values that keys of service parameters allow (RFC 9460 sections 7 and 8, RFC 9461 section 5).
use Rattle.std.specs.Prelude.{◌≡◌, ◌≢◌, ℕ, ◌+◌, ◌*◌, ◌%◌, ◌<◌, if◌then◌else◌, Option, Some, None, is_some, List, [], ◌∷◌, length, All, IsSome}
use Rattle.std.specs.List.{flat_map}
use Rattle.rdata_svcb.specs.Params.{value_at}
use Rattle.rdata_svcb.specs.Template.{IsQueryPath}

-- strings of 1 to 255 octets, each after its length
abbrev pub AreWireStrings : List ℕ → Type 0
AreWireStrings octets = (strings : List (List ℕ)) × All (λ s. (0 < length s) × (length s < 256)) strings × (octets ≡ flat_map (λ s. length s ∷ s) strings)

-- keys of two octets, each above the one before it and with a value
abbrev pub AreKeys : List (ℕ × List ℕ) → ℕ → List ℕ → Type 0
AreKeys params above [] = Unit {0}
AreKeys params above (high ∷ []) = ⊥
AreKeys params above (high ∷ low ∷ octets) = (above < 256 * high + low) × IsSome (value_at params (256 * high + low)) × AreKeys params (256 * high + low) octets

-- one or more groups of `size` octets
abbrev pub AreGroups : ℕ → List ℕ → Type 0
AreGroups size octets = (0 < length octets) × (length octets % size ≡ 0)

-- of the keys that octets list, the first that no parameter has
abbrev pub first_missing : List (ℕ × List ℕ) → List ℕ → Option ℕ
first_missing params (high ∷ low ∷ octets) = if is_some (value_at params (256 * high + low)) then first_missing params octets else Some (256 * high + low)
first_missing params (high ∷ []) = None
first_missing params [] = None

-- the values that a key allows, beside the other parameters
pub record IsParamValue (params : List (ℕ × List ℕ)) (key : ℕ) (value : List ℕ) : Type 0 where
  pub mandatory : key ≡ 0 → (value ≢ []) × AreKeys params 0 value
  pub alpn : key ≡ 1 → (value ≢ []) × AreWireStrings value
  pub no_default_alpn : key ≡ 2 → (value ≡ []) × IsSome (value_at params 1)
  pub port : key ≡ 3 → length value ≡ 2
  pub ipv4hint : key ≡ 4 → AreGroups 4 value
  pub ech : key ≡ 5 → value ≢ []
  pub ipv6hint : key ≡ 6 → AreGroups 16 value
  pub dohpath : key ≡ 7 → IsQueryPath value
