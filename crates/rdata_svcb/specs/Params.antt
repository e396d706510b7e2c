-- Service parameters (RFC 9460 section 2.2).
use Rattle.std.specs.Prelude.{◌≡◌, ◌≢◌, ℕ, zero, suc, ◌==◌, ◌<◌, ◌≤◌, All, cond, nat_lt, Option, None, Some, List, [], ◌∷◌, ◌++◌, length, take, drop}
use Rattle.std.specs.Int.{w16, to_be_bytes, from_be_bytes}
use Rattle.std.specs.List.{flat_map, range_with_len, AllPairs, Any}
use Rattle.std.specs.Map.{lookup}
use Rattle.rdata_svcb.specs.declared.params.Param.{Param}

-- a key and the octets of its value
abbrev pub pair : Param → ℕ × List ℕ
pair p = (p.key, p.value.now)

-- the value of a key: of several, the first
abbrev pub value_at : List (ℕ × List ℕ) → ℕ → Option (List ℕ)
value_at params key = lookup (λ k. k == key) params

-- a parameter: its key, the length of its value, and the value
unfoldable pub param : ℕ → List ℕ → List ℕ
param key value = to_be_bytes w16 key ++ to_be_bytes w16 (length value) ++ value

abbrev pub param_if : ℕ → Option (List ℕ) → List ℕ
param_if key None = []
param_if key (Some value) = param key value

-- a key, and two octets whose value does not matter yet
abbrev pub param_head : ℕ → List ℕ
param_head key = to_be_bytes w16 key ++ (0 ∷ 0 ∷ [])

-- the parameters with a value, of `count` keys from the first on
unfoldable pub params_from : (ℕ → Option (List ℕ)) → ℕ → ℕ → List ℕ
params_from value first count = flat_map (λ key. param_if key (value key)) (range_with_len first count)

-- each key that has a value, in order
abbrev pub params_wire : List (ℕ × List ℕ) → List ℕ
params_wire params = params_from (value_at params) 0 65536

-- each key is below those after it
abbrev pub HasAscendingKeys : List (ℕ × List ℕ) → Type 0
HasAscendingKeys params = AllPairs (λ p q. p.0 < q.0) params

-- each value is short enough for a length of two octets
abbrev pub HasFittingValues : List (ℕ × List ℕ) → Type 0
HasFittingValues params = All (λ p. length p.1 < 65536) params

-- octets that are the wire format of parameters, in the order of their keys
abbrev pub IsParams : List ℕ → Type 0
IsParams octets = (params : List (ℕ × List ℕ)) × HasAscendingKeys params × HasFittingValues params × All (λ p. p.0 < 65536) params × (params_wire params ≡ octets)

abbrev pub param_first : ℕ → ℕ → List ℕ → List (ℕ × List ℕ) → List (ℕ × List ℕ)
param_first key size octets later = cond (nat_lt (length octets) size) [] ((key, take size octets) ∷ later)

-- at most `count` parameters, up to one that is truncated
unfoldable pub param_list : ℕ → List ℕ → List (ℕ × List ℕ)
param_list (suc count) (a ∷ b ∷ c ∷ d ∷ octets) =
    param_first (from_be_bytes w16 (a ∷ b ∷ [])) (from_be_bytes w16 (c ∷ d ∷ [])) octets (param_list count (drop (from_be_bytes w16 (c ∷ d ∷ [])) octets))
param_list zero octets = []
param_list (suc count) [] = []
param_list (suc count) (a ∷ []) = []
param_list (suc count) (a ∷ b ∷ []) = []
param_list (suc count) (a ∷ b ∷ c ∷ []) = []

-- the parameters whose wire format the octets are
abbrev pub params_of : List ℕ → List (ℕ × List ℕ)
params_of octets = param_list (length octets) octets

-- the octets do not begin with a parameter
abbrev pub BeginsNoParam : List ℕ → Type 0
BeginsNoParam octets = (key : ℕ) (value rest : List ℕ) → length value < 65536 → octets ≢ param key value ++ rest

-- no parameters have this wire format
abbrev pub IsNoParams : List ℕ → Type 0
IsNoParams octets = (others : List (ℕ × List ℕ)) → HasFittingValues others → params_wire others ≢ octets

-- the octets are not a wire format: after some parameters come octets that do not begin with one
abbrev pub IsCutOff : List ℕ → Type 0
IsCutOff octets = (params : List (ℕ × List ℕ)) × (rest : List ℕ) × HasFittingValues params × (octets ≡ params_wire params ++ rest) × (rest ≢ []) × BeginsNoParam rest

-- after some parameters comes one whose key is not above each of theirs
abbrev pub IsOutOfOrder : ℕ → List ℕ → Type 0
IsOutOfOrder key octets = (params : List (ℕ × List ℕ)) × (value after : List ℕ) × HasFittingValues params × (octets ≡ params_wire params ++ (param key value ++ after)) × Any (λ p. key ≤ p.0) params

-- after the wire format of parameters comes one more, whose two octets of length may have any value
abbrev pub IsUnsettled : List (ℕ × List ℕ) → ℕ → List ℕ → List ℕ → Type 0
IsUnsettled params key value octets = (size : List ℕ) × (length size ≡ 2) × (octets ≡ params_wire params ++ (to_be_bytes w16 key ++ (size ++ value)))
