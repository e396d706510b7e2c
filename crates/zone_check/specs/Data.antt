-- Data of records that looks like a slip.
use Rattle.std.specs.Prelude.{ℕ, zero, suc, ◌+◌, ◌*◌, ◌==◌, ◌||◌, ◌&&◌, not, nat_lt, if◌then◌else◌, Bool, true, false, List, [], ◌∷◌, drop, length, Option, Some, None}
use Rattle.rdata_values.specs.Rtype as Rtype
use Rattle.rdata_values.specs.declared.types.RecordType.{RecordType}

-- the number of octets of the hash of a matching type: SHA-256, SHA-512
abbrev pub match_length : ℕ → Option ℕ
match_length matching = if matching == 1 then Some 32 else if matching == 2 then Some 64 else None

abbrev pub is_other_length : Option ℕ → ℕ → Bool
is_other_length None count = false
is_other_length (Some length) count = not (count == length)

-- the number of octets after a usage, a selector and a matching type is not that of the matching type
abbrev pub is_other_match : List ℕ → Bool
is_other_match (usage ∷ selector ∷ matching ∷ hash) = is_other_length (match_length matching) (length hash)
is_other_match _ = false

-- the same for TLSA and SMIMEA
abbrev pub has_other_match_length : RecordType → List ℕ → Bool
has_other_match_length rtype octets = (rtype == Rtype.tlsa || rtype == Rtype.smimea) && is_other_match octets

-- for URI: a priority and a weight of two octets each, and an empty target
abbrev pub has_empty_target : RecordType → List ℕ → Bool
has_empty_target rtype octets = rtype == Rtype.uri && length octets == 4

-- the third octet, after a precedence and the type of the gateway, is the algorithm, and 0
abbrev pub is_algorithm_zero : List ℕ → Bool
is_algorithm_zero (precedence ∷ gateway ∷ algorithm ∷ rest) = algorithm == 0
is_algorithm_zero _ = false

abbrev pub has_key_algorithm_zero : RecordType → List ℕ → Bool
has_key_algorithm_zero rtype octets = rtype == Rtype.ipseckey && is_algorithm_zero octets

-- the octets after a name of at most this number of labels: each is the number of its octets and those, and the root, of none, is the last (RFC 1035 section 3.1)
abbrev pub after_labels : (most : ℕ) → List ℕ → List ℕ
after_labels zero octets = []
after_labels (suc most) [] = []
after_labels (suc most) (count ∷ octets) = if count == 0 then octets else after_labels most (drop count octets)

-- `ohttp` (8), with a value
abbrev pub is_ohttp_with : (high low count : ℕ) → Bool
is_ohttp_with high low count = (high == 0 && low == 8) && nat_lt 0 count

-- among at most this number of service parameters, `ohttp` has a value: each is a key and a length of two octets each, and a value
abbrev pub has_ohttp : (most : ℕ) → List ℕ → Bool
has_ohttp zero octets = false
has_ohttp (suc most) (high ∷ low ∷ more ∷ less ∷ values) =
    if is_ohttp_with high low (256 * more + less) then true else has_ohttp most (drop (256 * more + less) values)
has_ohttp (suc most) _ = false

abbrev pub has_ohttp_in : List ℕ → Bool
has_ohttp_in (high ∷ low ∷ rest) = has_ohttp (length (after_labels (length rest) rest)) (after_labels (length rest) rest)
has_ohttp_in _ = false

-- for SVCB and HTTPS: a priority of two octets, a target, and service parameters
abbrev pub has_ohttp_value : RecordType → List ℕ → Bool
has_ohttp_value rtype octets = (rtype == Rtype.svcb || rtype == Rtype.https) && has_ohttp_in octets
