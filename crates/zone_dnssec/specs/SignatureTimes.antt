-- When signatures are valid (RFC 4034 section 3.1.5).
use Rattle.std.specs.Prelude.{ℕ, ◌+◌, ◌-◌, ◌%◌, ◌^◌, ◌==◌, ◌&&◌, not, nat_lt, nat_le, Bool, false, List, [], ◌∷◌}
use Rattle.std.specs.Int.{from_be_bytes, w32}
use Rattle.std.specs.Option.{option_map_or}
use Rattle.rdata_values.specs.Rtype as Rtype
use Rattle.zone_record.specs.Parts.{data_part}
use Rattle.zone_record.specs.Records.{data_of}
use Rattle.zone_record.specs.declared.record.Record.{Record}
use Rattle.zone_rules.specs.Zones.{type_of}

-- the number of seconds between times, if the time 0 comes after 2^32 - 1
abbrev pub seconds_between : ℕ → ℕ → ℕ
seconds_between earlier later = (later + (2 ^ 32 - earlier)) % 2 ^ 32

-- a time is before another: by 1 to 2^31 - 1 seconds (RFC 1982 section 3.2)
abbrev pub has_passed : ℕ → ℕ → Bool
has_passed earlier later = not (seconds_between earlier later == 0) && nat_lt (seconds_between earlier later) (2 ^ 31)

-- the number in four octets
abbrev pub number_in : List ℕ → ℕ
number_in [] = 0
number_in (a ∷ []) = 0
number_in (a ∷ b ∷ []) = 0
number_in (a ∷ b ∷ c ∷ []) = 0
number_in (a ∷ b ∷ c ∷ d ∷ others) = from_be_bytes w32 (a ∷ b ∷ c ∷ d ∷ [])

-- the record is an RRSIG, and the number in its field with this index passes the test
abbrev pub signature_number : {N O : Type 0} → ℕ → (ℕ → Bool) → Record N O → Bool
signature_number place test r = type_of r == Rtype.rrsig && option_map_or (λ octets. test (number_in octets)) (data_part (data_of r) place) false

-- the expiration, the fifth field, is before the inception, the sixth
abbrev pub has_reversed_times : {N O : Type 0} → Record N O → Bool
has_reversed_times r = signature_number 4 (λ expiration. signature_number 5 (λ inception. has_passed expiration inception) r) r

-- the times are not reversed, and the expiration passes the test
abbrev pub has_expiration : {N O : Type 0} → (ℕ → Bool) → Record N O → Bool
has_expiration test r = not (has_reversed_times r) && signature_number 4 test r

-- the expiration has passed
abbrev pub is_expired : {N O : Type 0} → ℕ → Record N O → Bool
is_expired instant r = has_expiration (λ expiration. has_passed expiration instant) r

-- the expiration has not passed, and is within a margin
abbrev pub expires_within : {N O : Type 0} → ℕ → ℕ → Record N O → Bool
expires_within margin instant r = has_expiration (λ expiration. not (has_passed expiration instant) && nat_le (seconds_between instant expiration) margin) r

-- the inception is still to come
abbrev pub is_early : {N O : Type 0} → ℕ → Record N O → Bool
is_early instant r = not (has_reversed_times r) && signature_number 5 (λ inception. has_passed instant inception) r
