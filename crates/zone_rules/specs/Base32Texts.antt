-- Text in base32hex without padding (RFC 4648 section 7).
use Rattle.std.specs.Prelude.{ℕ, ◌*◌, ◌-◌, ◌%◌, ◌^◌, ◌==◌, ◌&&◌, nat_lt, nat_le, is_some, if◌then◌else◌, Bool, false, Option, Some, None, List, length, slice_get}
use Rattle.std.specs.List.{list_all}
use Rattle.std.specs.Option.{option_map_or}

-- the value of a digit, in either case
abbrev pub base32_value : ℕ → Option ℕ
base32_value o =
    if nat_le 48 o && nat_le o 57 then Some (o - 48)
    else if nat_le 65 o && nat_le o 86 then Some (o - 55)
    else if nat_le 97 o && nat_le o 118 then Some (o - 87)
    else None

-- the number of bits that are left over after the octets of these digits: each digit has five bits
abbrev pub spare_bits : ℕ → ℕ
spare_bits count = 5 * count % 8

-- the last bits of a digit, in this number, are zero
abbrev pub ends_in_zeros : ℕ → ℕ → Bool
ends_in_zeros spare digit = option_map_or (λ value. value % 2 ^ spare == 0) (base32_value digit) false

-- the last digit ends in zeros, if there is one
abbrev pub last_ends_in_zeros : ℕ → List ℕ → Bool
last_ends_in_zeros spare text = option_map_or (ends_in_zeros spare) (slice_get text (length text - 1)) false

-- the number of digits is that of whole octets, and the spare bits of the last one are zero (RFC 4648 section 3.5)
abbrev pub are_whole_octets : List ℕ → Bool
are_whole_octets text = nat_lt (spare_bits (length text)) 5 && last_ends_in_zeros (spare_bits (length text)) text

abbrev pub is_base32_text : List ℕ → Bool
is_base32_text text = list_all (λ o. is_some (base32_value o)) text && are_whole_octets text
