-- The text of a number in a format.
use Rattle.std.specs.Prelude.{ℕ, zero, suc, ◌+◌, ◌-◌, ◌*◌, ◌/◌, ◌%◌, ◌^◌, Bool, true, false, ◌==◌, nat_lt, if◌then◌else◌, max, List, [], ◌∷◌, ◌++◌, length, replicate}
use Rattle.std.specs.Fmt.{decimal, digit_glyph, digits, sign_text}
use Rattle.dns_symbol.specs.Characters.{dot}
use Rattle.zone_generate.specs.declared.format.NumberBase.{NumberBase}
use Rattle.zone_generate.specs.declared.format.NumberBase.TheVariants.{Decimal, Hex, Nibbles, Octal, UpperHex, UpperNibbles}
use Rattle.zone_generate.specs.declared.format.NumberFormat.{NumberFormat}
use Rattle.zone_generate.specs.declared.number.Sum.{Sum}

-- the sum of a number and an offset that is added or subtracted
abbrev pub difference_of : ℕ → ℕ → Sum
difference_of n offset = if nat_lt n offset then record { is_negative = true; size = offset - n } else record { is_negative = false; size = n - offset }

abbrev pub sum_of : ℕ → NumberFormat → Sum
sum_of n f = if f.is_negative then difference_of n f.offset else record { is_negative = false; size = n + f.offset }

-- a sum in 32 bits: a negative one in two's complement
abbrev pub bits_of : Sum → ℕ
bits_of s = if s.is_negative then 2 ^ 32 - s.size else s.size

-- digits with zeros before them, up to a width
abbrev pub zero_padded : ℕ → List ℕ → List ℕ
zero_padded width ds = replicate (width - length ds) 48 ++ ds

-- decimal digits after a minus sign, which counts in the width
abbrev pub decimal_text : ℕ → Sum → List ℕ
decimal_text width s = sign_text s.is_negative ++ zero_padded (width - length (sign_text s.is_negative)) (decimal s.size)

-- a number of hexadecimal digits, least significant first, with dots between
abbrev pub dotted_nibbles : Bool → ℕ → ℕ → List ℕ
dotted_nibbles upper zero n = []
dotted_nibbles upper (suc zero) n = digit_glyph upper (n % 16) ∷ []
dotted_nibbles upper (suc (suc more)) n = digit_glyph upper (n % 16) ∷ dot ∷ dotted_nibbles upper (suc more) (n / 16)

-- at least as many digits as the number has, and as the width has with their dots
abbrev pub nibble_count : ℕ → ℕ → ℕ
nibble_count width n = max (length (digits 16 false n)) ((width + 1) / 2)

-- a width that has one character more gets a dot at the end
abbrev pub nibbles : Bool → ℕ → ℕ → List ℕ
nibbles upper width n =
    dotted_nibbles upper (nibble_count width n) n ++ (if width == 2 * nibble_count width n then dot ∷ [] else [])

-- a sum in a base
abbrev pub sum_text : NumberBase → ℕ → Sum → List ℕ
sum_text Decimal width s = decimal_text width s
sum_text Octal width s = zero_padded width (digits 8 false (bits_of s))
sum_text Hex width s = zero_padded width (digits 16 false (bits_of s))
sum_text UpperHex width s = zero_padded width (digits 16 true (bits_of s))
sum_text Nibbles width s = nibbles false width (bits_of s)
sum_text UpperNibbles width s = nibbles true width (bits_of s)

-- what a format writes of a number
abbrev pub formatted_number : NumberFormat → ℕ → List ℕ
formatted_number f n = sum_text f.base f.width (sum_of n f)
