-- How the number is written at a dollar sign: `${offset,width,base}`.
use Rattle.std.specs.Prelude.{ℕ, Bool, true, false, ◌==◌, if◌then◌else◌, List, [], ◌∷◌, Result, Ok, Err}
use Rattle.zone_generate.specs.Numerals.{after_octet, before_octet, has_octet, numeral_of}
use Rattle.zone_generate.specs.Ranges.{hyphen}
use Rattle.zone_generate.specs.declared.error.GenerateErrorKind.{GenerateErrorKind}
use Rattle.zone_generate.specs.declared.error.GenerateErrorKind.TheVariants.{BadBase, BadOffset, BadWidth, LargeOffset, LargeWidth}
use Rattle.zone_generate.specs.declared.format.NumberBase.{NumberBase}
use Rattle.zone_generate.specs.declared.format.NumberBase.TheVariants.{Decimal, Hex, Nibbles, Octal, UpperHex, UpperNibbles}
use Rattle.zone_generate.specs.declared.format.NumberFormat.{NumberFormat}
use Rattle.zone_generate.specs.declared.format.Offset.{Offset}

abbrev pub plus : ℕ
plus = 43

abbrev pub comma : ℕ
comma = 44

-- an offset without a sign is at most 2^31 - 1, or 2^31 if it is subtracted
abbrev pub largest_offset : Bool → ℕ
largest_offset is_negative = if is_negative then 2147483648 else 2147483647

abbrev pub with_sign : Bool → Result ℕ GenerateErrorKind → Result Offset GenerateErrorKind
with_sign is_negative (Ok size) = Ok (record { is_negative = is_negative; size = size })
with_sign is_negative (Err e) = Err e

abbrev pub signed : Bool → List ℕ → Result Offset GenerateErrorKind
signed is_negative text = with_sign is_negative (numeral_of (largest_offset is_negative) BadOffset LargeOffset text)

-- decimal digits, after an optional sign
abbrev pub offset_of : List ℕ → Result Offset GenerateErrorKind
offset_of [] = signed false []
offset_of (c ∷ text) = if c == hyphen then signed true text else (if c == plus then signed false text else signed false (c ∷ text))

-- the number in decimal, as of a dollar sign without braces
abbrev pub plain_format : NumberFormat
plain_format = record { is_negative = false; offset = 0; width = 0; base = Decimal }

-- a width is at most 127
abbrev pub format_width : List ℕ → Result ℕ GenerateErrorKind
format_width text = numeral_of 127 BadWidth LargeWidth text

-- the base of a letter
abbrev pub base_of_letter : ℕ → Result NumberBase GenerateErrorKind
base_of_letter c =
    if c == 100 then Ok Decimal
    else (if c == 111 then Ok Octal
    else (if c == 120 then Ok Hex
    else (if c == 88 then Ok UpperHex
    else (if c == 110 then Ok Nibbles
    else (if c == 78 then Ok UpperNibbles else Err BadBase)))))

abbrev pub format_base : List ℕ → Result NumberBase GenerateErrorKind
format_base (c ∷ []) = base_of_letter c
format_base _ = Err BadBase

-- the base after a comma, or decimal
abbrev pub base_part : List ℕ → Result NumberBase GenerateErrorKind
base_part text = if has_octet comma text then format_base (after_octet comma text) else Ok Decimal

abbrev pub format_with : Offset → Result ℕ GenerateErrorKind → Result NumberBase GenerateErrorKind → Result NumberFormat GenerateErrorKind
format_with offset (Err e) base = Err e
format_with offset (Ok width) (Err e) = Err e
format_with offset (Ok width) (Ok base) = Ok (record { is_negative = offset.is_negative; offset = offset.size; width = width; base = base })

-- a width, and a base after it
abbrev pub width_part : Offset → List ℕ → Result NumberFormat GenerateErrorKind
width_part offset text = format_with offset (format_width (before_octet comma text)) (base_part text)

-- what comes after the offset, if a comma does
abbrev pub format_from : Result Offset GenerateErrorKind → Bool → List ℕ → Result NumberFormat GenerateErrorKind
format_from (Err e) has_width text = Err e
format_from (Ok offset) true text = width_part offset text
format_from (Ok offset) false text = format_with offset (Ok 0) (Ok Decimal)

-- the format in braces, or why it is rejected
abbrev pub format_of : List ℕ → Result NumberFormat GenerateErrorKind
format_of text = format_from (offset_of (before_octet comma text)) (has_octet comma text) (after_octet comma text)
