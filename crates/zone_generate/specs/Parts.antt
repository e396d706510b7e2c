-- The parts of the owner and of the RDATA of a directive, and what is written of each.
use Rattle.std.specs.Prelude.{ℕ, zero, suc, ◌+◌, Bool, false, not, ◌&&◌, ◌||◌, ◌==◌, nat_le, if◌then◌else◌, List, [], ◌∷◌, length, drop, Result, Ok, Err}
use Rattle.std.specs.List.{flat_map}
use Rattle.dns_symbol.specs.Characters.{backslash, carriage_return, double_quote, line_feed}
use Rattle.zone_generate.specs.Formats.{format_of, plain_format}
use Rattle.zone_generate.specs.NumberTexts.{formatted_number}
use Rattle.zone_generate.specs.Numerals.{before_octet, has_octet, octet_index}
use Rattle.zone_generate.specs.Ranges.{largest_number}
use Rattle.zone_generate.specs.declared.error.GenerateErrorKind.{GenerateErrorKind}
use Rattle.zone_generate.specs.declared.error.GenerateErrorKind.TheVariants.{LargeSum, LineBreak, MissingToken, OpenBrace, OpenEscape, PlainAfterOffset}
use Rattle.zone_generate.specs.declared.format.NumberFormat.{NumberFormat}
use Rattle.zone_generate.specs.declared.part.Part.{Part}
use Rattle.zone_generate.specs.declared.part.Part.TheVariants.{Dollar, Escape, Number, Octet, Plain}
use Rattle.zone_generate.specs.declared.part.ReadPart.{ReadPart}
use Rattle.zone_generate.specs.declared.side.SideError.{SideError}

abbrev pub dollar_sign : ℕ
dollar_sign = 36

abbrev pub open_brace : ℕ
open_brace = 123

abbrev pub close_brace : ℕ
close_brace = 125

-- a line feed or a carriage return
abbrev pub is_line_break : ℕ → Bool
is_line_break c = (c == line_feed) || (c == carriage_return)

-- a part, and the number of its octets
abbrev pub part_with : Part → ℕ → Result ReadPart GenerateErrorKind
part_with part len = Ok (record { part = part; len = len })

-- after a backslash: an octet, written with the backslash; but a double quote of a quoted string is written alone
abbrev pub escape_part : Bool → List ℕ → Result ReadPart GenerateErrorKind
escape_part is_quoted [] = Err OpenEscape
escape_part is_quoted (c ∷ text) =
    if is_line_break c then Err LineBreak
    else (if is_quoted && (c == double_quote) then part_with (Octet c) 2 else part_with (Escape c) 2)

-- the greatest sum of a number and an offset is at most 2147483647
abbrev pub sum_fits : ℕ → NumberFormat → Bool
sum_fits last f = f.is_negative || nat_le (last + f.offset) largest_number

abbrev pub part_in_format : ℕ → ℕ → Result NumberFormat GenerateErrorKind → Result ReadPart GenerateErrorKind
part_in_format last len (Err e) = Err e
part_in_format last len (Ok f) = if sum_fits last f then part_with (Number f) len else Err LargeSum

-- after `${`: a format, up to the brace that closes it
abbrev pub brace_part : ℕ → List ℕ → Result ReadPart GenerateErrorKind
brace_part last text =
    if has_octet close_brace text then part_in_format last (octet_index close_brace text + 3) (format_of (before_octet close_brace text)) else Err OpenBrace

-- a dollar sign without braces is the number in decimal, unless an offset is in effect, which BIND adds to it
abbrev pub plain_part : Bool → Result ReadPart GenerateErrorKind
plain_part has_offset = if has_offset then Err PlainAfterOffset else part_with Plain 1

-- the offset of a format is in effect after it, if it is not 0
abbrev pub offset_after : Bool → Part → Bool
offset_after has_offset (Octet c) = has_offset
offset_after has_offset (Escape c) = has_offset
offset_after has_offset Dollar = has_offset
offset_after has_offset Plain = has_offset
offset_after has_offset (Number f) = not (f.offset == 0)

-- after a dollar sign: another one, or a brace; or else the number
abbrev pub dollar_part : ℕ → Bool → List ℕ → Result ReadPart GenerateErrorKind
dollar_part last has_offset [] = plain_part has_offset
dollar_part last has_offset (c ∷ text) =
    if c == dollar_sign then part_with Dollar 2 else (if c == open_brace then brace_part last text else plain_part has_offset)

-- the part with which a text begins
abbrev pub part_of : ℕ → (is_quoted has_offset : Bool) → List ℕ → Result ReadPart GenerateErrorKind
part_of last is_quoted has_offset [] = Err MissingToken
part_of last is_quoted has_offset (c ∷ text) =
    if c == backslash then escape_part is_quoted text
    else (if c == dollar_sign then dollar_part last has_offset text
    else (if is_line_break c then Err LineBreak else part_with (Octet c) 1))

-- a part before others
abbrev pub part_before : Part → Result (List Part) SideError → Result (List Part) SideError
part_before part (Ok parts) = Ok (part ∷ parts)
part_before part (Err e) = Err e

-- the first part, and then the others; or the error, at its offset
abbrev pub parts_then : ℕ → Result ReadPart GenerateErrorKind → (ReadPart → Result (List Part) SideError) → Result (List Part) SideError
parts_then at (Err e) others = Err (record { offset = at; kind = e })
parts_then at (Ok p) others = part_before p.part (others p)

-- the parts of a text from an offset on, up to a number of them
abbrev pub parts_from : ℕ → ℕ → (is_quoted has_offset : Bool) → ℕ → List ℕ → Result (List Part) SideError
parts_from zero last is_quoted has_offset at text = Ok []
parts_from (suc most) last is_quoted has_offset at [] = Ok []
parts_from (suc most) last is_quoted has_offset at (c ∷ text) =
    parts_then at (part_of last is_quoted has_offset (c ∷ text)) (λ p. parts_from most last is_quoted (offset_after has_offset p.part) (at + p.len) (drop p.len (c ∷ text)))

-- the parts of the owner or the RDATA, from left to right; or the first error and its offset
abbrev pub side_parts : ℕ → Bool → List ℕ → Result (List Part) SideError
side_parts last is_quoted text = parts_from (length text) last is_quoted false 0 text

-- what is written of a part for a number
abbrev pub written_part : ℕ → Part → List ℕ
written_part n (Octet c) = c ∷ []
written_part n (Escape c) = backslash ∷ c ∷ []
written_part n Dollar = backslash ∷ dollar_sign ∷ []
written_part n Plain = formatted_number plain_format n
written_part n (Number f) = formatted_number f n

-- and of all parts
abbrev pub side_text : ℕ → List Part → List ℕ
side_text n parts = flat_map (written_part n) parts

-- the parts, if there is no error
abbrev pub parts_or_none : Result (List Part) SideError → List Part
parts_or_none (Ok parts) = parts
parts_or_none (Err e) = []
