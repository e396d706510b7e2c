-- The finding about a `$GENERATE` directive: nibbles of an even width that end a name in a dot, so that the origin is not appended.
use Rattle.std.specs.Prelude.{ℕ, zero, suc, ◌≡◌, ◌+◌, ◌-◌, ◌^◌, ◌==◌, ◌&&◌, ◌||◌, min, nat_lt, if◌then◌else◌, Bool, true, false, List, [], ◌∷◌, length, drop, slice_get, Option, Some, None, Result, Ok, Err}
use Rattle.dns_lexer.specs.EntryTokens.{TokenSeen}
use Rattle.dns_symbol.specs.Characters.{dot, space, tab}
use Rattle.rdata_values.specs.declared.types.RecordType.{RecordType}
use Rattle.zone_generate.specs.Parts.{offset_after, part_of, written_part}
use Rattle.zone_generate.specs.Ranges.{range_of}
use Rattle.zone_generate.specs.declared.error.GenerateErrorKind.{GenerateErrorKind}
use Rattle.zone_generate.specs.declared.format.NumberBase.{NumberBase}
use Rattle.zone_generate.specs.declared.format.NumberBase.TheVariants.{Nibbles, UpperNibbles}
use Rattle.zone_generate.specs.declared.part.Part.{Part}
use Rattle.zone_generate.specs.declared.part.Part.TheVariants.{Number, Octet}
use Rattle.zone_generate.specs.declared.part.ReadPart.{ReadPart}
use Rattle.zone_generate.specs.declared.range.GenerateRange.{GenerateRange}
use Rattle.zone_reader.specs.HeaderWords.{FindsWord, TokenIsType}
use Rattle.finding_codes.specs.declared.code.Code.TheVariants.{GenerateDot}
use Rattle.zone_check.specs.declared.finding.About.TheVariants.{Token}
use Rattle.zone_check.specs.declared.finding.EntryFinding.{EntryFinding}
use Rattle.zone_check.specs.declared.generate_findings.DotPart.{DotPart}
use Rattle.zone_check.specs.FindingSpans.{finding_at}
use Rattle.zone_check.specs.NameFindings.{is_name_field}

-- the bases n and N
abbrev pub is_nibbles : NumberBase → Bool
is_nibbles Nibbles = true
is_nibbles UpperNibbles = true
is_nibbles _ = false

abbrev pub writes_nibbles : Part → Bool
writes_nibbles (Number f) = is_nibbles f.base
writes_nibbles _ = false

abbrev pub is_dot_octet : Option ℕ → Bool
is_dot_octet None = false
is_dot_octet (Some c) = c == dot

abbrev pub has_last_dot : List ℕ → Bool
has_last_dot octets = is_dot_octet (slice_get octets (length octets - 1))

-- a blank separates the fields of RDATA in quotes
abbrev pub is_separator : ℕ → Bool
is_separator c = c == space || c == tab

-- a name ends where a blank follows, or nothing
abbrev pub ends_name : List ℕ → Bool
ends_name [] = true
ends_name (c ∷ rest) = is_separator c

-- a part of nibbles ends a name, and what it writes of a number ends in a dot
abbrev pub is_dot_part : (number : ℕ) → Part → (rest : List ℕ) → Bool
is_dot_part number part rest = writes_nibbles part && (ends_name rest && has_last_dot (written_part number part))

abbrev pub is_blank_part : Part → Bool
is_blank_part (Octet c) = is_separator c
is_blank_part _ = false

abbrev pub blanks_after : ℕ → Part → ℕ
blanks_after blanks part = if is_blank_part part then blanks + 1 else blanks

-- this part, or one of those after it
abbrev pub dot_or_later : (number at blanks : ℕ) → List ℕ → Result ReadPart GenerateErrorKind → (ReadPart → Option DotPart) → Option DotPart
dot_or_later number at blanks text (Err e) later = None
dot_or_later number at blanks text (Ok p) later =
    if is_dot_part number p.part (drop p.len text) then Some (record { at = at; len = p.len; blanks = blanks }) else later p

-- the first such part of a text from an offset on, after some blanks, up to a number of parts
abbrev pub dot_from : ℕ → (last number : ℕ) → (is_quoted has_offset : Bool) → (at blanks : ℕ) → List ℕ → Option DotPart
dot_from zero last number is_quoted has_offset at blanks text = None
dot_from (suc most) last number is_quoted has_offset at blanks [] = None
dot_from (suc most) last number is_quoted has_offset at blanks (c ∷ text) =
    dot_or_later number at blanks (c ∷ text) (part_of last is_quoted has_offset (c ∷ text))
    (λ p. dot_from most last number is_quoted (offset_after has_offset p.part) (at + p.len) (blanks_after blanks p.part) (drop p.len (c ∷ text)))

-- the first such part of the owner or the RDATA, for the first number of a range
abbrev pub dot_part : GenerateRange → TokenSeen → Option DotPart
dot_part range t = dot_from (length t.text) range.last range.first t.is_quoted false 0 0 t.text

-- ---- a directive

-- up to the greatest number
abbrev pub limited : ℕ → ℕ
limited n = min n (2 ^ 64 - 1)

-- the octets of a quoted token begin after its double quote
abbrev pub quote_len : TokenSeen → ℕ
quote_len t = if t.is_quoted then 1 else 0

abbrev pub dot_finding : TokenSeen → Option DotPart → Option EntryFinding
dot_finding t None = None
dot_finding t (Some d) = Some (finding_at GenerateDot (limited (t.at + limited (d.at + quote_len t))) d.len Token)

-- the field after that many blanks is a name of the type
abbrev pub of_name_field : Option RecordType → Option DotPart → Option DotPart
of_name_field None d = None
of_name_field (Some rtype) None = None
of_name_field (Some rtype) (Some d) = if is_name_field rtype d.blanks then Some d else None

abbrev pub finding_or : Option EntryFinding → Option EntryFinding → Option EntryFinding
finding_or None other = other
finding_or (Some f) other = Some f

-- of the owner, or else of a name in the RDATA
abbrev pub dot_in_words : GenerateRange → (owner : TokenSeen) → Option RecordType → (rdata : TokenSeen) → Option EntryFinding
dot_in_words range owner rtype rdata = finding_or (dot_finding owner (dot_part range owner)) (dot_finding rdata (of_name_field rtype (dot_part range rdata)))

-- none if the range is rejected
abbrev pub IsDotInRange : Result GenerateRange GenerateErrorKind → (owner rtype rdata : TokenSeen) → Option EntryFinding → Type 0
IsDotInRange (Err e) owner rtype rdata r = r ≡ None
IsDotInRange (Ok range) owner rtype rdata r = (t : Option RecordType) × FindsWord TokenIsType rtype t × (r ≡ dot_in_words range owner t rdata)

abbrev pub IsDotOfRange : (range owner rtype rdata : TokenSeen) → Option EntryFinding → Type 0
IsDotOfRange range owner rtype rdata r = IsDotInRange (range_of (2 ^ 64 - 1) range.text) owner rtype rdata r

abbrev pub IsDotInWords : (range owner rtype rdata : Option TokenSeen) → Option EntryFinding → Type 0
IsDotInWords (Some range) (Some owner) (Some rtype) (Some rdata) r = IsDotOfRange range owner rtype rdata r
IsDotInWords _ _ _ _ r = r ≡ None

abbrev pub IsDotIfWhole : (is_short : Bool) → List TokenSeen → Option EntryFinding → Type 0
IsDotIfWhole true tokens r = r ≡ None
IsDotIfWhole false tokens r = IsDotInWords (slice_get tokens 1) (slice_get tokens 2) (slice_get tokens (length tokens - 2)) (slice_get tokens (length tokens - 1)) r

-- the range and the owner come after `$GENERATE`, the type and the RDATA come last
abbrev pub IsGenerateFinding : List TokenSeen → Option EntryFinding → Type 0
IsGenerateFinding tokens r = IsDotIfWhole (nat_lt (length tokens) 5) tokens r
