-- Names, as they are spelled, that look like a slip.
use Rattle.std.specs.Prelude.{ℕ, ◌+◌, ◌==◌, ◌&&◌, not, if◌then◌else◌, Bool, true, false, List, [], ◌∷◌, ◌++◌, filter, map, take, slice_get, option_to_list, Option, Some, None}
use Rattle.dns_symbol.specs.Characters.{backslash}
use Rattle.dns_lexer.specs.EntryTokens.{TokenSeen}
use Rattle.rdata.specs.ByType.{shape_of_code}
use Rattle.rdata.specs.Types.{TypeShape}
use Rattle.rdata_fields.specs.declared.field.Field.{Field}
use Rattle.rdata_fields.specs.declared.field.Field.TheVariants.{Name as NameField}
use Rattle.rdata_values.specs.declared.types.RecordType.{RecordType}
use Rattle.finding_codes.specs.declared.code.Code.{Code}
use Rattle.finding_codes.specs.declared.code.Code.TheVariants.{MissingDot, NoOrigin}
use Rattle.zone_check.specs.declared.finding.About.TheVariants.{Token}
use Rattle.zone_check.specs.declared.finding.EntryFinding.{EntryFinding}
use Rattle.zone_check.specs.FindingSpans.{finding_of_token}
use Rattle.zone_check.specs.Names.{ends_in_dot, ends_like}

-- ---- which tokens are names

-- the text is `\#`, which begins RDATA in the generic form (RFC 3597 section 5)
abbrev pub is_generic_text : List ℕ → Bool
is_generic_text (c ∷ d ∷ []) = c == backslash && d == 35
is_generic_text _ = false

abbrev pub is_generic_token : TokenSeen → Bool
is_generic_token t = is_generic_text t.text

-- the field of a type with this index, among those of one token each
abbrev pub field_in : Option TypeShape → ℕ → Option Field
field_in None number = None
field_in (Some s) number = slice_get s.fields number

abbrev pub is_field_name : Option Field → Bool
is_field_name (Some NameField) = true
is_field_name _ = false

abbrev pub is_name_field : RecordType → (number : ℕ) → Bool
is_name_field rtype number = is_field_name (field_in (shape_of_code rtype) number)

-- the names in RDATA, from the token with this index on; none after a token `\#`
abbrev pub data_names : RecordType → (number : ℕ) → List TokenSeen → List TokenSeen
data_names rtype number [] = []
data_names rtype number (t ∷ tokens) =
    if is_generic_token t then [] else (if is_name_field rtype number then t ∷ data_names rtype (number + 1) tokens else data_names rtype (number + 1) tokens)

-- the owner of a record that doesn't begin with a blank
abbrev pub own_owner : (begins_blank : Bool) → List TokenSeen → Option TokenSeen
own_owner true tokens = None
own_owner false tokens = slice_get tokens 0

-- the names of a record: its owner, if it has one of its own, and those in its RDATA
abbrev pub record_names : RecordType → (owner : Option TokenSeen) → (words : List TokenSeen) → List TokenSeen
record_names rtype owner words = option_to_list owner ++ data_names rtype 0 words

-- ---- the findings about names

-- no quotes, and no dot at its end: the origin is appended (RFC 1035 section 5.1)
abbrev pub is_relative : TokenSeen → Bool
is_relative t = not t.is_quoted && not (ends_in_dot t.text)

abbrev pub is_empty_text : List ℕ → Bool
is_empty_text [] = true
is_empty_text (c ∷ cs) = false

-- it ends like the origin that is appended, whose last dot is left out here; or no origin is appended
abbrev pub may_lack_dot : (origin : List ℕ) → TokenSeen → Bool
may_lack_dot origin t = is_relative t && (not (is_empty_text origin) && ends_like t.text origin)

-- where the root is appended for lack of an origin, the first relative name is reported, unless one was; else each name that may lack a dot
abbrev pub name_findings : (origin : List ℕ) → (assumes_root is_reported : Bool) → List TokenSeen → List EntryFinding
name_findings origin assumes_root is_reported names =
    if assumes_root then (if is_reported then [] else map (finding_of_token NoOrigin Token) (take 1 (filter is_relative names))) else map (finding_of_token MissingDot Token) (filter (may_lack_dot origin) names)

-- ---- one name after another

abbrev pub code_below_root : (is_reported : Bool) → TokenSeen → Option Code
code_below_root is_reported t = if not is_reported && is_relative t then Some NoOrigin else None

abbrev pub name_code : (origin : List ℕ) → (assumes_root is_reported : Bool) → TokenSeen → Option Code
name_code origin assumes_root is_reported t = if assumes_root then code_below_root is_reported t else (if may_lack_dot origin t then Some MissingDot else None)

-- a token of RDATA, if its field is a name
abbrev pub field_code : (origin : List ℕ) → (assumes_root is_reported : Bool) → RecordType → (number : ℕ) → TokenSeen → Option Code
field_code origin assumes_root is_reported rtype number t = if is_name_field rtype number then name_code origin assumes_root is_reported t else None

abbrev pub name_finding : Option Code → TokenSeen → Option EntryFinding
name_finding None t = None
name_finding (Some code) t = Some (finding_of_token code Token t)

abbrev pub is_no_origin : Option Code → Bool
is_no_origin (Some NoOrigin) = true
is_no_origin _ = false
