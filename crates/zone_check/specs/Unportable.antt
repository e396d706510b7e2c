-- Words that not every server reads.
use Rattle.std.specs.Prelude.{ℕ, ◌≡◌, ◌+◌, ◌==◌, ◌&&◌, ◌||◌, not, nat_le, if◌then◌else◌, Bool, true, false, List, [], ◌∷◌, ◌++◌, codes, length, map, take, slice_get, option_to_list, unwrap_or, Option, Some, None, Result, Ok, Err}
use Rattle.std.specs.List.{position}
use Rattle.dns_octets.specs.Lowered.{same_lowered}
use Rattle.dns_lexer.specs.EntryTokens.{TokenSeen, token_seen}
use Rattle.dns_lexer.specs.declared.entry_tokens.EntryToken.{EntryToken}
use Rattle.rdata.specs.ByType.{shape_of_code}
use Rattle.rdata.specs.Types.{TypeShape}
use Rattle.rdata.specs.declared.rest.Rest.{Rest}
use Rattle.rdata.specs.declared.rest.Rest.TheVariants.{Params, SomeTypes, Types}
use Rattle.rdata_fields.specs.declared.field.Field.{Field}
use Rattle.rdata_fields.specs.declared.field.Field.TheVariants.{Name as NameField, Algorithm as AlgorithmField, RecordType as TypeField, SigType as SigTypeField}
use Rattle.rdata_values.specs.Registry.{row_code}
use Rattle.rdata_values.specs.Types.{is_portable, type_prefix, type_rows}
use Rattle.rdata_values.specs.declared.error.ErrorKind.{ErrorKind}
use Rattle.rdata_values.specs.declared.types.RecordType.{RecordType}
use Rattle.zone_reader.specs.declared.directive.Directive.{Directive}
use Rattle.zone_reader.specs.declared.directive.Directive.TheVariants.{Origin, Ttl, Include, Generate}
use Rattle.finding_codes.specs.Rule.{coded_rule}
use Rattle.finding_codes.specs.declared.code.Code.TheVariants.{Unportable}
use Rattle.zone_check.specs.declared.finding.About.TheVariants.{RuleAtToken}
use Rattle.zone_check.specs.declared.finding.EntryFinding.{EntryFinding}
use Rattle.zone_check.specs.declared.unportable.WordUse.{WordUse}
use Rattle.zone_check.specs.declared.unportable.WordUse.TheVariants.{NameWord, AlgorithmWord, TypeWord, KeyWord, OtherWord}
use Rattle.zone_check.specs.DirectiveFindings.{directive_named_by}
use Rattle.zone_check.specs.EntryWords.{AreDataTokens}
use Rattle.zone_check.specs.FindingSpans.{finding_at, finding_of_token}
use Rattle.zone_check.specs.NameFindings.{is_generic_token, own_owner}

-- ---- names

-- an octet of !#$%&'+,:<=>?@[]^`{|}~ : Knot reads it in a name only after a backslash
abbrev pub needs_backslash : ℕ → Bool
needs_backslash c =
    c == 33 || ((nat_le 35 c && nat_le c 39) || (c == 43 || (c == 44 || (c == 58 || ((nat_le 60 c && nat_le c 64)
    || (c == 91 || (c == 93 || (c == 94 || (c == 96 || (nat_le 123 c && nat_le c 126))))))))))

-- a backslash escapes the octet after it (RFC 1035 section 5.1)
abbrev pub escapes_next : (is_escaped : Bool) → ℕ → Bool
escapes_next is_escaped c = not is_escaped && c == 92

abbrev pub is_bare : (is_escaped : Bool) → ℕ → Bool
is_bare is_escaped c = not is_escaped && needs_backslash c

-- the first such octet that no backslash escapes. `is_escaped` says whether a backslash is before the first
abbrev pub bare_from : (is_escaped : Bool) → List ℕ → Option ℕ
bare_from is_escaped [] = None
bare_from is_escaped (c ∷ cs) = if is_bare is_escaped c then Some c else bare_from (escapes_next is_escaped c) cs

abbrev pub bare_octet : List ℕ → Option ℕ
bare_octet text = bare_from false text

-- with a backslash before each of them
abbrev pub escaped_from : (is_escaped : Bool) → List ℕ → List ℕ
escaped_from is_escaped [] = []
escaped_from is_escaped (c ∷ cs) = (if is_bare is_escaped c then 92 ∷ c ∷ [] else c ∷ []) ++ escaped_from (escapes_next is_escaped c) cs

-- the text is `@`, which is the origin
abbrev pub is_origin_sign : List ℕ → Bool
is_origin_sign (c ∷ []) = c == 64
is_origin_sign _ = false

abbrev pub is_any_octet : Option ℕ → Bool
is_any_octet None = false
is_any_octet (Some c) = true

abbrev pub is_bare_name : List ℕ → Bool
is_bare_name text = not (is_origin_sign text) && is_any_octet (bare_octet text)

-- ---- words

-- of an algorithm: names of IANA's registry that BIND doesn't read, names that BIND alone reads, and names that no server reads
abbrev pub algorithm_way : List ℕ → Option ℕ
algorithm_way text =
    if same_lowered text (codes "DSA-NSEC3-SHA1") || (same_lowered text (codes "RSASHA1-NSEC3-SHA1") || same_lowered text (codes "ECC-GOST")) then Some 1
    else (if same_lowered text (codes "NSEC3DSA") || (same_lowered text (codes "NSEC3RSASHA1") || same_lowered text (codes "ECCGOST")) then Some 2
    else (if same_lowered text (codes "ECC-GOST12") || same_lowered text (codes "SM2SM3") then Some 3 else None))

-- of the key of a service parameter
abbrev pub key_way : List ℕ → Option ℕ
key_way key = if same_lowered key (codes "ohttp") then Some 3 else (if same_lowered key (codes "dohpath") then Some 4 else None)

-- begins with `TYPE`, in any case (RFC 3597 section 5)
abbrev pub begins_type : List ℕ → Bool
begins_type text = same_lowered (take 4 text) type_prefix

abbrev pub is_rare_code : Option ℕ → Bool
is_rare_code None = false
is_rare_code (Some code) = not (is_portable code)

-- the name of a type whose name not every reader knows
abbrev pub is_rare_type : List ℕ → Bool
is_rare_type text = not (begins_type text) && is_rare_code (row_code type_rows text)

abbrev pub type_way : List ℕ → Option ℕ
type_way text = if is_rare_type text then Some 5 else None

abbrev pub is_equals_sign : ℕ → Bool
is_equals_sign c = c == 61

-- a service parameter up to its `=` (RFC 9460 section 2.1)
abbrev pub key_length : List ℕ → ℕ
key_length text = unwrap_or (position is_equals_sign text) (length text)

-- ---- which words of RDATA they are

abbrev pub use_of_field : Field → WordUse
use_of_field NameField = NameWord
use_of_field AlgorithmField = AlgorithmWord
use_of_field TypeField = TypeWord
use_of_field SigTypeField = TypeWord
use_of_field _ = OtherWord

abbrev pub use_of_tail : Rest → WordUse
use_of_tail Types = TypeWord
use_of_tail SomeTypes = TypeWord
use_of_tail Params = KeyWord
use_of_tail _ = OtherWord

abbrev pub use_in : Option Field → Rest → WordUse
use_in None tail = use_of_tail tail
use_in (Some field) tail = use_of_field field

-- the token with this index: a field of one token, or one of the tail
abbrev pub use_of_shape : Option TypeShape → (number : ℕ) → WordUse
use_of_shape None number = OtherWord
use_of_shape (Some s) number = use_in (slice_get s.fields number) s.rest

abbrev pub word_use : RecordType → (number : ℕ) → WordUse
word_use rtype number = use_of_shape (shape_of_code rtype) number

-- ---- the findings

-- at the first octets of a token
abbrev pub way_finding : (width : ℕ) → TokenSeen → Option ℕ → Option EntryFinding
way_finding width t None = None
way_finding width t (Some way) = Some (finding_at Unportable t.at width (RuleAtToken (coded_rule Unportable way)))

abbrev pub word_finding : TokenSeen → Option ℕ → Option EntryFinding
word_finding t way = way_finding (length t.text) t way

-- a name, unless one of its file was reported
abbrev pub name_way : (is_reported : Bool) → List ℕ → Option ℕ
name_way is_reported text = if not is_reported && is_bare_name text then Some 0 else None

-- up to its `=`
abbrev pub key_finding : TokenSeen → Option EntryFinding
key_finding t = way_finding (key_length t.text) t (key_way (take (key_length t.text) t.text))

abbrev pub finding_by_use : WordUse → (is_reported : Bool) → TokenSeen → Option EntryFinding
finding_by_use NameWord is_reported t = word_finding t (name_way is_reported t.text)
finding_by_use AlgorithmWord is_reported t = word_finding t (algorithm_way t.text)
finding_by_use TypeWord is_reported t = word_finding t (type_way t.text)
finding_by_use KeyWord is_reported t = key_finding t
finding_by_use OtherWord is_reported t = None

-- a token without quotes
abbrev pub unportable_word : WordUse → (is_reported : Bool) → TokenSeen → Option EntryFinding
unportable_word its_use is_reported t = if t.is_quoted then None else finding_by_use its_use is_reported t

-- those of RDATA, from the token with this index on; none after a token `\#`
abbrev pub unportable_words : (is_reported : Bool) → RecordType → (number : ℕ) → List TokenSeen → List EntryFinding
unportable_words is_reported rtype number [] = []
unportable_words is_reported rtype number (t ∷ tokens) =
    if is_generic_token t then [] else option_to_list (unportable_word (word_use rtype number) is_reported t) ++ unportable_words is_reported rtype (number + 1) tokens

abbrev pub unportable_name : (is_reported : Bool) → Option TokenSeen → Option EntryFinding
unportable_name is_reported None = None
unportable_name is_reported (Some t) = unportable_word NameWord is_reported t

-- those of a record: its owner, if it has one of its own, and its RDATA
abbrev pub unportable_findings : (is_reported : Bool) → RecordType → (owner : Option TokenSeen) → (words : List TokenSeen) → List EntryFinding
unportable_findings is_reported rtype owner words = option_to_list (unportable_name is_reported owner) ++ unportable_words is_reported rtype 0 words

abbrev pub AreUnportableWords : (is_reported : Bool) → RecordType → (begins_blank : Bool) → List EntryToken → (before after : List EntryFinding) → Type 0
AreUnportableWords is_reported rtype begins_blank tokens before after =
    (words : List EntryToken) × AreDataTokens begins_blank tokens words
    × (after ≡ before ++ unportable_findings is_reported rtype (own_owner begins_blank (map token_seen tokens)) (map token_seen words))

-- the name of `$ORIGIN` is its second token, that of `$INCLUDE` its third
abbrev pub unportable_in_directive : (is_reported : Bool) → Option (Result Directive ErrorKind) → List TokenSeen → Option EntryFinding
unportable_in_directive is_reported (Some (Ok Origin)) tokens = unportable_name is_reported (slice_get tokens 1)
unportable_in_directive is_reported (Some (Ok Include)) tokens = unportable_name is_reported (slice_get tokens 2)
unportable_in_directive is_reported _ tokens = None

abbrev pub unportable_directive : (is_reported : Bool) → List TokenSeen → Option EntryFinding
unportable_directive is_reported tokens = unportable_in_directive is_reported (directive_named_by (slice_get tokens 0)) tokens
