-- TTLs, classes and RDATA that look like slips.
use Rattle.std.specs.Prelude.{ℕ, ◌≡◌, ◌-◌, ◌==◌, not, nat_eq, nat_lt, if◌then◌else◌, Bool, List, [], ◌∷◌, ◌++◌, length, map, take, slice_get, option_to_list, Option, Some, None}
use Rattle.std.specs.List.{ends_with}
use Rattle.dns_lexer.specs.EntryTokens.{TokenSeen, token_seen}
use Rattle.dns_lexer.specs.declared.entry_tokens.EntryToken.{EntryToken}
use Rattle.rdata_values.specs.declared.types.RecordType.{RecordType}
use Rattle.zone_reader.specs.Past.{seconds_of}
use Rattle.zone_reader.specs.declared.ttl.RecordTtl.{RecordTtl}
use Rattle.zone_reader.specs.declared.ttl.RecordTtl.TheVariants.{Explicit, Default, Last, Minimum}
use Rattle.finding_codes.specs.declared.code.Code.{Code}
use Rattle.finding_codes.specs.declared.code.Code.TheVariants.{EmptyUri, IpseckeyAlgorithm, MaxTtl, OhttpValue, OtherClass, SoaMinimumTtl, TlsaLength, Ttl}
use Rattle.zone_check.specs.declared.entry_words.WordKind.TheVariants.{ClassWord, LongTtl}
use Rattle.zone_check.specs.declared.finding.About.TheVariants.{Entry, Token}
use Rattle.zone_check.specs.declared.finding.EntryFinding.{EntryFinding}
use Rattle.zone_check.specs.declared.value_findings.RecordValues.{RecordValues}
use Rattle.zone_check.specs.Data.{has_empty_target, has_key_algorithm_zero, has_ohttp_value, has_other_match_length}
use Rattle.zone_check.specs.EntryWords.{IsFirstWord, after_owner}
use Rattle.zone_check.specs.FindingSpans.{finding_at, finding_of_any, finding_of_entry, finding_of_token}

-- the minimum of the SOA is used as its TTL
abbrev pub minimum_finding : RecordTtl → List TokenSeen → Option EntryFinding
minimum_finding (Minimum ttl) tokens = Some (finding_of_entry SoaMinimumTtl Entry tokens)
minimum_finding _ tokens = None

-- the first token that spells a TTL of 2^31 seconds or more
abbrev pub IsFirstLongTtl : List EntryToken → Option EntryFinding → Type 0
IsFirstLongTtl tokens r = (place : ℕ) × IsFirstWord LongTtl (map token_seen tokens) place × (r ≡ finding_of_any Ttl Token (slice_get (map token_seen tokens) place))

-- a record's explicit TTL is 0, and one of two tokens spells more
abbrev pub IsExplicitLongTtl : (seconds : ℕ) → List EntryToken → Option EntryFinding → Type 0
IsExplicitLongTtl seconds words r = (seconds ≡ 0 → IsFirstLongTtl (take 2 words) r) × ((seconds ≡ 0 → ⊥) → r ≡ None)

-- the minimum of an SOA, its last token, is read as 0, but its octets are not zeros
abbrev pub last_long_ttl : (seconds : ℕ) → List ℕ → List TokenSeen → Option EntryFinding
last_long_ttl seconds octets tokens = if not (seconds == 0) then None else if ends_with nat_eq octets (0 ∷ 0 ∷ 0 ∷ 0 ∷ []) then None else finding_of_any Ttl Token (slice_get tokens (length tokens - 1))

-- a TTL that is read as 0 for 2^31 seconds or more: the explicit one, which is one of the two tokens after the owner; or the minimum of an SOA
abbrev pub IsLongTtlFinding : RecordTtl → List ℕ → (begins_blank : Bool) → List EntryToken → Option EntryFinding → Type 0
IsLongTtlFinding (Explicit seconds) octets begins_blank tokens r = IsExplicitLongTtl seconds (after_owner begins_blank tokens) r
IsLongTtlFinding (Minimum seconds) octets begins_blank tokens r = r ≡ last_long_ttl seconds octets (map token_seen tokens)
IsLongTtlFinding (Default seconds) octets begins_blank tokens r = r ≡ None
IsLongTtlFinding (Last seconds) octets begins_blank tokens r = r ≡ None

-- a TTL exceeds the limit
abbrev pub max_ttl_finding : RecordTtl → (most : Option ℕ) → List TokenSeen → Option EntryFinding
max_ttl_finding ttl None tokens = None
max_ttl_finding ttl (Some most) tokens = if nat_lt most (seconds_of ttl) then Some (finding_of_entry MaxTtl Entry tokens) else None

-- the first of these that holds of RDATA
abbrev pub data_code : RecordType → List ℕ → Option Code
data_code rtype octets =
    if has_empty_target rtype octets then Some EmptyUri
    else (if has_other_match_length rtype octets then Some TlsaLength
    else (if has_key_algorithm_zero rtype octets then Some IpseckeyAlgorithm
    else (if has_ohttp_value rtype octets then Some OhttpValue else None)))

abbrev pub finding_of_code : List TokenSeen → Option Code → Option EntryFinding
finding_of_code tokens None = None
finding_of_code tokens (Some code) = Some (finding_of_entry code Entry tokens)

abbrev pub data_finding : RecordType → List ℕ → List TokenSeen → Option EntryFinding
data_finding rtype octets tokens = finding_of_code tokens (data_code rtype octets)

-- of the TTL: where it comes from, whether it is read as 0, whether it exceeds the limit; then of the RDATA
abbrev pub AreValueFindings : RecordValues → List ℕ → List EntryToken → (before after : List EntryFinding) → Type 0
AreValueFindings r octets tokens before after =
    (long : Option EntryFinding) × IsLongTtlFinding r.ttl octets r.begins_blank tokens long
    × (after ≡ before ++ option_to_list (minimum_finding r.ttl (map token_seen tokens)) ++ option_to_list long ++ option_to_list (max_ttl_finding r.ttl r.max_ttl (map token_seen tokens)) ++ option_to_list (data_finding r.rtype octets (map token_seen tokens)))

-- another class than the zone's: at the first token after the owner that spells a class, or at the entry's beginning
abbrev pub class_finding_of : Option TokenSeen → EntryFinding
class_finding_of None = finding_at OtherClass 0 1 Entry
class_finding_of (Some t) = finding_of_token OtherClass Token t

abbrev pub IsClassFinding : (begins_blank : Bool) → List EntryToken → EntryFinding → Type 0
IsClassFinding begins_blank tokens r =
    (place : ℕ) × IsFirstWord ClassWord (map token_seen (after_owner begins_blank tokens)) place × (r ≡ class_finding_of (slice_get (map token_seen (after_owner begins_blank tokens)) place))
