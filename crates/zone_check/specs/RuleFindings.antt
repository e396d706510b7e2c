-- The rules that a record alone breaks, and where.
use Rattle.std.specs.Prelude.{ℕ, ◌≡◌, ◌-◌, ◌==◌, ◌&&◌, ◌||◌, not, if◌then◌else◌, Bool, true, false, List, [], ◌∷◌, ◌++◌, drop, filter, length, map, slice_get, Option, Some, None, MatchOption}
use Rattle.std.specs.List.{list_any}
use Rattle.dns_lexer.specs.EntryTokens.{TokenSeen, token_seen}
use Rattle.dns_lexer.specs.declared.entry_tokens.EntryToken.{EntryToken}
use Rattle.finding_codes.specs.Rule.{rule_part}
use Rattle.finding_codes.specs.declared.code.Code.{Code}
use Rattle.finding_codes.specs.declared.code.Code.TheVariants.{SoaMail, Spf}
use Rattle.finding_codes.specs.declared.rule.Rule.{Rule}
use Rattle.finding_codes.specs.declared.table.Part.{Part}
use Rattle.finding_codes.specs.declared.table.Part.TheVariants.{Whole, Owner as OwnOwner, Target, Last, Field}
use Rattle.mail_texts.specs.Joined.{joint_index}
use Rattle.rdata_fields.specs.declared.record_ref.RecordRef.{RecordRef}
use Rattle.rdata_values.specs.Rtype as Rtype
use Rattle.rdata_values.specs.declared.types.RecordType.{RecordType}
use Rattle.record_rules.specs.FoundAlone.{found_alone}
use Rattle.record_rules.specs.declared.written.Written.{Written}
use Rattle.zone_check.specs.declared.finding.About.TheVariants.{RuleAtToken, RuleOfRecord}
use Rattle.zone_check.specs.declared.finding.EntryFinding.{EntryFinding}
use Rattle.zone_check.specs.declared.rule_findings.RuleContext.{RuleContext}
use Rattle.zone_check.specs.EntryWords.{AreDataTokens}
use Rattle.zone_check.specs.FindingSpans.{finding_of_entry, finding_of_token}
use Rattle.zone_check.specs.NameFindings.{is_generic_token, own_owner}

-- a token is a quoted string
abbrev pub has_quoted : List TokenSeen → Bool
has_quoted words = list_any (λ t. t.is_quoted) words

-- no tokens, or the form `\#`
abbrev pub has_no_fields : List TokenSeen → Bool
has_no_fields [] = true
has_no_fields (t ∷ words) = is_generic_token t

abbrev pub token_offset : Option TokenSeen → ℕ
token_offset None = 0
token_offset (Some t) = t.at

-- the offset of the last token
abbrev pub last_offset : List TokenSeen → ℕ
last_offset words = token_offset (slice_get words (length words - 1))

-- RDATA has no fields; or a token is quoted or none is, and the last one begins these octets
abbrev pub IsWrittenAs : List ℕ → List TokenSeen → Option Written → Type 0
IsWrittenAs octets words r =
    MatchOption r (has_no_fields words ≡ true)
    (λ w. (has_no_fields words ≡ false) × (w.has_quotes ≡ has_quoted words) × (w.last.now ≡ drop (last_offset words) octets))

-- the index of the host or target in RDATA
abbrev pub target_index : RecordType → ℕ
target_index rtype = if rtype == Rtype.ns || rtype == Rtype.cname || rtype == Rtype.ptr then 0 else if rtype == Rtype.srv then 3 else 1

-- the index of a part among the fields, if it is one of them, of a number of tokens
abbrev pub index_of_part : Part → RecordType → (count : ℕ) → Option ℕ
index_of_part (Field index) rtype count = Some index
index_of_part Target rtype count = Some (target_index rtype)
index_of_part Last rtype count = Some (count - 1)
index_of_part OwnOwner rtype count = None
index_of_part Whole rtype count = None

abbrev pub is_owner : Part → Bool
is_owner OwnOwner = true
is_owner _ = false

abbrev is_soa_mail : Code → Bool
is_soa_mail SoaMail = true
is_soa_mail _ = false

-- one label, the second way of `soa-mail`, is a whole mail name only if an origin is known
abbrev pub is_omitted_rule : Rule → (is_below_root : Bool) → Bool
is_omitted_rule rule is_below_root = is_below_root && (is_soa_mail rule.code && rule.way == 1)

-- the token of a field, if RDATA has fields
abbrev pub token_with_index : List TokenSeen → ℕ → Option TokenSeen
token_with_index words index = if has_no_fields words then None else slice_get words index

abbrev pub token_of_field : List TokenSeen → Option ℕ → Option TokenSeen
token_of_field words None = None
token_of_field words (Some index) = token_with_index words index

-- at the token that breaks the rule, or at the record as a whole
abbrev pub finding_at_rule : Rule → List TokenSeen → Option TokenSeen → EntryFinding
finding_at_rule rule tokens None = finding_of_entry rule.code (RuleOfRecord rule) tokens
finding_at_rule rule tokens (Some t) = finding_of_token rule.code (RuleAtToken rule) t

-- the owner breaks the rule, or a field of RDATA
abbrev pub rule_finding : Rule → RecordType → (begins_blank : Bool) → (tokens words : List TokenSeen) → EntryFinding
rule_finding rule rtype begins_blank tokens words = finding_at_rule rule tokens (if is_owner (rule_part rule) then own_owner begins_blank tokens else token_of_field words (index_of_part (rule_part rule) rtype (length words)))

abbrev is_spf : Code → Bool
is_spf Spf = true
is_spf _ = false

-- the third way of `spf`, which is at the second of two strings
abbrev pub is_joint_rule : Rule → Bool
is_joint_rule rule = is_spf rule.code && rule.way == 2

-- such strings of RDATA break the rule, or what breaks others
abbrev pub placed_finding : Rule → RecordType → List ℕ → (begins_blank : Bool) → (tokens words : List TokenSeen) → EntryFinding
placed_finding rule rtype octets begins_blank tokens words =
    if is_joint_rule rule then finding_at_rule rule tokens (token_of_field words (joint_index octets)) else rule_finding rule rtype begins_blank tokens words

-- a finding for each rule that is not omitted
abbrev pub rule_findings : RecordType → List ℕ → RuleContext → (tokens words : List TokenSeen) → List Rule → List EntryFinding
rule_findings rtype octets c tokens words rules = map (λ rule. placed_finding rule rtype octets c.begins_blank tokens words) (filter (λ rule. not (is_omitted_rule rule c.is_below_root)) rules)

-- the rules that a record breaks, as it is written
abbrev pub AreRuleFindings : RecordRef → List ℕ → RuleContext → List EntryToken → (before after : List EntryFinding) → Type 0
AreRuleFindings r octets c tokens before after =
    (words : List EntryToken) × AreDataTokens c.begins_blank tokens words × (written : Option Written) × IsWrittenAs octets (map token_seen words) written
    × (after ≡ before ++ rule_findings r.rtype r.data.now c (map token_seen tokens) (map token_seen words) (found_alone r written))
