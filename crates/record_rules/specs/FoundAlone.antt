-- The rules that a record alone breaks.
use Rattle.std.specs.Prelude.{◌≡◌, ◌↔◌, ◌&&◌, if◌then◌else◌, ℕ, IsTrue, Option, List, [], ◌∷◌, ◌++◌}
use Rattle.std.specs.List.{Contains, filter}
use Rattle.finding_codes.specs.Rule.{coded_rule}
use Rattle.finding_codes.specs.declared.code.Code.TheVariants.{SpfType, NaptrRegexp, NaptrBoth, CaaTag, SoaMail, SoaTimers, ReverseName, WildcardInside, TargetAddress, TxtWords, CommentInData, PtrDot, TlsaField, CaaValue, Spf, SpfUnused, Dmarc, Dkim}
use Rattle.finding_codes.specs.declared.rule.Rule.{Rule}
use Rattle.rdata_values.specs.declared.types.RecordType.{RecordType}
use Rattle.rdata_fields.specs.declared.record_ref.RecordRef.{RecordRef}
use Rattle.record_rules.specs.Labels.{name_labels}
use Rattle.record_rules.specs.MailTexts.{has_any_bad_key, is_key_owner, is_policy_owner}
use Rattle.record_rules.specs.LoneRules.{begins_spf, breaks_record_rule}
use Rattle.record_rules.specs.declared.written.Written.{Written}

-- the rules but for those of DMARC and DKIM
abbrev pub first_rules : List Rule
first_rules =
    coded_rule SpfType 0 ∷ coded_rule NaptrRegexp 0 ∷ coded_rule NaptrBoth 0 ∷ coded_rule CaaTag 0 ∷ coded_rule CaaTag 1 ∷ coded_rule CaaTag 2 ∷ coded_rule SoaMail 0 ∷ coded_rule SoaMail 1
    ∷ coded_rule SoaTimers 0 ∷ coded_rule SoaTimers 1 ∷ coded_rule SoaTimers 2 ∷ coded_rule ReverseName 0 ∷ coded_rule WildcardInside 0 ∷ coded_rule TargetAddress 0 ∷ coded_rule TxtWords 0
    ∷ coded_rule CommentInData 0 ∷ coded_rule PtrDot 0 ∷ coded_rule TlsaField 0 ∷ coded_rule TlsaField 1 ∷ coded_rule TlsaField 2
    ∷ coded_rule CaaValue 0 ∷ coded_rule CaaValue 1 ∷ coded_rule CaaValue 2 ∷ coded_rule Spf 0 ∷ coded_rule Spf 1 ∷ coded_rule Spf 2 ∷ coded_rule SpfUnused 0 ∷ coded_rule SpfUnused 1 ∷ []

abbrev pub dmarc_rules : List Rule
dmarc_rules = coded_rule Dmarc 0 ∷ coded_rule Dmarc 1 ∷ coded_rule Dmarc 2 ∷ coded_rule Dmarc 3 ∷ coded_rule Dmarc 4 ∷ coded_rule Dmarc 5 ∷ []

abbrev pub dkim_rules : List Rule
dkim_rules = coded_rule Dkim 0 ∷ coded_rule Dkim 1 ∷ coded_rule Dkim 2 ∷ coded_rule Dkim 3 ∷ coded_rule Dkim 4 ∷ coded_rule Dkim 5 ∷ []

-- all rules
abbrev pub lone_rules : List Rule
lone_rules = first_rules ++ (dmarc_rules ++ dkim_rules)

-- those that a record breaks
abbrev pub found_alone : RecordRef → Option Written → List Rule
found_alone r text = filter (breaks_record_rule r text) lone_rules

-- a record breaks no others than some of these, which are in the order of all
abbrev pub ListsRulesOf : RecordRef → List Rule → Type 0
ListsRulesOf r rules = (text : Option Written) → filter (breaks_record_rule r text) rules ≡ found_alone r text

-- the rules that a TXT may break: at an owner of a policy, at one of a key if that is wrong, if it may be an SPF record, and others
abbrev pub plain_rules : List Rule
plain_rules = coded_rule WildcardInside 0 ∷ coded_rule TxtWords 0 ∷ coded_rule CommentInData 0 ∷ []

abbrev pub spf_rules : List Rule
spf_rules = coded_rule Spf 0 ∷ coded_rule Spf 1 ∷ coded_rule Spf 2 ∷ coded_rule SpfUnused 0 ∷ coded_rule SpfUnused 1 ∷ []

abbrev pub text_rules : List Rule
text_rules = plain_rules ++ spf_rules

abbrev pub policy_rules : List Rule
policy_rules = text_rules ++ dmarc_rules

abbrev pub key_rules : List Rule
key_rules = text_rules ++ dkim_rules

abbrev pub rules_of_text : (owner octets : List ℕ) → List Rule
rules_of_text owner octets =
    if is_policy_owner (name_labels owner) then policy_rules
    else if is_key_owner (name_labels owner) && has_any_bad_key octets then key_rules
    else if begins_spf octets then text_rules
    else plain_rules

-- one of all rules is among those if and only if the record breaks it
abbrev pub FindsBrokenRules : RecordRef → Option Written → Type 0
FindsBrokenRules r text = (rule : Rule) → Contains (found_alone r text) rule ↔ (Contains lone_rules rule × IsTrue (breaks_record_rule r text rule))
