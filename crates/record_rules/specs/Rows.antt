-- Worked examples of the rules, each computed.
use Rattle.std.specs.Prelude.{◌≡◌, ℕ, Bool, true, false, Some, None, List, [], ◌∷◌, ◌++◌, length, codes, refl}
use Rattle.rdata_fields.specs.declared.record_ref.RecordRef.{RecordRef}
use Rattle.rdata_values.specs.Rtype as Rtype
use Rattle.rdata_values.specs.declared.types.RecordType.{RecordType}
use Rattle.dns_wire.specs.Wire.{wire}
use Rattle.record_rules.specs.CaaValues.{is_issue_value, is_report_url, padded_word}
use Rattle.record_rules.specs.Comments.{has_word_at_comment}
use Rattle.record_rules.specs.FoundAlone.{found_alone}
use Rattle.record_rules.specs.Labels.{beyond_name, is_octet_label, last_two, name_labels}
use Rattle.record_rules.specs.LoneRules.{breaks_alone}
use Rattle.record_rules.specs.Substitutions.{group_count, is_substitution}
use Rattle.record_rules.specs.declared.regexp.Spot.TheVariants.{Plain}
use Rattle.finding_codes.specs.Rule.{coded_rule}
use Rattle.finding_codes.specs.declared.code.Code.{Code}
use Rattle.finding_codes.specs.declared.code.Code.TheVariants.{SpfType, NaptrRegexp, NaptrBoth, CaaTag, SoaMail, SoaTimers, ReverseName, WildcardInside, TargetAddress, TxtWords, CommentInData, PtrDot, TlsaField, CaaValue, Spf, SpfUnused}
use Rattle.finding_codes.specs.declared.rule.Rule.{Rule}
use Rattle.record_rules.specs.declared.written.Written.{Written}

-- `example.`, and names below it
abbrev apex : List (List ℕ)
apex = codes "example" ∷ [] ∷ []

abbrev under : List ℕ → List (List ℕ)
under label = label ∷ apex

-- a rule is broken by a record at a name, whatever its text
abbrev broken_at : Rule → List (List ℕ) → RecordType → List ℕ → Bool
broken_at rule owner rtype octets = breaks_alone rule.code rule.way (wire owner) rtype octets None

abbrev broken : Rule → RecordType → List ℕ → Bool
broken rule = broken_at rule apex

-- a character string
abbrev text : List ℕ → List ℕ
text octets = length octets ∷ octets

-- ---- octets

labels_row : name_labels (wire (under (codes "a")) ++ 1 ∷ 2 ∷ []) ≡ codes "a" ∷ codes "example" ∷ []
unfolding name_labels
labels_row = refl

beyond_row : beyond_name (wire (under (codes "a")) ++ 1 ∷ 2 ∷ []) ≡ 1 ∷ 2 ∷ []
unfolding beyond_name
beyond_row = refl

two_labels_left_row : last_two (codes "1" ∷ codes "0" ∷ codes "ip6" ∷ codes "arpa" ∷ []) ≡ codes "ip6" ∷ codes "arpa" ∷ []
two_labels_left_row = refl

one_label_left_row : last_two (codes "arpa" ∷ []) ≡ codes "arpa" ∷ []
one_label_left_row = refl

-- ---- SPF

spf_row : broken (coded_rule SpfType 0) Rtype.spf (text (codes "v=spf1 -all")) ≡ true
spf_row = refl

txt_row : broken (coded_rule SpfType 0) Rtype.txt (text (codes "v=spf1 -all")) ≡ false
txt_row = refl

-- ---- NAPTR (RFC 3402 section 3.2); BIND 9.18 loads and rejects the same ones

two_delimiters_row : is_substitution (codes "!a!b") ≡ false
two_delimiters_row = refl

three_delimiters_row : is_substitution (codes "!a!b!") ≡ true
three_delimiters_row = refl

flag_row : is_substitution (codes "!a!b!i") ≡ true
flag_row = refl

flags_row : is_substitution (codes "!a!b!ii") ≡ true
flags_row = refl

other_flag_row : is_substitution (codes "!a!b!x") ≡ false
other_flag_row = refl

four_delimiters_row : is_substitution (codes "!a!b!i!") ≡ false
four_delimiters_row = refl

no_expression_row : is_substitution (codes "!!b!") ≡ false
no_expression_row = refl

no_replacement_row : is_substitution (codes "!a!!") ≡ true
no_replacement_row = refl

digit_row : is_substitution (codes "1a1b1") ≡ false
digit_row = refl

letter_row : is_substitution (codes "iaibi") ≡ false
letter_row = refl

capital_row : is_substitution (codes "IaIbI") ≡ true
capital_row = refl

backslash_row : is_substitution (codes "\\a\\b\\") ≡ false
backslash_row = refl

nul_row : is_substitution (33 ∷ 97 ∷ 0 ∷ 33 ∷ 98 ∷ 33 ∷ []) ≡ false
nul_row = refl

nul_delimiter_row : is_substitution (0 ∷ 97 ∷ 0 ∷ 98 ∷ 0 ∷ []) ≡ false
nul_delimiter_row = refl

escaped_delimiter_row : is_substitution (codes "!a\\!b!x!") ≡ true
escaped_delimiter_row = refl

delimiter_in_brackets_row : is_substitution (codes "![!]!x!") ≡ false
delimiter_in_brackets_row = refl

escaped_end_row : is_substitution (codes "!a!b\\!") ≡ false
escaped_end_row = refl

group_row : is_substitution (codes "!(a)!\\1!") ≡ true
group_row = refl

no_group_row : is_substitution (codes "!a!\\1!") ≡ false
no_group_row = refl

second_group_row : is_substitution (codes "!(a)!\\2!") ≡ false
second_group_row = refl

nested_group_row : is_substitution (codes "!((a))!\\2!") ≡ true
nested_group_row = refl

group_zero_row : is_substitution (codes "!(a)!\\0!") ≡ false
group_zero_row = refl

escaped_backslash_row : is_substitution (codes "!a!\\\\1!") ≡ true
escaped_backslash_row = refl

escaped_group_row : is_substitution (codes "!\\(a\\)!\\1!") ≡ false
escaped_group_row = refl

listed_group_row : is_substitution (codes "![(]a!\\1!") ≡ false
listed_group_row = refl

first_bracket_row : group_count Plain (codes "[](]a") ≡ 0
first_bracket_row = refl

negated_bracket_row : group_count Plain (codes "[^](](a)") ≡ 1
negated_bracket_row = refl

class_row : group_count Plain (codes "[[:alpha:](]a") ≡ 0
class_row = refl

after_class_row : group_count Plain (codes "[[:alpha:]](x)") ≡ 1
after_class_row = refl

equivalence_row : group_count Plain (codes "[[=a=](](x)") ≡ 1
equivalence_row = refl

listed_backslash_row : group_count Plain (codes "[a\\](x)") ≡ 1
listed_backslash_row = refl

-- order, preference, flags, services
abbrev naptr : List ℕ → List (List ℕ) → List ℕ
naptr regexp replacement = 0 ∷ 1 ∷ 0 ∷ 1 ∷ (text (codes "u") ++ (text (codes "E2U+sip") ++ (text regexp ++ wire replacement)))

naptr_row : broken (coded_rule NaptrRegexp 0) Rtype.naptr (naptr (codes "!a!b") ([] ∷ [])) ≡ true
naptr_row = refl

no_regexp_row : broken (coded_rule NaptrRegexp 0) Rtype.naptr (naptr [] apex) ≡ false
no_regexp_row = refl

both_row : broken (coded_rule NaptrBoth 0) Rtype.naptr (naptr (codes "!a!b!") apex) ≡ true
unfolding name_labels
both_row = refl

regexp_row : broken (coded_rule NaptrBoth 0) Rtype.naptr (naptr (codes "!a!b!") ([] ∷ [])) ≡ false
unfolding name_labels
regexp_row = refl

replacement_row : broken (coded_rule NaptrBoth 0) Rtype.naptr (naptr [] apex) ≡ false
unfolding name_labels
replacement_row = refl

-- ---- CAA

abbrev caa : ℕ → List ℕ → List ℕ
caa flags tag = flags ∷ (text tag ++ codes "ca.example")

unknown_row : broken (coded_rule CaaTag 0) Rtype.caa (caa 0 (codes "isue")) ≡ true
unknown_row = refl

unknown_not_critical_row : broken (coded_rule CaaTag 1) Rtype.caa (caa 127 (codes "isue")) ≡ false
unknown_not_critical_row = refl

critical_row : broken (coded_rule CaaTag 1) Rtype.caa (caa 128 (codes "isue")) ≡ true
critical_row = refl

critical_once_row : broken (coded_rule CaaTag 0) Rtype.caa (caa 128 (codes "isue")) ≡ false
critical_once_row = refl

known_critical_row : broken (coded_rule CaaTag 1) Rtype.caa (caa 128 (codes "issue")) ≡ false
known_critical_row = refl

wild_row : broken (coded_rule CaaTag 0) Rtype.caa (caa 0 (codes "IssueWild")) ≡ false
wild_row = refl

vmc_row : broken (coded_rule CaaTag 0) Rtype.caa (caa 0 (codes "issuevmc")) ≡ false
vmc_row = refl

phone_row : broken (coded_rule CaaTag 0) Rtype.caa (caa 0 (codes "contactphone")) ≡ false
phone_row = refl

capital_tag_row : broken (coded_rule CaaTag 2) Rtype.caa (caa 0 (codes "Issue")) ≡ true
capital_tag_row = refl

small_tag_row : broken (coded_rule CaaTag 2) Rtype.caa (caa 0 (codes "issue")) ≡ false
small_tag_row = refl

-- ---- SOA

-- a mail name, and a serial with the four timers
abbrev number : ℕ → ℕ → List ℕ
number high low = 0 ∷ 0 ∷ high ∷ low ∷ []

abbrev timers : List ℕ → List ℕ → List ℕ → List ℕ → List ℕ
timers refresh retry expire minimum = number 0 1 ++ (refresh ++ (retry ++ (expire ++ minimum)))

-- refresh 3600, retry 600, expire 2147483646, minimum 0 (RFC 9432 appendix A)
abbrev catalog_timers : List ℕ
catalog_timers = timers (number 14 16) (number 2 88) (127 ∷ 255 ∷ 255 ∷ 254 ∷ []) (number 0 0)

abbrev soa : List (List ℕ) → List ℕ → List ℕ
soa mail rest = wire (under (codes "ns")) ++ (wire mail ++ rest)

-- admin@example., where BIND, NSD and ldns see no fault
sign_row : broken (coded_rule SoaMail 0) Rtype.soa (soa (codes "admin@example" ∷ [] ∷ []) catalog_timers) ≡ true
unfolding beyond_name name_labels
sign_row = refl

sign_once_row : broken (coded_rule SoaMail 1) Rtype.soa (soa (codes "admin@example" ∷ [] ∷ []) catalog_timers) ≡ false
unfolding beyond_name name_labels
sign_once_row = refl

relative_sign_row : broken (coded_rule SoaMail 0) Rtype.soa (soa (under (codes "admin@example")) catalog_timers) ≡ true
unfolding beyond_name name_labels
relative_sign_row = refl

mail_row : broken (coded_rule SoaMail 0) Rtype.soa (soa (under (codes "admin")) catalog_timers) ≡ false
unfolding beyond_name name_labels
mail_row = refl

one_label_row : broken (coded_rule SoaMail 1) Rtype.soa (soa (codes "admin" ∷ [] ∷ []) catalog_timers) ≡ true
unfolding beyond_name name_labels
one_label_row = refl

two_labels_row : broken (coded_rule SoaMail 1) Rtype.soa (soa (under (codes "admin")) catalog_timers) ≡ false
unfolding beyond_name name_labels
two_labels_row = refl

invalid_row : broken (coded_rule SoaMail 1) Rtype.soa (soa (codes "Invalid" ∷ [] ∷ []) catalog_timers) ≡ false
unfolding beyond_name name_labels
invalid_row = refl

root_mail_row : broken (coded_rule SoaMail 1) Rtype.soa (soa ([] ∷ []) catalog_timers) ≡ false
unfolding beyond_name name_labels
root_mail_row = refl

abbrev broken_timer : Rule → List ℕ → Bool
broken_timer rule rest = broken rule Rtype.soa (soa (under (codes "admin")) rest)

catalog_retry_row : broken_timer (coded_rule SoaTimers 0) catalog_timers ≡ false
unfolding beyond_name
catalog_retry_row = refl

catalog_expire_row : broken_timer (coded_rule SoaTimers 1) catalog_timers ≡ false
unfolding beyond_name
catalog_expire_row = refl

catalog_minimum_row : broken_timer (coded_rule SoaTimers 2) catalog_timers ≡ false
unfolding beyond_name
catalog_minimum_row = refl

-- refresh 60, retry 3600, expire 60, minimum 604800
abbrev bad_timers : List ℕ
bad_timers = timers (number 0 60) (number 14 16) (number 0 60) (0 ∷ 9 ∷ 58 ∷ 128 ∷ [])

late_retry_row : broken_timer (coded_rule SoaTimers 0) bad_timers ≡ true
unfolding beyond_name
late_retry_row = refl

early_expire_row : broken_timer (coded_rule SoaTimers 1) bad_timers ≡ true
unfolding beyond_name
early_expire_row = refl

long_minimum_row : broken_timer (coded_rule SoaTimers 2) bad_timers ≡ true
unfolding beyond_name
long_minimum_row = refl

-- the bounds: refresh 60, retry 60, expire 120, minimum 86400
abbrev edge_timers : List ℕ
edge_timers = timers (number 0 60) (number 0 60) (number 0 120) (0 ∷ 1 ∷ 81 ∷ 128 ∷ [])

equal_retry_row : broken_timer (coded_rule SoaTimers 0) edge_timers ≡ true
unfolding beyond_name
equal_retry_row = refl

least_expire_row : broken_timer (coded_rule SoaTimers 1) edge_timers ≡ false
unfolding beyond_name
least_expire_row = refl

one_day_row : broken_timer (coded_rule SoaTimers 2) edge_timers ≡ false
unfolding beyond_name
one_day_row = refl

-- ---- reverse names

octet_labels_row : (is_octet_label (codes "0") ≡ true) × (is_octet_label (codes "99") ≡ true) × (is_octet_label (codes "255") ≡ true)
octet_labels_row = (refl, refl, refl)

no_octet_labels_row : (is_octet_label (codes "256") ≡ false) × (is_octet_label (codes "01") ≡ false) × (is_octet_label (codes "1a") ≡ false) × (is_octet_label (codes "1000") ≡ false)
no_octet_labels_row = (refl, refl, refl, refl)

abbrev below_in_addr : List (List ℕ) → List (List ℕ)
below_in_addr labels = labels ++ (codes "IN-ADDR" ∷ codes "arpa" ∷ [] ∷ [])

abbrev below_ip6 : List (List ℕ) → List (List ℕ)
below_ip6 labels = labels ++ (codes "ip6" ∷ codes "arpa" ∷ [] ∷ [])

abbrev is_told : List (List ℕ) → Bool
is_told owner = broken_at (coded_rule ReverseName 0) owner Rtype.ptr (wire apex)

address_row : is_told (below_in_addr (codes "1" ∷ codes "2" ∷ codes "0" ∷ codes "192" ∷ [])) ≡ false
unfolding name_labels
address_row = refl

three_numbers_row : is_told (below_in_addr (codes "2" ∷ codes "0" ∷ codes "192" ∷ [])) ≡ true
unfolding name_labels
three_numbers_row = refl

five_numbers_row : is_told (below_in_addr (codes "1" ∷ codes "1" ∷ codes "2" ∷ codes "0" ∷ codes "192" ∷ [])) ≡ true
unfolding name_labels
five_numbers_row = refl

-- as `${0,3}` of `$GENERATE` makes it
zeros_row : is_told (below_in_addr (codes "001" ∷ codes "2" ∷ codes "0" ∷ codes "192" ∷ [])) ≡ true
unfolding name_labels
zeros_row = refl

high_number_row : is_told (below_in_addr (codes "256" ∷ codes "2" ∷ codes "0" ∷ codes "192" ∷ [])) ≡ true
unfolding name_labels
high_number_row = refl

-- RFC 2317 section 4, and with a hyphen
divided_row : is_told (below_in_addr (codes "1" ∷ codes "0/25" ∷ codes "2" ∷ codes "0" ∷ codes "192" ∷ [])) ≡ false
unfolding name_labels
divided_row = refl

hyphen_row : is_told (below_in_addr (codes "1" ∷ codes "0-127" ∷ codes "2" ∷ codes "0" ∷ codes "192" ∷ [])) ≡ false
unfolding name_labels
hyphen_row = refl

-- RFC 6763 section 11
service_row : is_told (below_in_addr (codes "lb" ∷ codes "_dns-sd" ∷ codes "_udp" ∷ codes "0" ∷ codes "2" ∷ codes "0" ∷ codes "192" ∷ [])) ≡ false
unfolding name_labels
service_row = refl

star_row : is_told (below_in_addr (codes "*" ∷ codes "2" ∷ codes "0" ∷ codes "192" ∷ [])) ≡ false
unfolding name_labels
star_row = refl

-- `10.0.ip6.arpa.`, which no tool reports
short_row : is_told (below_ip6 (codes "10" ∷ codes "0" ∷ [])) ≡ true
unfolding name_labels
short_row = refl

abbrev eight : List (List ℕ)
eight = codes "1" ∷ codes "0" ∷ codes "F" ∷ codes "a" ∷ codes "8" ∷ codes "9" ∷ codes "d" ∷ codes "0" ∷ []

address6_row : is_told (below_ip6 (eight ++ (eight ++ (eight ++ eight)))) ≡ false
unfolding name_labels
address6_row = refl

longer6_row : is_told (below_ip6 (codes "1" ∷ eight ++ (eight ++ (eight ++ eight)))) ≡ true
unfolding name_labels
longer6_row = refl

top_row : is_told (below_in_addr []) ≡ false
unfolding name_labels
top_row = refl

elsewhere_row : is_told (under (codes "a")) ≡ false
unfolding name_labels
elsewhere_row = refl

-- ---- wildcards

-- b.*.x
inner_star_row : broken_at (coded_rule WildcardInside 0) (codes "b" ∷ codes "*" ∷ under (codes "x")) Rtype.a [] ≡ true
unfolding name_labels
inner_star_row = refl

first_star_row : broken_at (coded_rule WildcardInside 0) (codes "*" ∷ under (codes "x")) Rtype.a [] ≡ false
unfolding name_labels
first_star_row = refl

two_stars_row : broken_at (coded_rule WildcardInside 0) (codes "*" ∷ under (codes "*")) Rtype.txt [] ≡ true
unfolding name_labels
two_stars_row = refl

part_star_row : broken_at (coded_rule WildcardInside 0) (codes "b" ∷ under (codes "a*")) Rtype.a [] ≡ false
unfolding name_labels
part_star_row = refl

-- ---- values of CAA: the examples of RFC 8659 section 4 and RFC 9495 section 6, and near to them

no_issuer_row : is_issue_value (codes ";") ≡ true
no_issuer_row = refl

empty_issuer_row : is_issue_value ([]) ≡ true
empty_issuer_row = refl

issuer_row : is_issue_value (codes "ca1.example.net") ≡ true
issuer_row = refl

account_row : is_issue_value (codes "ca1.example.net; account=230123") ≡ true
account_row = refl

percent_row : is_issue_value (codes "%%%%%") ≡ false
percent_row = refl

policy_row : is_issue_value (codes "ca1.example.net; policy=ev") ≡ true
policy_row = refl

wsp_row : is_issue_value (9 ∷ 32 ∷ codes " ca1.example.net ;a = b;c=d ") ≡ true
wsp_row = refl

parameters_alone_row : is_issue_value (codes "; account=230123") ≡ true
parameters_alone_row = refl

empty_parameter_value_row : is_issue_value (codes "ca1.example.net; a=") ≡ true
empty_parameter_value_row = refl

last_semicolon_row : is_issue_value (codes "ca1.example.net; a=b;") ≡ true
last_semicolon_row = refl

two_semicolons_row : is_issue_value (codes "ca1.example.net;; a=b") ≡ false
two_semicolons_row = refl

no_equals_row : is_issue_value (codes "ca1.example.net; account") ≡ false
no_equals_row = refl

no_parameter_tag_row : is_issue_value (codes "ca1.example.net; =b") ≡ false
no_parameter_tag_row = refl

words_in_value_row : is_issue_value (codes "ca1.example.net; a=b c") ≡ false
words_in_value_row = refl

equals_in_value_row : is_issue_value (codes "ca1.example.net; a=b=c") ≡ true
equals_in_value_row = refl

last_dot_row : is_issue_value (codes "ca1.example.net.") ≡ false
last_dot_row = refl

underscore_row : is_issue_value (codes "ca1_example.net") ≡ false
underscore_row = refl

first_hyphen_row : is_issue_value (codes "-ca1.example.net") ≡ false
first_hyphen_row = refl

last_hyphen_row : is_issue_value (codes "ca1-.example.net") ≡ false
last_hyphen_row = refl

inner_hyphens_row : is_issue_value (codes "c--a.example.net") ≡ true
inner_hyphens_row = refl

two_issuers_row : is_issue_value (codes "ca1.example.net ca2.example.org") ≡ false
two_issuers_row = refl

commas_row : is_issue_value (codes "ca1.example.net, ca2.example.org") ≡ false
commas_row = refl

url_as_issuer_row : is_issue_value (codes "https://ca1.example.net/") ≡ false
url_as_issuer_row = refl

high_octet_row : is_issue_value (195 ∷ 164 ∷ codes ".example") ≡ false
high_octet_row = refl

mail_url_row : is_report_url (codes "mailto:security@example.com") ≡ true
mail_url_row = refl

http_url_row : is_report_url (codes "http://iodef.example.com/") ≡ true
http_url_row = refl

https_url_row : is_report_url (codes "HTTPS://iodef.example.com/") ≡ true
https_url_row = refl

no_scheme_row : is_report_url (codes "security@example.com") ≡ false
no_scheme_row = refl

no_at_sign_row : is_report_url (codes "mailto:security") ≡ false
no_at_sign_row = refl

no_local_part_row : is_report_url (codes "mailto:@example.com") ≡ false
no_local_part_row = refl

other_scheme_row : is_report_url (codes "ftp://example.com/") ≡ false
other_scheme_row = refl

scheme_alone_row : is_report_url (codes "http://") ≡ false
scheme_alone_row = refl

no_url_row : is_report_url ([]) ≡ false
no_url_row = refl

word_between_row : padded_word (codes "  a ") ≡ Some (codes "a")
word_between_row = refl

two_words_row : padded_word (codes " a b ") ≡ None
two_words_row = refl

abbrev caa_with : ℕ → List ℕ → List ℕ → List ℕ
caa_with flags tag value = flags ∷ (text tag ++ value)

bad_issue_row : broken (coded_rule CaaValue 0) Rtype.caa (caa_with 0 (codes "issue") (codes "%%%%%")) ≡ true
bad_issue_row = refl

bad_issuemail_row : broken (coded_rule CaaValue 0) Rtype.caa (caa_with 0 (codes "IssueMail") (codes "%%%%%")) ≡ true
bad_issuemail_row = refl

good_issuewild_row : broken (coded_rule CaaValue 0) Rtype.caa (caa_with 0 (codes "issuewild") (codes ";")) ≡ false
good_issuewild_row = refl

other_tag_row : broken (coded_rule CaaValue 0) Rtype.caa (caa_with 0 (codes "contactphone") (codes "+1 555 0100")) ≡ false
other_tag_row = refl

bad_iodef_row : broken (coded_rule CaaValue 1) Rtype.caa (caa_with 0 (codes "iodef") (codes "security@example.com")) ≡ true
bad_iodef_row = refl

issue_is_no_url_row : broken (coded_rule CaaValue 1) Rtype.caa (caa_with 0 (codes "issue") (codes "ca1.example.net")) ≡ false
issue_is_no_url_row = refl

flag_one_row : broken (coded_rule CaaValue 2) Rtype.caa (caa_with 1 (codes "issue") (codes ";")) ≡ true
flag_one_row = refl

critical_flag_row : broken (coded_rule CaaValue 2) Rtype.caa (caa_with 128 (codes "issue") (codes ";")) ≡ false
critical_flag_row = refl

commented_value_row : breaks_alone CaaValue 0 (wire apex) Rtype.caa (caa_with 0 (codes "issue") (codes "ca_1")) (Some (record { has_quotes = false; last = record { ref_ptr = (0, 0); now = codes "ca_1;a=b" } })) ≡ false
commented_value_row = refl

-- ---- TLSA and SMIMEA

-- a certificate usage, a selector, a matching type, and some data
abbrev tlsa : ℕ → ℕ → ℕ → List ℕ
tlsa usage selector matching = usage ∷ selector ∷ matching ∷ 171 ∷ 205 ∷ []

assigned_row : broken (coded_rule TlsaField 0) Rtype.tlsa (tlsa 3 1 1) ≡ false
assigned_row = refl

fourth_usage_row : broken (coded_rule TlsaField 0) Rtype.tlsa (tlsa 4 1 1) ≡ true
fourth_usage_row = refl

usage_alone_row : broken (coded_rule TlsaField 1) Rtype.tlsa (tlsa 4 1 1) ≡ false
usage_alone_row = refl

private_usage_row : broken (coded_rule TlsaField 0) Rtype.tlsa (tlsa 255 1 1) ≡ false
private_usage_row = refl

greatest_selector_row : broken (coded_rule TlsaField 1) Rtype.tlsa (tlsa 3 1 2) ≡ false
greatest_selector_row = refl

second_selector_row : broken (coded_rule TlsaField 1) Rtype.smimea (tlsa 3 2 1) ≡ true
second_selector_row = refl

private_selector_row : broken (coded_rule TlsaField 1) Rtype.tlsa (tlsa 3 255 1) ≡ false
private_selector_row = refl

greatest_matching_row : broken (coded_rule TlsaField 2) Rtype.tlsa (tlsa 3 1 2) ≡ false
greatest_matching_row = refl

third_matching_row : broken (coded_rule TlsaField 2) Rtype.tlsa (tlsa 3 1 3) ≡ true
third_matching_row = refl

private_matching_row : broken (coded_rule TlsaField 2) Rtype.tlsa (tlsa 3 1 255) ≡ false
private_matching_row = refl

other_association_row : broken (coded_rule TlsaField 0) Rtype.cert (tlsa 4 1 1) ≡ false
other_association_row = refl

short_association_row : broken (coded_rule TlsaField 2) Rtype.tlsa (3 ∷ 1 ∷ []) ≡ false
short_association_row = refl

-- ---- final dots of targets in reverse trees

abbrev lacks_dot : List (List ℕ) → RecordType → List (List ℕ) → Bool
lacks_dot owner rtype target = broken_at (coded_rule PtrDot 0) owner rtype (wire target)

-- the name of an address of 192.0.2.0/24, and what `host` becomes there
abbrev one_reversed : List (List ℕ)
one_reversed = below_in_addr (codes "1" ∷ codes "2" ∷ codes "0" ∷ codes "192" ∷ [])

abbrev host_reversed : List (List ℕ)
host_reversed = below_in_addr (codes "host" ∷ codes "2" ∷ codes "0" ∷ codes "192" ∷ [])

dotless_row : lacks_dot one_reversed Rtype.ptr host_reversed ≡ true
unfolding name_labels
dotless_row = refl

dotless_ip6_row : lacks_dot (below_ip6 (codes "1" ∷ codes "0" ∷ [])) Rtype.ptr (below_ip6 (codes "host" ∷ codes "0" ∷ [])) ≡ true
unfolding name_labels
dotless_ip6_row = refl

dotted_row : lacks_dot one_reversed Rtype.ptr (under (codes "host")) ≡ false
unfolding name_labels
dotted_row = refl

-- the top of a tree is not below it
top_target_row : lacks_dot one_reversed Rtype.ptr (below_in_addr []) ≡ false
unfolding name_labels
top_target_row = refl

other_owner_row : lacks_dot (under (codes "a")) Rtype.ptr host_reversed ≡ false
unfolding name_labels
other_owner_row = refl

-- b._dns-sd._udp (RFC 6763 section 11)
service_pointer_row : lacks_dot (below_in_addr (codes "b" ∷ codes "_dns-sd" ∷ codes "_udp" ∷ codes "0" ∷ codes "2" ∷ codes "0" ∷ codes "192" ∷ [])) Rtype.ptr host_reversed ≡ false
unfolding name_labels
service_pointer_row = refl

-- an underscore that is not the first octet
inner_underscore_row : lacks_dot (below_in_addr (codes "a_b" ∷ codes "2" ∷ codes "0" ∷ codes "192" ∷ [])) Rtype.ptr host_reversed ≡ true
unfolding name_labels
inner_underscore_row = refl

-- a CNAME of RFC 2317
alias_row : lacks_dot one_reversed Rtype.cname host_reversed ≡ false
unfolding name_labels
alias_row = refl

-- ---- targets

abbrev address_before : List (List ℕ) → List (List ℕ)
address_before labels = codes "192" ∷ codes "0" ∷ codes "2" ∷ codes "1" ∷ labels

abbrev targets_address : List (List ℕ) → RecordType → List ℕ → Bool
targets_address owner rtype octets = broken_at (coded_rule TargetAddress 0) owner rtype octets

-- MX 10 192.0.2.1.
mx_dot_row : targets_address apex Rtype.mx (0 ∷ 10 ∷ wire (address_before ([] ∷ []))) ≡ true
unfolding name_labels
mx_dot_row = refl

-- MX 10 192.0.2.1
mx_row : targets_address (under (codes "m")) Rtype.mx (0 ∷ 10 ∷ wire (address_before apex)) ≡ true
unfolding name_labels
mx_row = refl

ns_row : targets_address apex Rtype.ns (wire (address_before ([] ∷ []))) ≡ true
unfolding name_labels
ns_row = refl

cname_row : targets_address (under (codes "c")) Rtype.cname (wire (address_before ([] ∷ []))) ≡ true
unfolding name_labels
cname_row = refl

srv_row : targets_address (codes "_sip" ∷ under (codes "_udp")) Rtype.srv (0 ∷ 0 ∷ 0 ∷ 0 ∷ 0 ∷ 1 ∷ wire (address_before apex)) ≡ true
unfolding name_labels
srv_row = refl

https_row : targets_address apex Rtype.https (0 ∷ 1 ∷ wire (address_before ([] ∷ [])) ++ 0 ∷ 3 ∷ 0 ∷ 2 ∷ 1 ∷ 187 ∷ []) ≡ true
unfolding name_labels
https_row = refl

-- the root, a name of a host, and one that begins with an address elsewhere
no_target_row : targets_address apex Rtype.mx (0 ∷ 0 ∷ 0 ∷ []) ≡ false
unfolding name_labels
no_target_row = refl

host_row : targets_address apex Rtype.mx (0 ∷ 10 ∷ wire (under (codes "m"))) ≡ false
unfolding name_labels
host_row = refl

elsewhere_target_row : targets_address apex Rtype.cname (wire (address_before (codes "nip" ∷ codes "io" ∷ [] ∷ []))) ≡ false
unfolding name_labels
elsewhere_target_row = refl

-- RFC 2317 section 5.2 without a slash
reverse_target_row : targets_address (below_in_addr (codes "1" ∷ codes "2" ∷ codes "0" ∷ codes "192" ∷ [])) Rtype.cname (wire (below_in_addr (codes "1" ∷ codes "3" ∷ codes "0" ∷ codes "192" ∷ []))) ≡ false
unfolding name_labels
reverse_target_row = refl

-- ---- text

abbrev from_text : Bool → List ℕ → Written
from_text quotes last = record { has_quotes = quotes; last = record { ref_ptr = (0, 0); now = last } }

-- TXT v=spf1 a -all
abbrev words : List ℕ
words = text (codes "v=spf1") ++ (text (codes "a") ++ text (codes "-all"))

words_row : breaks_alone TxtWords 0 (wire apex) Rtype.txt words (Some (from_text false (codes "-all\n"))) ≡ true
words_row = refl

quoted_words_row : breaks_alone TxtWords 0 (wire apex) Rtype.txt words (Some (from_text true (codes "-all\n"))) ≡ false
quoted_words_row = refl

unknown_words_row : breaks_alone TxtWords 0 (wire apex) Rtype.txt words None ≡ false
unknown_words_row = refl

one_word_row : breaks_alone TxtWords 0 (wire apex) Rtype.txt (text (codes "v=spf1")) (Some (from_text false (codes "v=spf1\n"))) ≡ false
one_word_row = refl

other_words_row : breaks_alone TxtWords 0 (wire apex) Rtype.txt (text (codes "a") ++ text (codes "b")) (Some (from_text false (codes "b\n"))) ≡ false
other_words_row = refl

-- v=DKIM1; p=..
comment_row : has_word_at_comment (codes "v=DKIM1; p=abc\n") ≡ true
comment_row = refl

blank_row : has_word_at_comment (codes "v=DKIM1 ; p=abc\n") ≡ false
blank_row = refl

quoted_row : has_word_at_comment (codes "\"v=DKIM1\";p\n") ≡ false
quoted_row = refl

escaped_row : has_word_at_comment (codes "v=DKIM1\\; p\n") ≡ false
escaped_row = refl

number_escape_row : has_word_at_comment (codes "a\\059b;c\n") ≡ true
number_escape_row = refl

line_row : has_word_at_comment (codes "v=DKIM1\n; p\n") ≡ false
line_row = refl

parenthesis_row : has_word_at_comment (codes "v=DKIM1); p\n") ≡ false
parenthesis_row = refl

caa_comment_row : breaks_alone CommentInData 0 (wire apex) Rtype.caa (caa 0 (codes "issue")) (Some (from_text false (codes "ca.example;x=y\n"))) ≡ true
caa_comment_row = refl

spf_comment_row : breaks_alone CommentInData 0 (wire apex) Rtype.spf (text (codes "a")) (Some (from_text false (codes "a;b\n"))) ≡ true
spf_comment_row = refl

address_comment_row : breaks_alone CommentInData 0 (wire apex) Rtype.a (192 ∷ 0 ∷ 2 ∷ 1 ∷ []) (Some (from_text false (codes "192.0.2.1;x\n"))) ≡ false
address_comment_row = refl

-- ---- all rules

abbrev borrowed : List ℕ → RecordType → List ℕ → RecordRef
borrowed owner rtype octets = record {
  owner = record { ref_ptr = (0, 0); now = owner };
  ttl = 60;
  class = 1;
  rtype = rtype;
  «data» = record { ref_ptr = (0, 0); now = octets };
}

spf_found_row : found_alone (borrowed (wire apex) Rtype.spf (text (codes "v=spf1"))) (Some (from_text false (codes "v=spf1;\n"))) ≡ coded_rule SpfType 0 ∷ coded_rule CommentInData 0 ∷ []
unfolding name_labels
spf_found_row = refl

soa_found_row : found_alone (borrowed (wire apex) Rtype.soa (soa (codes "admin" ∷ [] ∷ []) bad_timers)) None ≡ coded_rule SoaMail 1 ∷ coded_rule SoaTimers 0 ∷ coded_rule SoaTimers 1 ∷ coded_rule SoaTimers 2 ∷ []
unfolding beyond_name name_labels
soa_found_row = refl

spf_term_row : broken (coded_rule Spf 0) Rtype.txt (text (codes "v=spf1 ip4:192.0.2.300 -all")) ≡ true
spf_term_row = refl

spf_right_row : broken (coded_rule Spf 0) Rtype.txt (text (codes "v=spf1 mx -all")) ≡ false
spf_right_row = refl

spf_two_strings_row : broken (coded_rule Spf 0) Rtype.txt (text (codes "v=spf1 ip4:192.0.2.1 inclu") ++ text (codes "de:b.net -all")) ≡ false
spf_two_strings_row = refl

spf_joined_row : broken (coded_rule Spf 0) Rtype.txt (text (codes "v=spf1 ip4:192.0.2.1 inclu") ++ text (codes "d:b.net -all")) ≡ true
spf_joined_row = refl

spf_cut_row : breaks_alone Spf 0 (wire apex) Rtype.txt (text (codes "v=spf1") ++ text (codes "-all")) (Some (from_text false (codes "-all\n"))) ≡ false
spf_cut_row = refl

spf_repeated_row : broken (coded_rule Spf 1) Rtype.txt (text (codes "v=spf1 redirect=a.b ") ++ text (codes "redirect=c.d")) ≡ true
spf_repeated_row = refl

spf_joint_row : broken (coded_rule Spf 2) Rtype.txt (text (codes "v=spf1 include:a.net") ++ text (codes "include:b.net -all")) ≡ true
spf_joint_row = refl

spf_joint_term_row : broken (coded_rule Spf 0) Rtype.txt (text (codes "v=spf1 include:a.net") ++ text (codes "include:b.net -all")) ≡ false
spf_joint_term_row = refl

spf_unused_row : broken (coded_rule SpfUnused 0) Rtype.txt (text (codes "v=spf1 -all mx")) ≡ true
spf_unused_row = refl

spf_used_row : broken (coded_rule SpfUnused 0) Rtype.txt (text (codes "v=spf1 mx -all")) ≡ false
spf_used_row = refl
