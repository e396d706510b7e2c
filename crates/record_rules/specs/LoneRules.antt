-- The rules: when a record alone breaks each.
use Rattle.std.specs.Prelude.{ℕ, ◌+◌, ◌==◌, ◌&&◌, ◌||◌, not, nat_le, nat_lt, if◌then◌else◌, Bool, true, false, Option, Some, None, List, [], ◌∷◌, drop, slice_get, codes}
use Rattle.std.specs.Char.{is_ascii_uppercase}
use Rattle.std.specs.Int.{from_be_bytes, w32}
use Rattle.std.specs.List.{list_any}
use Rattle.std.specs.Option.{option_map_or}
use Rattle.dns_octets.specs.Lowered.{same_lowered}
use Rattle.dns_wire.specs.Order.{same_name}
use Rattle.finding_codes.specs.declared.code.Code.{Code}
use Rattle.finding_codes.specs.declared.code.Code.TheVariants.{SpfType, NaptrRegexp, NaptrBoth, CaaTag, SoaMail, SoaTimers, ReverseName, WildcardInside, TargetAddress, TxtWords, CommentInData, PtrDot, TlsaField, CaaValue, Spf, SpfUnused, Dmarc, Dkim}
use Rattle.finding_codes.specs.declared.rule.Rule.{Rule}
use Rattle.rdata_values.specs.Rtype as Rtype
use Rattle.rdata_values.specs.declared.types.RecordType.{RecordType}
use Rattle.rdata_fields.specs.declared.record_ref.RecordRef.{RecordRef}
use Rattle.mail_texts.specs.Joined.{text_of_strings, joint_index}
use Rattle.mail_texts.specs.SpfTerms.{has_bad_spf_term, has_repeated_modifier, has_unused_term, is_spf_text}
use Rattle.record_rules.specs.CaaValues.{is_issue_value, is_report_url}
use Rattle.record_rules.specs.Comments.{has_word_at_comment}
use Rattle.record_rules.specs.Labels.{begins_underscore, beyond_name, beyond_string, ends_in_name, has_at_sign, is_asterisk, is_divided_below, is_nibble_label, is_octet_label, beyond_passing, name_labels, leading_string}
use Rattle.record_rules.specs.MailTexts.{has_bad_key, has_bad_policy, is_key_owner, is_policy_owner, is_short_text}
use Rattle.record_rules.specs.Substitutions.{is_substitution}
use Rattle.record_rules.specs.declared.written.Written.{Written}

abbrev pub is_nil_list : {A : Type 0} → List A → Bool
is_nil_list [] = true
is_nil_list (x ∷ xs) = false

-- ---- NAPTR (RFC 3403 section 4.1): two numbers, flags, services, a substitution expression, a replacement

abbrev pub after_services : List ℕ → List ℕ
after_services octets = beyond_string (beyond_string (drop 4 octets))

-- the substitution expression is neither empty nor one of RFC 3402 section 3.2
abbrev pub has_bad_expression : List ℕ → Bool
has_bad_expression octets = not (is_nil_list (leading_string (after_services octets))) && not (is_substitution (leading_string (after_services octets)))

-- there are a substitution expression and a replacement other than the root
abbrev pub has_two_results : List ℕ → Bool
has_two_results octets = not (is_nil_list (leading_string (after_services octets))) && not (is_nil_list (name_labels (beyond_string (after_services octets))))

-- ---- CAA (RFC 8659 section 4.1): flags, a tag, a value

abbrev pub caa_tag : List ℕ → List ℕ
caa_tag octets = leading_string (drop 1 octets)

-- issue, issuewild and iodef (RFC 8659 section 4), issuemail (RFC 9495), and those of the CA/Browser Forum
abbrev pub is_known_tag : List ℕ → Bool
is_known_tag tag =
    same_lowered tag (codes "issue")
    || (same_lowered tag (codes "issuewild")
    || (same_lowered tag (codes "issuemail")
    || (same_lowered tag (codes "issuevmc")
    || (same_lowered tag (codes "iodef")
    || (same_lowered tag (codes "contactemail")
    || same_lowered tag (codes "contactphone"))))))

-- the flag that stops issuance if the tag is not known, the highest bit (RFC 8659 section 4.1)
abbrev pub is_critical : List ℕ → Bool
is_critical octets = option_map_or (nat_le 128) (slice_get octets 0) false

abbrev pub has_capital : List ℕ → Bool
has_capital octets = list_any is_ascii_uppercase octets

abbrev pub has_unknown_tag : List ℕ → Bool
has_unknown_tag octets = not (is_known_tag (caa_tag octets)) && not (is_critical octets)

abbrev pub has_critical_tag : List ℕ → Bool
has_critical_tag octets = not (is_known_tag (caa_tag octets)) && is_critical octets

abbrev pub has_capital_tag : List ℕ → Bool
has_capital_tag octets = is_known_tag (caa_tag octets) && has_capital (caa_tag octets)

-- the value
abbrev pub caa_value : List ℕ → List ℕ
caa_value octets = beyond_string (drop 1 octets)

-- the tags whose value names an issuer (RFC 8659 sections 4.2 and 4.3, RFC 9495)
abbrev pub is_issue_tag : List ℕ → Bool
is_issue_tag tag = same_lowered tag (codes "issue") || (same_lowered tag (codes "issuewild") || (same_lowered tag (codes "issuemail") || same_lowered tag (codes "issuevmc")))

-- the value of such a tag is not one of the grammar; that of iodef is not a URL of mailto, http or https (section 4.4)
abbrev pub has_bad_issuer : List ℕ → Bool
has_bad_issuer octets = is_issue_tag (caa_tag octets) && not (is_issue_value (caa_value octets))

abbrev pub has_bad_report : List ℕ → Bool
has_bad_report octets = same_lowered (caa_tag octets) (codes "iodef") && not (is_report_url (caa_value octets))

-- a flag that is not assigned: all but the highest bit (section 4.1)
abbrev pub has_unknown_flags : List ℕ → Bool
has_unknown_flags octets = option_map_or (λ flags. not (flags == 0) && not (flags == 128)) (slice_get octets 0) false

abbrev pub has_bad_value : (way : ℕ) → List ℕ → Bool
has_bad_value way octets = if way == 0 then has_bad_issuer octets else if way == 1 then has_bad_report octets else has_unknown_flags octets

-- ---- TLSA (RFC 6698 section 2.1) and SMIMEA (RFC 8162 section 2): a certificate usage, a selector, a matching type, data

abbrev pub is_association_type : RecordType → Bool
is_association_type rtype = rtype == Rtype.tlsa || rtype == Rtype.smimea

-- the octet at an offset is above the greatest that is assigned, and not 255, which is for private use
abbrev pub has_unassigned : (offset greatest : ℕ) → List ℕ → Bool
has_unassigned offset greatest octets = option_map_or (λ o. nat_lt greatest o && not (o == 255)) (slice_get octets offset) false

-- usages are assigned up to 3, selectors up to 1, matching types up to 2 (RFC 6698 sections 7.2 to 7.4)
abbrev pub has_bad_association : (way : ℕ) → List ℕ → Bool
has_bad_association way octets = if way == 0 then has_unassigned 0 3 octets else if way == 1 then has_unassigned 1 1 octets else has_unassigned 2 2 octets

-- ---- SOA (RFC 1035 section 3.3.13): two names, a serial, refresh, retry, expire, minimum

-- the labels of the mail name
abbrev pub soa_mail : List ℕ → List (List ℕ)
soa_mail octets = name_labels (beyond_name octets)

-- a mailbox is written with a dot for its `@` (RFC 1035 section 8)
abbrev pub has_mail_sign : List ℕ → Bool
has_mail_sign octets = list_any has_at_sign (soa_mail octets)

-- one label other than `invalid.` (RFC 9432 section 4.1), which names a mailbox but not its host
abbrev pub is_one_mail_label : List (List ℕ) → Bool
is_one_mail_label (label ∷ []) = not (has_at_sign label) && not (same_lowered label (codes "invalid"))
is_one_mail_label labels = false

-- the number in the first four octets
abbrev pub leading_number : List ℕ → Option ℕ
leading_number (a ∷ b ∷ c ∷ d ∷ octets) = Some (from_be_bytes w32 (a ∷ b ∷ c ∷ d ∷ []))
leading_number octets = None

-- the number at an offset after the names
abbrev pub soa_number : ℕ → List ℕ → Option ℕ
soa_number offset octets = leading_number (drop offset (beyond_name (beyond_name octets)))

abbrev pub soa_refresh : List ℕ → Option ℕ
soa_refresh = soa_number 4

abbrev pub soa_retry : List ℕ → Option ℕ
soa_retry = soa_number 8

abbrev pub soa_expire : List ℕ → Option ℕ
soa_expire = soa_number 12

abbrev pub soa_minimum : List ℕ → Option ℕ
soa_minimum = soa_number 16

-- two numbers are known, and pass a test
abbrev pub pass_both : (ℕ → ℕ → Bool) → Option ℕ → Option ℕ → Bool
pass_both test a b = option_map_or (λ m. option_map_or (test m) b false) a false

-- retry is not below refresh (RFC 1912 section 2.2)
abbrev pub has_late_retry : List ℕ → Bool
has_late_retry octets = pass_both nat_le (soa_refresh octets) (soa_retry octets)

-- expire is below the sum of refresh and retry
abbrev pub has_early_expire : List ℕ → Bool
has_early_expire octets = option_map_or (λ expire. pass_both (λ refresh retry. nat_lt expire (refresh + retry)) (soa_refresh octets) (soa_retry octets)) (soa_expire octets) false

-- minimum, the TTL of negative answers (RFC 2308 section 5), is above one day
abbrev pub has_long_minimum : List ℕ → Bool
has_long_minimum octets = option_map_or (nat_lt 86400) (soa_minimum octets) false

-- ---- names

-- the tops of the reverse trees (RFC 1035 section 3.5, RFC 3596 section 2.5)
abbrev pub in_addr_top : List (List ℕ)
in_addr_top = codes "in-addr" ∷ codes "arpa" ∷ []

abbrev pub ip6_top : List (List ℕ)
ip6_top = codes "ip6" ∷ codes "arpa" ∷ []

-- a number of labels that pass a test, and the top of the tree
abbrev pub is_address_name : (List ℕ → Bool) → ℕ → List (List ℕ) → List (List ℕ) → Bool
is_address_name test count top labels = option_map_or (λ rest. same_name rest top) (beyond_passing test count labels) false

-- a wildcard, or below a label with a slash or a hyphen
abbrev pub is_free_in_tree : List (List ℕ) → List (List ℕ) → Bool
is_free_in_tree top [] = false
is_free_in_tree top (label ∷ labels) = is_asterisk label || is_divided_below labels top

-- a name below the top of a tree is not the name of an address
abbrev pub is_bad_in_tree : (List ℕ → Bool) → ℕ → List (List ℕ) → List (List ℕ) → Bool
is_bad_in_tree test count top labels = ends_in_name (drop 1 labels) top && (not (is_address_name test count top labels) && not (is_free_in_tree top labels))

-- four numbers for IPv4, 32 hexadecimal digits for IPv6
abbrev pub is_bad_reverse : List (List ℕ) → Bool
is_bad_reverse labels = is_bad_in_tree is_octet_label 4 in_addr_top labels || is_bad_in_tree is_nibble_label 32 ip6_top labels

-- a name below `in-addr.arpa` or `ip6.arpa`
abbrev pub is_below_reverse : List (List ℕ) → Bool
is_below_reverse labels = ends_in_name (drop 1 labels) in_addr_top || ends_in_name (drop 1 labels) ip6_top

-- the owner and the target of a PTR are in a reverse tree, where only addresses have names of hosts (RFC 1035 section 3.5); services are named there too (RFC 6763)
abbrev pub lacks_final_dot : List (List ℕ) → List (List ℕ) → Bool
lacks_final_dot owner target = is_below_reverse owner && (is_below_reverse target && not (list_any begins_underscore owner))

-- an asterisk after the first label (RFC 4592 section 2.1.1)
abbrev pub has_inner_asterisk : List (List ℕ) → Bool
has_inner_asterisk labels = list_any is_asterisk (drop 1 labels)

-- the number of octets before the name of a host or the target of an alias
abbrev pub target_offset : RecordType → Option ℕ
target_offset rtype =
    if rtype == Rtype.ns then Some 0
    else if rtype == Rtype.cname then Some 0
    else if rtype == Rtype.ptr then Some 0
    else if rtype == Rtype.mx then Some 2
    else if rtype == Rtype.afsdb then Some 2
    else if rtype == Rtype.rt then Some 2
    else if rtype == Rtype.kx then Some 2
    else if rtype == Rtype.svcb then Some 2
    else if rtype == Rtype.https then Some 2
    else if rtype == Rtype.srv then Some 6
    else None

-- nothing, or the owner or a name above it, as after a relative name; below `arpa.` numbers begin names of other records
abbrev pub is_origin_of : List (List ℕ) → List (List ℕ) → Bool
is_origin_of owner rest = is_nil_list rest || (ends_in_name owner rest && not (ends_in_name rest (codes "arpa" ∷ [])))

-- the labels of an IPv4 address, and no others or those of such an origin
abbrev pub is_address_target : List (List ℕ) → List (List ℕ) → Bool
is_address_target owner labels = option_map_or (is_origin_of owner) (beyond_passing is_octet_label 4 labels) false

abbrev pub has_address_target : List ℕ → RecordType → List ℕ → Bool
has_address_target owner rtype octets = option_map_or (λ offset. is_address_target (name_labels owner) (name_labels (drop offset octets))) (target_offset rtype) false

-- ---- text

-- a string begins with `v=`, as the first of SPF (RFC 7208 section 4.5), DKIM and DMARC do
abbrev pub begins_version : List ℕ → Bool
begins_version (v ∷ equals ∷ octets) = (v == 118 || v == 86) && equals == 61
begins_version octets = false

-- the first string begins so, and another string follows
abbrev pub has_version_words : List ℕ → Bool
has_version_words octets = begins_version (leading_string octets) && not (is_nil_list (beyond_string octets))

-- the first string begins with "v=s", as all SPF records do
abbrev pub begins_spf : List ℕ → Bool
begins_spf (count ∷ v ∷ equals ∷ s ∷ octets) = (v == 118 || v == 86) && (equals == 61 && (s == 115 || s == 83))
begins_spf octets = false

-- strings are joined between terms without a blank
abbrev pub has_joint : List ℕ → Bool
has_joint octets = option_map_or (λ index. true) (joint_index octets) false

-- an SPF record with a malformed term, with a modifier that is repeated, or of strings that are joined without a blank
abbrev pub is_bad_spf_text : (way : ℕ) → List ℕ → Bool
is_bad_spf_text way text = if way == 0 then has_bad_spf_term text else has_repeated_modifier text

abbrev pub has_bad_spf : (way : ℕ) → List ℕ → Bool
has_bad_spf way octets =
    is_short_text octets
    && (if way == 2 then (has_joint octets && is_spf_text (text_of_strings octets)) else (not (has_joint octets) && is_bad_spf_text way (text_of_strings octets)))

-- an SPF record with a term that no receiver reaches
abbrev pub has_unused_spf : (way : ℕ) → List ℕ → Bool
has_unused_spf way octets = is_short_text octets && (not (has_joint octets) && has_unused_term way (text_of_strings octets))

-- a comment begins in the text, or its words are joined without blanks, so it is not the text that was meant
abbrev pub is_cut_text : List ℕ → Option Written → Bool
is_cut_text octets text = option_map_or (λ w. has_word_at_comment w.last.now) text false || (option_map_or (λ w. not w.has_quotes) text false && has_version_words octets)

-- TXT, SPF and CAA, whose strings often have semicolons
abbrev pub is_text_type : RecordType → Bool
is_text_type rtype = rtype == Rtype.txt || (rtype == Rtype.spf || rtype == Rtype.caa)

-- ---- all rules

-- the ways of rules with more than one
abbrev pub has_bad_tag : (way : ℕ) → List ℕ → Bool
has_bad_tag way octets = if way == 0 then has_unknown_tag octets else if way == 1 then has_critical_tag octets else has_capital_tag octets

abbrev pub has_bad_mail : (way : ℕ) → List ℕ → Bool
has_bad_mail way octets = if way == 0 then has_mail_sign octets else is_one_mail_label (soa_mail octets)

abbrev pub has_bad_timer : (way : ℕ) → List ℕ → Bool
has_bad_timer way octets = if way == 0 then has_late_retry octets else if way == 1 then has_early_expire octets else has_long_minimum octets

-- whether a record with this owner, type and RDATA breaks a rule; some depend on how its RDATA was written, if that is known
abbrev pub breaks_alone : Code → (way : ℕ) → List ℕ → RecordType → List ℕ → Option Written → Bool
breaks_alone SpfType way owner rtype octets text = rtype == Rtype.spf
breaks_alone NaptrRegexp way owner rtype octets text = rtype == Rtype.naptr && has_bad_expression octets
breaks_alone NaptrBoth way owner rtype octets text = rtype == Rtype.naptr && has_two_results octets
breaks_alone CaaTag way owner rtype octets text = rtype == Rtype.caa && has_bad_tag way octets
breaks_alone SoaMail way owner rtype octets text = rtype == Rtype.soa && has_bad_mail way octets
breaks_alone SoaTimers way owner rtype octets text = rtype == Rtype.soa && has_bad_timer way octets
breaks_alone ReverseName way owner rtype octets text = rtype == Rtype.ptr && is_bad_reverse (name_labels owner)
breaks_alone WildcardInside way owner rtype octets text = has_inner_asterisk (name_labels owner)
breaks_alone TargetAddress way owner rtype octets text = has_address_target owner rtype octets
breaks_alone TxtWords way owner rtype octets text = rtype == Rtype.txt && (option_map_or (λ w. not w.has_quotes) text false && has_version_words octets)
breaks_alone CommentInData way owner rtype octets text = is_text_type rtype && option_map_or (λ w. has_word_at_comment w.last.now) text false
breaks_alone PtrDot way owner rtype octets text = rtype == Rtype.ptr && lacks_final_dot (name_labels owner) (name_labels octets)
breaks_alone TlsaField way owner rtype octets text = is_association_type rtype && has_bad_association way octets
breaks_alone CaaValue way owner rtype octets text = rtype == Rtype.caa && (has_bad_value way octets && not (option_map_or (λ w. has_word_at_comment w.last.now) text false))
breaks_alone Spf way owner rtype octets text = rtype == Rtype.txt && (begins_spf octets && (not (is_cut_text octets text) && has_bad_spf way octets))
breaks_alone SpfUnused way owner rtype octets text = rtype == Rtype.txt && (begins_spf octets && (not (is_cut_text octets text) && has_unused_spf way octets))
breaks_alone Dmarc way owner rtype octets text = rtype == Rtype.txt && (is_policy_owner (name_labels owner) && (not (is_cut_text octets text) && has_bad_policy way octets))
breaks_alone Dkim way owner rtype octets text = rtype == Rtype.txt && (is_key_owner (name_labels owner) && (not (is_cut_text octets text) && has_bad_key way octets))
breaks_alone _ way owner rtype octets text = false

-- the same, of a record whose octets are borrowed
abbrev pub breaks_record_rule : RecordRef → Option Written → Rule → Bool
breaks_record_rule r text rule = breaks_alone rule.code rule.way r.owner.now r.rtype r.data.now text
