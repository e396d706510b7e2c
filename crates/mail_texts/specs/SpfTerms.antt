-- The terms of SPF records (RFC 7208 section 12).
use Rattle.std.specs.Prelude.{ℕ, ◌+◌, ◌-◌, ◌*◌, ◌==◌, ◌&&◌, ◌||◌, not, nat_le, if◌then◌else◌, suc, Bool, true, false, List, [], ◌∷◌, take, codes}
use Rattle.std.specs.Char.{is_ascii_alphabetic, is_ascii_alphanumeric, is_ascii_digit, is_ascii_hexdigit}
use Rattle.std.specs.List.{list_all, list_any}
use Rattle.std.specs.Option.{option_map_or}
use Rattle.dns_octets.specs.Lowered.{same_lowered}
use Rattle.mail_texts.specs.Macros.{is_domain_spec, is_macro_string, has_no_octets}
use Rattle.mail_texts.specs.declared.spf_use.TermTest.{TermTest}
use Rattle.mail_texts.specs.declared.spf_use.TermTest.TheVariants.{All, Redirect, Explanation, Directive}
use Rattle.mail_texts.specs.Parts.{is_pair, octets_after, octets_before, parts_between, passes_beyond}

-- a decimal number without leading zeros, of at most three digits, and up to a maximum
abbrev pub is_number_up_to : ℕ → List ℕ → Bool
is_number_up_to most (a ∷ []) = is_ascii_digit a && nat_le (a - 48) most
is_number_up_to most (a ∷ b ∷ []) = is_ascii_digit a && (not (a == 48) && (is_ascii_digit b && nat_le ((a - 48) * 10 + (b - 48)) most))
is_number_up_to most (a ∷ b ∷ c ∷ []) = is_ascii_digit a && (not (a == 48) && (is_ascii_digit b && (is_ascii_digit c && nat_le (((a - 48) * 10 + (b - 48)) * 10 + (c - 48)) most)))
is_number_up_to most _ = false

-- "/" and a number: ip4-cidr-length up to 32, ip6-cidr-length up to 128
abbrev pub is_cidr : ℕ → List ℕ → Bool
is_cidr most [] = false
is_cidr most (slash ∷ number) = slash == 47 && is_number_up_to most number

abbrev pub is_ip6_cidr : List ℕ → Bool
is_ip6_cidr octets = is_cidr 128 octets

-- dual-cidr-length = [ ip4-cidr-length ] [ "/" ip6-cidr-length ], not empty
abbrev pub is_dual_cidr : List ℕ → Bool
is_dual_cidr [] = false
is_dual_cidr (slash ∷ octets) = slash == 47 && (is_number_up_to 32 octets || (is_ip6_cidr octets || is_pair 47 (is_number_up_to 32) is_ip6_cidr octets))

-- the place of the dual-cidr-length with which octets end, or their end
abbrev pub suffix_place : List ℕ → ℕ
suffix_place [] = 0
suffix_place (o ∷ octets) = if is_dual_cidr (o ∷ octets) then 0 else suc (suffix_place octets)

-- domain-spec [ dual-cidr-length ]; a domain-spec never ends with a dual-cidr-length
abbrev pub is_target : List ℕ → Bool
is_target octets = is_domain_spec (take (suffix_place octets) octets)

-- a = "a" [ ":" domain-spec ] [ dual-cidr-length ], and mx likewise: what follows the name
abbrev pub has_host_arguments : List ℕ → Bool
has_host_arguments [] = true
has_host_arguments (o ∷ octets) = (o == 58 && is_target octets) || is_dual_cidr (o ∷ octets)

-- ip4-network = qnum "." qnum "." qnum "." qnum
abbrev pub is_ip4_network : List ℕ → Bool
is_ip4_network octets = is_pair 46 (is_number_up_to 255) (is_pair 46 (is_number_up_to 255) (is_pair 46 (is_number_up_to 255) (is_number_up_to 255))) octets

-- ip4-network [ ip4-cidr-length ]
abbrev pub has_ip4_arguments : List ℕ → Bool
has_ip4_arguments octets = is_ip4_network (octets_before 47 octets) && option_map_or (is_number_up_to 32) (octets_after 47 octets) true

-- the octets of an ip6-network (RFC 4291 section 2.2), whose form is not looked at
abbrev pub is_ip6_octet : ℕ → Bool
is_ip6_octet o = is_ascii_hexdigit o || (o == 58 || o == 46)

abbrev pub is_ip6_network : List ℕ → Bool
is_ip6_network octets = list_all is_ip6_octet octets && list_any (λ o. o == 58) octets

-- ip6-network [ ip6-cidr-length ]
abbrev pub has_ip6_arguments : List ℕ → Bool
has_ip6_arguments octets = is_ip6_network (octets_before 47 octets) && option_map_or (is_number_up_to 128) (octets_after 47 octets) true

-- ptr = "ptr" [ ":" domain-spec ]
abbrev pub is_host_mechanism : List ℕ → Bool
is_host_mechanism octets =
    passes_beyond (codes "a") has_host_arguments octets
    || (passes_beyond (codes "mx") has_host_arguments octets || (same_lowered octets (codes "ptr") || passes_beyond (codes "ptr:") is_domain_spec octets))

-- all = "all", include = "include" ":" domain-spec, exists = "exists" ":" domain-spec, ip4 = "ip4" ":" .., ip6 = "ip6" ":" ..
abbrev pub is_other_mechanism : List ℕ → Bool
is_other_mechanism octets =
    same_lowered octets (codes "all")
    || (passes_beyond (codes "include:") is_domain_spec octets
    || (passes_beyond (codes "exists:") is_domain_spec octets
    || (passes_beyond (codes "ip4:") has_ip4_arguments octets || passes_beyond (codes "ip6:") has_ip6_arguments octets)))

-- qualifier = "+" / "-" / "?" / "~"
abbrev pub beyond_qualifier : List ℕ → List ℕ
beyond_qualifier [] = []
beyond_qualifier (o ∷ octets) = if o == 43 || (o == 45 || (o == 63 || o == 126)) then octets else o ∷ octets

-- directive = [ qualifier ] mechanism
abbrev pub is_spf_directive : List ℕ → Bool
is_spf_directive octets = is_host_mechanism (beyond_qualifier octets) || is_other_mechanism (beyond_qualifier octets)

abbrev pub is_mechanism_name : List ℕ → Bool
is_mechanism_name name =
    same_lowered name (codes "all")
    || (same_lowered name (codes "include")
    || (same_lowered name (codes "a")
    || (same_lowered name (codes "mx")
    || (same_lowered name (codes "ptr") || (same_lowered name (codes "ip4") || (same_lowered name (codes "ip6") || same_lowered name (codes "exists")))))))

-- name = ALPHA *( ALPHA / DIGIT / "-" / "_" / "." ); one of a mechanism is taken for a mistake
abbrev pub is_name_octet : ℕ → Bool
is_name_octet o = is_ascii_alphanumeric o || (o == 45 || (o == 95 || o == 46))

abbrev pub is_modifier_name : List ℕ → Bool
is_modifier_name [] = false
is_modifier_name (o ∷ octets) = is_ascii_alphabetic o && (list_all is_name_octet octets && not (is_mechanism_name (o ∷ octets)))

-- redirect = "redirect" "=" domain-spec, explanation = "exp" "=" domain-spec
abbrev pub is_known_modifier : List ℕ → Bool
is_known_modifier name = same_lowered name (codes "redirect") || same_lowered name (codes "exp")

-- unknown-modifier = name "=" macro-string
abbrev pub is_value_of : (name value : List ℕ) → Bool
is_value_of name value = if is_known_modifier name then is_domain_spec value else is_macro_string value

abbrev pub is_spf_modifier : List ℕ → Bool
is_spf_modifier octets = is_modifier_name (octets_before 61 octets) && option_map_or (is_value_of (octets_before 61 octets)) (octets_after 61 octets) false

-- directive / modifier
abbrev pub is_spf_term : List ℕ → Bool
is_spf_term octets = is_spf_directive octets || is_spf_modifier octets

-- terms = *( 1*SP ( directive / modifier ) ), and *SP after them
abbrev pub is_spf_word : List ℕ → Bool
is_spf_word octets = has_no_octets octets || is_spf_term octets

abbrev pub are_spf_terms : List ℕ → Bool
are_spf_terms octets = list_all is_spf_word (parts_between 32 octets)

-- version = "v=spf1", which ends with the text or at a space (section 4.5)
abbrev pub ends_version : List ℕ → Bool
ends_version [] = true
ends_version (o ∷ octets) = o == 32

abbrev pub are_bad_spf_terms : List ℕ → Bool
are_bad_spf_terms octets = ends_version octets && not (are_spf_terms octets)

-- the text is an SPF record, and what follows its version is not terms
abbrev pub has_bad_spf_term : List ℕ → Bool
has_bad_spf_term text = passes_beyond (codes "v=spf1") are_bad_spf_terms text

-- the text is an SPF record
abbrev pub is_spf_text : List ℕ → Bool
is_spf_text text = passes_beyond (codes "v=spf1") ends_version text

-- ---- records whose terms are right

-- the mechanism all
abbrev pub is_all_term : List ℕ → Bool
is_all_term word = same_lowered (beyond_qualifier word) (codes "all")

-- the modifier with a name
abbrev pub is_value_of_any : List ℕ → Bool
is_value_of_any value = true

abbrev pub is_modifier_of : (name word : List ℕ) → Bool
is_modifier_of name word = is_pair 61 (λ octets. same_lowered octets name) is_value_of_any word

-- the test of a term by its name
abbrev pub passes_term : TermTest → List ℕ → Bool
passes_term All word = is_all_term word
passes_term Redirect word = is_modifier_of (codes "redirect") word
passes_term Explanation word = is_modifier_of (codes "exp") word
passes_term Directive word = is_spf_directive word

abbrev pub has_term : TermTest → List (List ℕ) → Bool
has_term test words = list_any (passes_term test) words

-- two words pass a test
abbrev pub has_two_terms : TermTest → List (List ℕ) → Bool
has_two_terms test [] = false
has_two_terms test (word ∷ words) = (passes_term test word && has_term test words) || has_two_terms test words

-- redirect and exp must not appear more than once each (section 6)
abbrev pub has_modifier_twice : List (List ℕ) → Bool
has_modifier_twice words = has_two_terms Redirect words || has_two_terms Explanation words

-- mechanisms after all are never tested (section 5.1)
abbrev pub has_mechanism_after_all : List (List ℕ) → Bool
has_mechanism_after_all [] = false
has_mechanism_after_all (word ∷ words) = if is_all_term word then has_term Directive words else has_mechanism_after_all words

-- redirect is ignored if all is anywhere in the record (section 6.1)
abbrev pub has_redirect_beside_all : List (List ℕ) → Bool
has_redirect_beside_all words = has_term All words && has_term Redirect words

-- terms that are right, and a test of them
abbrev pub have_repeated_modifier : List ℕ → Bool
have_repeated_modifier octets = ends_version octets && (are_spf_terms octets && has_modifier_twice (parts_between 32 octets))

-- the text is an SPF record with right terms, two of which are the same modifier
abbrev pub has_repeated_modifier : List ℕ → Bool
has_repeated_modifier text = passes_beyond (codes "v=spf1") have_repeated_modifier text

-- a mechanism after all, the first way, or redirect beside it
abbrev pub are_unused : (way : ℕ) → List (List ℕ) → Bool
are_unused way words = if way == 0 then has_mechanism_after_all words else has_redirect_beside_all words

abbrev pub have_unused_term : (way : ℕ) → List ℕ → Bool
have_unused_term way octets = ends_version octets && (are_spf_terms octets && are_unused way (parts_between 32 octets))

-- the text is an SPF record with right terms, one of which no receiver reaches
abbrev pub has_unused_term : (way : ℕ) → List ℕ → Bool
has_unused_term way text = passes_beyond (codes "v=spf1") (have_unused_term way) text
