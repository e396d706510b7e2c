-- The values of CAA: the grammar of `issue` (RFC 8659 section 4.2), which `issuewild` (section 4.3), `issuemail` (RFC 9495 section 3) and `issuevmc` have too, and the URLs of `iodef` (section 4.4).
use Rattle.std.specs.Prelude.{ℕ, ◌-◌, ◌==◌, ◌&&◌, ◌||◌, not, nat_le, if◌then◌else◌, Bool, true, false, Option, Some, None, List, [], ◌∷◌, length, take, drop, slice_get, codes}
use Rattle.std.specs.Char.{is_ascii_alphanumeric}
use Rattle.std.specs.List.{list_all, position_or_len}
use Rattle.std.specs.Option.{option_map_or}
use Rattle.mail_texts.specs.Parts.{is_pair, octets_after, octets_before, parts_between, passes_beyond}

-- ---- words

-- WSP: a space or a tab (RFC 5234 appendix B.1)
abbrev pub is_wsp : ℕ → Bool
is_wsp o = o == 32 || o == 9

abbrev pub is_not_wsp : ℕ → Bool
is_not_wsp o = not (is_wsp o)

-- the octets from the first that is not WSP on
abbrev pub beyond_wsp : List ℕ → List ℕ
beyond_wsp octets = drop (position_or_len is_not_wsp octets) octets

-- the octets before the first WSP, and those from it on
abbrev pub leading_word : List ℕ → List ℕ
leading_word octets = take (position_or_len is_wsp octets) octets

abbrev pub beyond_word : List ℕ → List ℕ
beyond_word octets = drop (position_or_len is_wsp octets) octets

-- *WSP word *WSP, where the word has no WSP: the word, which may be empty
abbrev pub padded_word : List ℕ → Option (List ℕ)
padded_word octets = if list_all is_wsp (beyond_word (beyond_wsp octets)) then Some (leading_word (beyond_wsp octets)) else None

-- ---- the grammar of issue

-- ALPHA / DIGIT
abbrev pub is_alphanumeric_at : ℕ → List ℕ → Bool
is_alphanumeric_at place octets = option_map_or is_ascii_alphanumeric (slice_get octets place) false

-- ALPHA / DIGIT / "-"
abbrev pub is_tag_octet : ℕ → Bool
is_tag_octet o = is_ascii_alphanumeric o || o == 45

-- label and tag = (ALPHA / DIGIT) *( *("-") (ALPHA / DIGIT))
abbrev pub is_caa_label : List ℕ → Bool
is_caa_label label = list_all is_tag_octet label && (is_alphanumeric_at 0 label && is_alphanumeric_at (length label - 1) label)

-- issuer-domain-name = label *("." label)
abbrev pub is_issuer_name : List ℕ → Bool
is_issuer_name word = list_all is_caa_label (parts_between 46 word)

-- [issuer-domain-name]
abbrev pub is_issuer_word : List ℕ → Bool
is_issuer_word [] = true
is_issuer_word (o ∷ word) = is_issuer_name (o ∷ word)

-- *WSP [issuer-domain-name *WSP]
abbrev pub is_issuer : List ℕ → Bool
is_issuer part = option_map_or is_issuer_word (padded_word part) false

-- %x21-3A / %x3C-7E
abbrev pub is_value_octet : ℕ → Bool
is_value_octet o = nat_le 33 o && (nat_le o 126 && not (o == 59))

-- *WSP value *WSP, where value = *(%x21-3A / %x3C-7E)
abbrev pub is_parameter_value : List ℕ → Bool
is_parameter_value octets = option_map_or (list_all is_value_octet) (padded_word octets) false

-- *WSP tag *WSP
abbrev pub is_parameter_tag : List ℕ → Bool
is_parameter_tag octets = option_map_or is_caa_label (padded_word octets) false

-- *WSP parameter *WSP, where parameter = tag *WSP "=" *WSP value
abbrev pub is_parameter : List ℕ → Bool
is_parameter part = is_pair 61 is_parameter_tag is_parameter_value part

abbrev pub is_no_part : List (List ℕ) → Bool
is_no_part [] = true
is_no_part (part ∷ parts) = false

-- parameters between semicolons; the last part may be *WSP, as without parameters, and after a semicolon that ends them
abbrev pub are_parameters : List (List ℕ) → Bool
are_parameters [] = true
are_parameters (part ∷ parts) = (is_parameter part || (is_no_part parts && list_all is_wsp part)) && are_parameters parts

-- issue-value = *WSP [issuer-domain-name *WSP] [";" *WSP [parameters *WSP]]
abbrev pub is_issue_value : List ℕ → Bool
is_issue_value octets = is_issuer (octets_before 59 octets) && option_map_or (λ after. are_parameters (parts_between 59 after)) (octets_after 59 octets) true

-- ---- URLs of iodef

abbrev pub is_some_text : List ℕ → Bool
is_some_text [] = false
is_some_text (o ∷ octets) = true

-- some text, an at sign, and some text
abbrev pub is_mailbox : List ℕ → Bool
is_mailbox octets = is_pair 64 is_some_text is_some_text octets

-- a URL of the scheme mailto (RFC 6068)
abbrev pub is_mail_url : List ℕ → Bool
is_mail_url octets = passes_beyond (codes "mailto:") is_mailbox octets

-- a URL of a scheme that reports may have: mailto, http or https
abbrev pub is_report_url : List ℕ → Bool
is_report_url octets = is_mail_url octets || (passes_beyond (codes "http://") is_some_text octets || passes_beyond (codes "https://") is_some_text octets)
