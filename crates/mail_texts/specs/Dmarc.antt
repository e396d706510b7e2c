-- DMARC records (RFC 7489 section 6.3; np, psd and t are of DMARCbis).
use Rattle.std.specs.Prelude.{ℕ, ◌==◌, ◌&&◌, ◌||◌, not, if◌then◌else◌, Bool, true, false, List, [], ◌∷◌, codes}
use Rattle.std.specs.Char.{is_ascii_alphabetic, is_ascii_alphanumeric, is_ascii_digit}
use Rattle.std.specs.List.{list_all, list_any}
use Rattle.dns_octets.specs.Lowered.{same_lowered}
use Rattle.mail_texts.specs.Macros.{has_no_octets}
use Rattle.mail_texts.specs.Parts.{is_pair, octets_before, parts_between, passes_beyond}
use Rattle.mail_texts.specs.declared.dmarc.WordTest.{WordTest}
use Rattle.mail_texts.specs.declared.dmarc.WordTest.TheVariants.{Policy, Alignment, Testing, SuffixMark, Percentage, Number, ReportOption}
use Rattle.mail_texts.specs.Tags.{beyond_fws, has_part_without_value, has_tag, has_tag_twice, is_exactly, is_failing_tag, is_fws, is_tag_with, is_word_of, tag_parts}

abbrev pub passes_any : List ℕ → Bool
passes_any octets = true

-- a text begins with the tag v and a value that begins with DMARC1, both in any letter case
abbrev pub is_v : List ℕ → Bool
is_v [] = false
is_v (o ∷ octets) = (o == 118 || o == 86) && list_all is_fws octets

abbrev pub begins_dmarc1 : List ℕ → Bool
begins_dmarc1 value = passes_beyond (codes "dmarc1") passes_any (beyond_fws value)

abbrev pub is_version_part : List ℕ → Bool
is_version_part part = is_pair 61 is_v begins_dmarc1 part

abbrev pub begins_dmarc : List ℕ → Bool
begins_dmarc text = is_version_part (octets_before 59 text)

-- dmarc-version = "v" *WSP "=" *WSP %x44 %x4d %x41 %x52 %x43 %x31, the first tag
abbrev pub has_version : List ℕ → Bool
has_version text = is_tag_with (codes "v") (codes "DMARC1") (octets_before 59 text)

-- ---- values

-- p, sp, np: "none" / "quarantine" / "reject"
abbrev pub is_policy_tag : List ℕ → Bool
is_policy_tag name = is_exactly (codes "p") name || (is_exactly (codes "sp") name || is_exactly (codes "np") name)

abbrev pub is_policy : List ℕ → Bool
is_policy word = same_lowered word (codes "none") || (same_lowered word (codes "quarantine") || same_lowered word (codes "reject"))

-- adkim, aspf: "r" / "s"
abbrev pub is_alignment_tag : List ℕ → Bool
is_alignment_tag name = is_exactly (codes "adkim") name || is_exactly (codes "aspf") name

abbrev pub is_alignment : List ℕ → Bool
is_alignment word = same_lowered word (codes "r") || same_lowered word (codes "s")

-- t: "y" / "n"
abbrev pub is_testing : List ℕ → Bool
is_testing word = same_lowered word (codes "y") || same_lowered word (codes "n")

-- psd: "y" / "n" / "u"
abbrev pub is_suffix_mark : List ℕ → Bool
is_suffix_mark word = is_testing word || same_lowered word (codes "u")

-- pct: 1*3DIGIT, up to 100
abbrev pub is_percentage : List ℕ → Bool
is_percentage (a ∷ []) = is_ascii_digit a
is_percentage (a ∷ b ∷ []) = is_ascii_digit a && is_ascii_digit b
is_percentage (a ∷ b ∷ c ∷ []) = (a == 48 && (is_ascii_digit b && is_ascii_digit c)) || (a == 49 && (b == 48 && c == 48))
is_percentage word = false

-- ri: 1*DIGIT
abbrev pub is_some_number : List ℕ → Bool
is_some_number word = not (has_no_octets word) && list_all is_ascii_digit word

-- fo: "0", "1", "d", "s" with colons between them
abbrev pub is_option : List ℕ → Bool
is_option (o ∷ []) = o == 48 || (o == 49 || (o == 100 || (o == 68 || (o == 115 || o == 83))))
is_option word = false

-- the test of a word by its name
abbrev pub passes_word : WordTest → List ℕ → Bool
passes_word Policy word = is_policy word
passes_word Alignment word = is_alignment word
passes_word Testing word = is_testing word
passes_word SuffixMark word = is_suffix_mark word
passes_word Percentage word = is_percentage word
passes_word Number word = is_some_number word
passes_word ReportOption word = is_option word

abbrev pub is_option_part : List ℕ → Bool
is_option_part part = is_word_of is_option part

abbrev pub are_options : List ℕ → Bool
are_options value = list_all is_option_part (parts_between 58 value)

-- a tag is not one of these, or its value is right
abbrev pub is_right_value : (name value : List ℕ) → Bool
is_right_value name value =
    if is_policy_tag name then is_word_of is_policy value
    else if is_alignment_tag name then is_word_of is_alignment value
    else if is_exactly (codes "t") name then is_word_of is_testing value
    else if is_exactly (codes "psd") name then is_word_of is_suffix_mark value
    else if is_exactly (codes "pct") name then is_word_of is_percentage value
    else if is_exactly (codes "ri") name then is_word_of is_some_number value
    else if is_exactly (codes "fo") name then are_options value
    else true

-- ---- URIs of reports

-- scheme = ALPHA *( ALPHA / DIGIT / "+" / "-" / "." ) (RFC 3986 section 3.1)
abbrev pub is_scheme_octet : ℕ → Bool
is_scheme_octet o = is_ascii_alphanumeric o || (o == 43 || (o == 45 || o == 46))

abbrev pub is_scheme : List ℕ → Bool
is_scheme [] = false
is_scheme (o ∷ octets) = is_ascii_alphabetic o && list_all is_scheme_octet octets

abbrev pub has_text : List ℕ → Bool
has_text octets = not (list_all is_fws octets)

-- a scheme, a colon and text
abbrev pub is_report_uri : List ℕ → Bool
is_report_uri part = is_pair 58 is_scheme has_text (beyond_fws part)

-- rua, ruf: URIs with commas between them
abbrev pub are_report_uris : List ℕ → Bool
are_report_uris value = list_all is_report_uri (parts_between 44 value)

abbrev pub is_report_tag : List ℕ → Bool
is_report_tag name = is_exactly (codes "rua") name || is_exactly (codes "ruf") name

abbrev pub has_right_uris : (name value : List ℕ) → Bool
has_right_uris name value = if is_report_tag name then are_report_uris value else true

-- ---- records

-- neither p nor rua, so receivers apply no policy (section 6.6.3)
abbrev pub lacks_policy : List (List ℕ) → Bool
lacks_policy parts = not (has_tag (codes "p") parts) && not (has_tag (codes "rua") parts)

-- what is wrong after the version
abbrev pub has_bad_tags : (way : ℕ) → List (List ℕ) → Bool
has_bad_tags way parts =
    if way == 1 then has_part_without_value parts
    else if way == 2 then has_tag_twice parts
    else if way == 3 then list_any (is_failing_tag is_right_value) parts
    else if way == 4 then list_any (is_failing_tag has_right_uris) parts
    else if way == 5 then lacks_policy parts
    else false

-- a text that begins so has another version as its first tag; or a tag without a value, a tag twice, a tag with another value, a URI without a scheme, neither p nor rua
abbrev pub has_bad_dmarc : (way : ℕ) → List ℕ → Bool
has_bad_dmarc way text = begins_dmarc text && (if way == 0 then not (has_version text) else (has_version text && has_bad_tags way (tag_parts text)))
