-- Key records of DKIM (RFC 6376 section 3.6.1, RFC 8463 section 4).
use Rattle.std.specs.Prelude.{ℕ, ◌+◌, ◌-◌, ◌*◌, ◌/◌, ◌%◌, ◌==◌, ◌&&◌, ◌||◌, not, nat_lt, if◌then◌else◌, Bool, true, false, List, [], ◌∷◌, length, codes}
use Rattle.std.specs.Char.{is_ascii_alphanumeric, is_ascii_digit, is_ascii_lowercase, is_ascii_uppercase}
use Rattle.std.specs.List.{filter, list_all}
use Rattle.std.specs.Option.{option_map_or}
use Rattle.dns_octets.specs.Lowered.{same_lowered}
use Rattle.mail_texts.specs.Macros.{has_no_octets}
use Rattle.mail_texts.specs.Parts.{octets_after, octets_before}
use Rattle.mail_texts.specs.Tags.{first_value, has_tag, is_not_fws, is_tag_with, is_word_of, tag_parts}

-- ---- base 64 (RFC 4648 section 4)

abbrev pub is_digit64 : ℕ → Bool
is_digit64 o = is_ascii_alphanumeric o || (o == 43 || o == 47)

-- the value of a digit: A to Z, a to z, 0 to 9, "+", "/"
abbrev pub value64 : ℕ → ℕ
value64 o =
    if is_ascii_uppercase o then o - 65
    else if is_ascii_lowercase o then o - 71
    else if is_ascii_digit o then o + 4
    else if o == 43 then 62
    else 63

-- four digits are three octets; at the end three digits are two, and two digits one
abbrev pub octets_of64 : List ℕ → List ℕ
octets_of64 (a ∷ b ∷ c ∷ d ∷ digits) =
    (value64 a * 4 + value64 b / 16) ∷ ((value64 b % 16) * 16 + value64 c / 4) ∷ ((value64 c % 4) * 64 + value64 d) ∷ octets_of64 digits
octets_of64 (a ∷ b ∷ c ∷ []) = (value64 a * 4 + value64 b / 16) ∷ ((value64 b % 16) * 16 + value64 c / 4) ∷ []
octets_of64 (a ∷ b ∷ []) = (value64 a * 4 + value64 b / 16) ∷ []
octets_of64 digits = []

-- after groups of four digits one digit is left, which is no octet
abbrev pub has_lone_digit : List ℕ → Bool
has_lone_digit (a ∷ b ∷ c ∷ d ∷ digits) = has_lone_digit digits
has_lone_digit (a ∷ []) = true
has_lone_digit digits = false

-- at most two "="
abbrev pub is_padding : List ℕ → Bool
is_padding [] = true
is_padding (o ∷ []) = o == 61
is_padding octets = false

-- digits, and padding from the first "=" on
abbrev pub is_base64 : List ℕ → Bool
is_base64 octets = list_all is_digit64 (octets_before 61 octets) && option_map_or is_padding (octets_after 61 octets) true

-- ---- keys

-- FWS in base 64 is ignored
abbrev pub text_octet : ℕ → List ℕ
text_octet o = if is_not_fws o then o ∷ [] else []

abbrev pub without_fws : List ℕ → List ℕ
without_fws value = filter is_not_fws value

-- the length of DER, of one, two or three octets, is that of the octets after it, where all octets are as many
abbrev pub is_der_length : (first second third all : ℕ) → Bool
is_der_length first second third all =
    if nat_lt first 128 then first + 2 == all
    else if first == 129 then second + 3 == all
    else first == 130 && second * 256 + third + 4 == all

-- a SEQUENCE of DER, as RSA keys are, and nothing after it
abbrev pub is_whole_sequence : List ℕ → Bool
is_whole_sequence (tag ∷ first ∷ second ∷ third ∷ octets) = tag == 48 && is_der_length first second third (length (tag ∷ first ∷ second ∷ third ∷ octets))
is_whole_sequence octets = false

-- the type of the key, which is rsa without a tag k
abbrev pub is_key_kind : (kind value : List ℕ) → Bool
is_key_kind kind value = is_word_of (λ word. same_lowered word kind) value

abbrev pub has_kind : (kind : List ℕ) → (otherwise : Bool) → List (List ℕ) → Bool
has_kind kind otherwise parts = option_map_or (is_key_kind kind) (first_value (codes "k") parts) otherwise

-- base 64 has octets that are no key of its type: 4 for RSA, 5 for Ed25519
abbrev pub octets_fault : (is_rsa is_ed25519 : Bool) → List ℕ → ℕ
octets_fault is_rsa is_ed25519 octets =
    if is_rsa && not (is_whole_sequence octets) then 4
    else if is_ed25519 && not (length octets == 32) then 5
    else 0

-- the fault of a value of p, or 0: 2 if it is not base 64, 3 if a digit is left; an empty value revokes a key
abbrev pub key_value_fault : (is_rsa is_ed25519 : Bool) → List ℕ → ℕ
key_value_fault is_rsa is_ed25519 value =
    if not (is_base64 value) then 2
    else if has_lone_digit (octets_before 61 value) then 3
    else if has_no_octets value then 0
    else octets_fault is_rsa is_ed25519 (octets_of64 (octets_before 61 value))

-- the fault of the key, or 0: 1 if there is no tag p
abbrev pub key_fault : List (List ℕ) → ℕ
key_fault parts = option_map_or (λ value. key_value_fault (has_kind (codes "rsa") true parts) (has_kind (codes "ed25519") false parts) (without_fws value)) (first_value (codes "p") parts) 1

-- ---- records

abbrev pub names_version : List (List ℕ) → Bool
names_version parts = option_map_or (is_key_kind (codes "dkim1")) (first_value (codes "v") parts) false

-- v is DKIM1 in any letter case, or there is a tag p
abbrev pub is_key_record : List (List ℕ) → Bool
is_key_record parts = names_version parts || has_tag (codes "p") parts

-- "v=" %x44 %x4B %x49 %x4D %x31 is the first tag, if v is there
abbrev pub has_bad_version : List ℕ → Bool
has_bad_version text = has_tag (codes "v") (tag_parts text) && not (is_tag_with (codes "v") (codes "DKIM1") (octets_before 59 text))

-- a key record has a bad version, the first way, or the fault of a key
abbrev pub has_bad_dkim : (way : ℕ) → List ℕ → Bool
has_bad_dkim way text = is_key_record (tag_parts text) && (if way == 0 then has_bad_version text else key_fault (tag_parts text) == way)

-- it has any of them
abbrev pub has_any_bad_dkim : List ℕ → Bool
has_any_bad_dkim text = is_key_record (tag_parts text) && (has_bad_version text || not (key_fault (tag_parts text) == 0))
