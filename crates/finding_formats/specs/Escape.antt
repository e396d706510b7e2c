-- Octets as text formats escape them.
use Rattle.std.specs.Prelude.{ℕ, ◌+◌, ◌/◌, ◌%◌, ◌==◌, ◌||◌, ◌&&◌, nat_lt, nat_le, not, if◌then◌else◌, Bool, true, false, List, [], ◌∷◌, ◌++◌, codes}
use Rattle.std.specs.List.{flat_map}
use Rattle.std.specs.Fmt.{digit_glyph}
use Rattle.std.specs.Str.{is_utf8}
use Rattle.dns_symbol.specs.Characters.{backslash, carriage_return, double_quote, line_feed, space, tab}
use Rattle.finding_formats.specs.declared.escape.Context.{Context}
use Rattle.finding_formats.specs.declared.escape.Context.TheVariants.{Json, Xml, Github, GithubProperty, Uri}

-- `\DDD`
abbrev pub decimal_escape : ℕ → List ℕ
decimal_escape c = backslash ∷ (48 + c / 100 % 10) ∷ (48 + c / 10 % 10) ∷ (48 + c % 10) ∷ []

-- `%XX`
abbrev pub percent_escape : ℕ → List ℕ
percent_escape c = 37 ∷ digit_glyph true (c / 16 % 16) ∷ digit_glyph true (c % 16) ∷ []

-- not a control octet, and below 128 unless such octets are kept
abbrev pub is_text_octet : (keeps_high : Bool) → ℕ → Bool
is_text_octet keeps_high c = nat_le space c && (not (c == 127) && (nat_lt c 128 || keeps_high))

abbrev pub shown_or_escaped : (keeps_high : Bool) → ℕ → List ℕ
shown_or_escaped keeps_high c = if is_text_octet keeps_high c then c ∷ [] else decimal_escape c

-- a backslash before a double quote and a backslash; `\u00XX` for control octets; `\\DDD`, which a reader of JSON reads as `\DDD`, from 128 on
abbrev pub json_string_octet : (keeps_high : Bool) → ℕ → List ℕ
json_string_octet keeps_high c =
    if c == double_quote || c == backslash then backslash ∷ c ∷ []
    else if is_text_octet keeps_high c then c ∷ []
    else if nat_lt c 128 then codes "\\u00" ++ digit_glyph false (c / 16 % 16) ∷ digit_glyph false (c % 16) ∷ []
    else backslash ∷ decimal_escape c

abbrev pub xml_octet : (keeps_high : Bool) → ℕ → List ℕ
xml_octet keeps_high c =
    if c == 38 then codes "&amp;" else if c == 60 then codes "&lt;" else if c == 62 then codes "&gt;" else if c == double_quote then codes "&quot;"
    else if c == tab then codes "&#9;" else if c == line_feed then codes "&#10;" else if c == carriage_return then codes "&#13;"
    else shown_or_escaped keeps_high c

-- a percent sign, CR and LF; in a property also a colon and a comma
abbrev pub is_github_special : (is_property : Bool) → ℕ → Bool
is_github_special is_property c = (c == 37 || (c == carriage_return || c == line_feed)) || (is_property && (c == 58 || c == 44))

abbrev pub github_octet : (is_property keeps_high : Bool) → ℕ → List ℕ
github_octet is_property keeps_high c = if is_github_special is_property c then percent_escape c else shown_or_escaped keeps_high c

abbrev pub is_alphanumeric : ℕ → Bool
is_alphanumeric c = (nat_le 48 c && nat_le c 57) || ((nat_le 65 c && nat_le c 90) || (nat_le 97 c && nat_le c 122))

-- the unreserved characters of RFC 3986 section 2.3, and a slash
abbrev pub is_uri_octet : ℕ → Bool
is_uri_octet c = is_alphanumeric c || (c == 45 || (c == 46 || (c == 47 || (c == 95 || c == 126))))

abbrev pub uri_octet : ℕ → List ℕ
uri_octet c = if is_uri_octet c then c ∷ [] else percent_escape c

abbrev pub escaped_octet : Context → (keeps_high : Bool) → ℕ → List ℕ
escaped_octet Json keeps_high c = json_string_octet keeps_high c
escaped_octet Xml keeps_high c = xml_octet keeps_high c
escaped_octet Github keeps_high c = github_octet false keeps_high c
escaped_octet GithubProperty keeps_high c = github_octet true keeps_high c
escaped_octet Uri keeps_high c = uri_octet c

-- U+FFFE and U+FFFF in UTF-8
abbrev pub begins_noncharacter : List ℕ → Bool
begins_noncharacter (a ∷ b ∷ c ∷ cs) = a == 239 && (b == 191 && nat_le 190 c)
begins_noncharacter _ = false

abbrev pub has_noncharacter : List ℕ → Bool
has_noncharacter [] = false
has_noncharacter (c ∷ cs) = has_noncharacter cs || begins_noncharacter (c ∷ cs)

-- a text keeps its octets from 128 on if it is UTF-8, without the noncharacters that XML can't have
abbrev pub keeps_high : List ℕ → Bool
keeps_high octets = is_utf8 octets && not (has_noncharacter octets)

abbrev pub escaped : Context → List ℕ → List ℕ
escaped context octets = flat_map (escaped_octet context (keeps_high octets)) octets
