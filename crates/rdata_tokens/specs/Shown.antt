-- Octets between double quotes, and tags, as they print.
use Rattle.std.specs.Prelude.{ℕ, List, [], ◌∷◌, ◌++◌, drop}
use Rattle.dns_symbol.specs.Characters.{double_quote}
use Rattle.dns_symbol.specs.Printed.{text_of, is_quoted_escape}
use Rattle.rdata_tokens.specs.declared.quoted.QuotedOctets.{QuotedOctets}
use Rattle.rdata_tokens.specs.declared.tags.TagText.{TagText}

-- between the quotes the double quote and the backslash have a backslash before them, other octets from 0x20 to 0x7E are as they are, and all others are a backslash and three digits
abbrev pub text_in_quotes : List ℕ → List ℕ
text_in_quotes = text_of is_quoted_escape

abbrev pub octets_in_quotes : List ℕ → List ℕ
octets_in_quotes octets = double_quote ∷ (text_in_quotes octets ++ double_quote ∷ [])

-- the text of a character string in wire format, without its length octet
abbrev pub string_in_quotes : List ℕ → List ℕ
string_in_quotes form = text_in_quotes (drop 1 form)

-- the text of a tag in wire format
abbrev pub tag_text : List ℕ → List ℕ
tag_text form = drop 1 form

-- the octets that each display type shows
abbrev pub quoted_shown : QuotedOctets → List ℕ
quoted_shown shown = shown.0.now

abbrev pub tag_shown : TagText → List ℕ
tag_shown shown = shown.0.now
