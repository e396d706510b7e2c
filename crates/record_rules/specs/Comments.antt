-- A comment that begins where a word ends (RFC 1035 section 5.1).
use Rattle.std.specs.Prelude.{ℕ, ◌==◌, ◌&&◌, ◌||◌, Bool, true, false, List, [], ◌∷◌}
use Rattle.dns_symbol.specs.Characters.{backslash, semicolon}
use Rattle.dns_symbol.specs.Symbol.{is_word_char}

-- the characters of a word continue up to a semicolon; a first octet is escaped or not
abbrev pub reaches_comment : Bool → List ℕ → Bool
reaches_comment escaped [] = false
reaches_comment true (o ∷ octets) = reaches_comment false octets
reaches_comment false (o ∷ octets) = o == semicolon || (is_word_char o && reaches_comment (o == backslash) octets)

-- a text begins with a word without quotes, and a semicolon follows that at once
abbrev pub has_word_at_comment : List ℕ → Bool
has_word_at_comment [] = false
has_word_at_comment (o ∷ octets) = is_word_char o && reaches_comment (o == backslash) octets
