-- Computed examples of the definitions.
use Rattle.std.specs.Prelude.{ℕ, ◌≡◌, List, [], ◌∷◌, length, map, Some, None, codes, refl}
use Rattle.std.proofs.Common.{ap, arith, lit≤, replicate}
use Rattle.std.specs.Char.{encode_utf8}
use Rattle.dns_symbol.specs.declared.symbol.Symbol.{Symbol}
use Rattle.dns_symbol.specs.declared.symbol.Symbol.TheVariants.{Char, DecimalEscape}
use Rattle.dns_symbol.specs.Text.{SymbolsOf}
use Rattle.dns_symbol.proofs.Unique.{symbols_same}
use Rattle.dns_codec.specs.Bits.{bits, joined, digits_from_bits, whole}
use Rattle.dns_codec.specs.Base.{value}
use Rattle.dns_scan.specs.Numbers.{plain_digit_of}
use Rattle.dns_scan.specs.Tokens.{Token}
use Rattle.custom_record.specs.Spellings.{IsDecimalOf, IsStringOf, IsSpellingOf, AreSpellingsOf}
use Rattle.custom_record.specs.Values.{number16, hex, long_text, string}

ten : IsDecimalOf 16 10 (codes "10")
unfolding encode_utf8
ten = (
  Char 49 ∷ Char 48 ∷ [],
  record { rest = []; readable = refl; spelled = refl; ends = refl },
  record { digits = 1 ∷ 0 ∷ []; plain = refl; value = refl; small = lit≤ tt },
)

-- the empty token is 0
nothing : IsDecimalOf 8 0 []
nothing = ([], record { rest = []; readable = refl; spelled = refl; ends = refl }, record { digits = []; plain = refl; value = refl; small = lit≤ tt })

-- a letter isn't a number
letter : SymbolsOf (codes "x") (Char 120 ∷ []) None
unfolding encode_utf8
letter = record { rest = []; readable = refl; spelled = refl; ends = refl }

no_digits : (symbols : List Symbol) (digits : List ℕ) → symbols ≡ Char 120 ∷ [] → map plain_digit_of symbols ≡ map Some digits → ⊥
no_digits symbols [] is plain = let e : map plain_digit_of symbols ≡ None ∷ [] = ap (map plain_digit_of) is in cc
no_digits symbols (d ∷ ds) is plain = let e : map plain_digit_of symbols ≡ None ∷ [] = ap (map plain_digit_of) is in cc

no_number : IsDecimalOf 16 0 (codes "x") → ⊥
no_number is = no_digits is.0 is.2.digits (symbols_same (codes "x") is.0 (Char 120 ∷ []) None None is.1 letter).0 is.2.plain

-- an escape denotes its octet
escaped : IsStringOf (codes "foop") (codes "foo\\112")
unfolding encode_utf8
escaped = (
  record { symbols = Char 102 ∷ Char 111 ∷ Char 111 ∷ DecimalEscape 112 ∷ []; read = record { rest = []; readable = refl; spelled = refl; ends = refl }; octets_are = refl },
  lit≤ tt,
)

-- 256 octets are a text of any length, and aren't a character string
a_text : IsSpellingOf (long_text (replicate 256 97)) (replicate 256 97 ∷ [])
unfolding encode_utf8
a_text = (
  replicate 256 97,
  refl,
  record { symbols = replicate 256 (Char 97); read = record { rest = []; readable = refl; spelled = refl; ends = refl }; octets_are = refl },
)

no_string : (t : Token) → IsStringOf (replicate 256 97) t → ⊥
no_string t is = let long : length {A = ℕ} (replicate 256 97) ≡ 256 = refl in omega (arith, is.1, long)

-- the text of an encoding may be cut into tokens, and letter case doesn't matter
in_two : IsSpellingOf (hex (202 ∷ 254 ∷ [])) (codes "Ca" ∷ codes "FE" ∷ [])
unfolding bits joined digits_from_bits whole value encode_utf8
in_two = record {
  symbols = Char 67 ∷ Char 97 ∷ Char 70 ∷ Char 69 ∷ [];
  read = record { rest = []; readable = refl; spelled = refl; ends = refl };
  text = codes "CaFE";
  chars = refl;
  decodes = record { chars = codes "CaFE"; digits = 12 ∷ 10 ∷ 15 ∷ 14 ∷ []; valued = (refl, (refl, (refl, (refl, tt)))); count = refl; spelled = refl; value_is = refl };
}

-- each field consumes its tokens, and the others remain
in_turn : AreSpellingsOf (number16 10 ∷ string (codes "foop") ∷ []) (codes "10" ∷ codes "foo\\112" ∷ codes "a" ∷ []) (codes "a" ∷ [])
in_turn = (codes "10" ∷ [], codes "foo\\112" ∷ codes "a" ∷ [], refl, (codes "10", refl, ten), (codes "foo\\112" ∷ [], codes "a" ∷ [], refl, (codes "foo\\112", refl, escaped), refl))
