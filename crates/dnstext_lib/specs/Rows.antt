-- Computed examples of the definitions.
use Rattle.std.specs.Char.{encode_utf8}
use Rattle.std.specs.Prelude.{false, ◌≡◌, [], ◌∷◌, Some, None, Err, codes, refl}
use Rattle.dns_symbol.specs.declared.symbol.Symbol.TheVariants.{Char, SimpleEscape, DecimalEscape}
use Rattle.dns_symbol.specs.declared.error.SymbolCharsError.TheVariants.{ShortInput}
use Rattle.dns_codec.specs.Bits.{bits, joined, digits_from_bits, whole}
use Rattle.dns_codec.specs.Group.{fresh}
use Rattle.dns_codec.specs.Base.{base16, value}
use Rattle.dns_codec.specs.Grammar.{IsEncodingOf}
use Rattle.dns_symbol.specs.Cause.{custom_text}
use Rattle.dns_zone.specs.EntryCodecs.{converted_symbols, made_of, hex_codec, base32hex_codec}

-- a simple escape counts as its character, and letter case doesn't matter
escaped : IsEncodingOf base16 (codes "Ca\\FE") (202 ∷ 254 ∷ [])
unfolding bits joined digits_from_bits whole value encode_utf8
escaped = record {
  symbols = Char 67 ∷ Char 97 ∷ SimpleEscape 70 ∷ Char 69 ∷ [];
  read = record { rest = []; readable = refl; spelled = refl; ends = refl };
  text = codes "CaFE";
  chars = refl;
  decodes = record { chars = codes "CaFE"; digits = 12 ∷ 10 ∷ 15 ∷ 14 ∷ []; valued = (refl, (refl, (refl, (refl, tt)))); count = refl; spelled = refl; value_is = refl };
}

-- a decimal escape has no character
no_character : converted_symbols hex_codec (fresh, false) [] (Char 67 ∷ Char 65 ∷ DecimalEscape 70 ∷ []) None ≡ Err (custom_text (codes "expected hex digits"))
unfolding bits joined digits_from_bits whole value
no_character = refl

-- what was produced before the error
before_refusal : made_of hex_codec (fresh, false) (Char 67 ∷ Char 65 ∷ Char 70 ∷ Char 71 ∷ Char 70 ∷ Char 70 ∷ []) None ≡ 202 ∷ []
unfolding bits joined digits_from_bits whole value
before_refusal = refl

-- the last group's octets, by the tail; and none if an error follows the symbols
by_tail : made_of base32hex_codec (fresh, false) (Char 67 ∷ Char 79 ∷ []) None ≡ codes "f"
unfolding bits joined digits_from_bits whole value
by_tail = refl

cut_off : made_of base32hex_codec (fresh, false) (Char 67 ∷ Char 79 ∷ []) (Some ShortInput) ≡ []
unfolding bits joined digits_from_bits whole value
cut_off = refl
