-- The results of the converters for a token.
use Rattle.std.specs.Prelude.{ℕ, List, [], ◌∷◌, ◌++◌, ◌≡◌, ◌<◌, ◌≤◌, ◌⊎◌, length, Bool, false, Option, Some, None, Result, Ok, Err, MatchResult}
use Rattle.dns_octets.specs.Room.{Room}
use Rattle.dns_symbol.specs.declared.symbol.Symbol.{Symbol}
use Rattle.dns_symbol.specs.declared.error.SymbolCharsError.{SymbolCharsError}
use Rattle.dns_symbol.specs.Symbol.{chars_error_text}
use Rattle.dns_symbol.specs.Text.{SymbolsOf}
use Rattle.dns_codec.specs.Base.{Base, base16, base32hex, base64, encoded}
use Rattle.dns_codec.specs.Group.{Group, fresh}
use Rattle.dns_codec.specs.Converting.{made, convert, convert_tail}
use Rattle.dns_symbol.specs.Cause.{Cause, custom_text, short_buf}
use Rattle.dns_scan.specs.Tokens.{Token}

-- a converter by its state: the octets of a symbol or the error's text, and the state after it; and those of the tail
pub record Codec : Type 1 where
  pub Held : Type 0
  pub start : Held
  pub step : Held → Symbol → Result (List ℕ) (List ℕ) × Held
  pub tail : Held → Result (List ℕ) (List ℕ)

-- continue with the octets that were produced, or return the error
abbrev pub then_made : Result (List ℕ) (List ℕ) → (List ℕ → Result (List ℕ) Cause) → Result (List ℕ) Cause
then_made (Ok octets) go = go octets
then_made (Err text) go = Err (custom_text text)

-- octets and those produced after them, or none for an error
abbrev pub then_more : Result (List ℕ) (List ℕ) → List ℕ → List ℕ
then_more (Ok octets) more = octets ++ more
then_more (Err text) more = []

module _ (codec : Codec) where
  -- what follows the symbols: the token's error, or else the tail's octets or error
  abbrev pub finished_symbols : codec.Held → List ℕ → Option SymbolCharsError → Result (List ℕ) Cause
  finished_symbols held built None = then_made (codec.tail held) (λ octets. Ok (built ++ octets))
  finished_symbols held built (Some e) = Err (custom_text (chars_error_text e))

  -- the octets of symbols, from a state and the octets before, or the first error
  abbrev pub converted_symbols : codec.Held → List ℕ → List Symbol → Option SymbolCharsError → Result (List ℕ) Cause
  converted_symbols held built [] error = finished_symbols held built error
  converted_symbols held built (x ∷ xs) error = then_made (codec.step held x).0 (λ octets. converted_symbols (codec.step held x).1 (built ++ octets) xs error)

  -- the result of a new converter for a token
  abbrev pub ConvertsTo : Token → Result (List ℕ) Cause → Type 0
  ConvertsTo token r = (symbols : List Symbol) × (error : Option SymbolCharsError) × SymbolsOf token symbols error × (converted_symbols codec.start [] symbols error ≡ r)

  -- the octets of symbols, and of the tail if nothing else follows, up to the first error
  abbrev pub made_of : codec.Held → List Symbol → Option SymbolCharsError → List ℕ
  made_of held [] None = made (codec.tail held)
  made_of held [] (Some e) = []
  made_of held (x ∷ xs) error = then_more (codec.step held x).0 (made_of (codec.step held x).1 xs error)

  -- the octets that a new converter produces for a token up to the first error
  abbrev pub MadeOf : Token → List ℕ → Type 0
  MadeOf token octets = (symbols : List Symbol) × (error : Option SymbolCharsError) × SymbolsOf token symbols error × (octets ≡ made_of codec.start symbols error)

  -- the result is what the token converts to, if its octets are within the capacity; or "short buffer", if they exceed the guaranteed one
  abbrev pub AnswersConverted : {O E : Type 0} → (E → Cause) → (O → List ℕ) → Room → Token → Result O E → Type 0
  AnswersConverted cause value room token r = (built : List ℕ) × MadeOf token built × MatchResult r
      (λ x. ConvertsTo token (Ok (value x)) × (length built ≤ room.capacity))
      (λ e. (ConvertsTo token (Err (cause e)) × (length built ≤ room.capacity)) ⊎ ((cause e ≡ short_buf) × (room.fits < length built)))

  -- the token is octets in that encoding, which print in upper case hex
  abbrev pub OctetsPrint : Token → List ℕ → Type 0
  OctetsPrint token text = (octets : List ℕ) × ConvertsTo token (Ok octets) × (text ≡ encoded base16 octets)

  -- the token isn't converted
  abbrev pub OctetsRefused : Token → Cause → Type 0
  OctetsRefused token why = ConvertsTo token (Err why)

-- the converter of an encoding holds the open group, and whether a character came within the padding
abbrev pub codec_of : Base → Codec
codec_of b = record {
  Held = Group × Bool;
  start = (fresh, false);
  step = λ held x. ((convert b held.0 held.1 x).answer, ((convert b held.0 held.1 x).group, (convert b held.0 held.1 x).failed));
  tail = λ held. (convert_tail b held.0 held.1).answer;
}

abbrev pub hex_codec : Codec
hex_codec = codec_of base16

abbrev pub base32hex_codec : Codec
base32hex_codec = codec_of base32hex

abbrev pub base64_codec : Codec
base64_codec = codec_of base64
