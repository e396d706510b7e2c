-- The result of parsing the text of an encoding.
use Rattle.std.specs.Prelude.{ℕ, List, [], ◌∷◌, ◌++◌, ◌≡◌, ◌<◌, ◌≤◌, ◌⊎◌, ◌%◌, length, map, Option, Some, None, Result, Ok, Err, IfOk, IsErr, IsOk, MatchResult}
use Rattle.std.specs.List.{AllByRecursion, concat}
use Rattle.dns_octets.specs.Room.{Room}
use Rattle.dns_symbol.specs.Cause.{Cause, custom_text, short_buf}
use Rattle.dns_symbol.specs.Symbol.{char_of, chars_error_text}
use Rattle.dns_symbol.specs.Text.{SymbolsOf}
use Rattle.dns_symbol.specs.declared.symbol.Symbol.{Symbol}
use Rattle.dns_symbol.specs.declared.error.SymbolCharsError.{SymbolCharsError}
use Rattle.dns_codec.specs.Base.{Base, encoded}
use Rattle.dns_codec.specs.Grammar.{Decodes, IsEncodingOf}
use Rattle.dns_scan.specs.Join.{IsJoin, IsSymbols}
use Rattle.dns_scan.specs.Octets.{ReturnsWhere}
use Rattle.dns_scan.specs.Tokens.{Token}
use Rattle.dns_zone.specs.EntryCodecs.{Codec, ConvertsTo}

-- a token converts to these octets, and to nothing else
abbrev pub ConvertsOnlyTo : Codec → Token → List ℕ → Type 0
ConvertsOnlyTo codec token octets = (r : Result (List ℕ) Cause) → ConvertsTo codec token r → r ≡ Ok octets

-- a text of the encoding begins with these characters
abbrev pub BeginsEncoding : Base → List ℕ → Type 0
BeginsEncoding b text = (rest : List ℕ) × (octets : List ℕ) × Decodes b (text ++ rest) octets

-- the characters are a text of the encoding, and `=` ends it
abbrev pub IsPaddedText : Base → List ℕ → Type 0
IsPaddedText b text = (front : List ℕ) × (octets : List ℕ) × (text ≡ front ++ 61 ∷ []) × Decodes b text octets

-- the octets of all whole groups of characters
pub record HasGroups (b : Base) (text octets : List ℕ) : Type 0 where
  pub groups : List ℕ
  pub others : List ℕ
  pub parts : text ≡ groups ++ others
  pub even : length groups % b.group ≡ 0
  pub few : length others < b.group
  pub value : Decodes b groups octets

-- why what follows these characters is rejected: a symbol, an invalid escape, or the end
abbrev pub IsRefusedAfter : Base → List ℕ → List Symbol → Option SymbolCharsError → Cause → Type 0
IsRefusedAfter b text (x ∷ xs) error why =
    (IsPaddedText b text × IsOk (char_of x) × (why ≡ custom_text b.trailing)) ⊎ ((IsPaddedText b text → IsErr (char_of x)) × (why ≡ custom_text b.illegal))
IsRefusedAfter b text [] (Some e) why = why ≡ custom_text (chars_error_text e)
IsRefusedAfter b text [] None why = ((octets : List ℕ) → Decodes b text octets → ⊥) × (why ≡ custom_text b.incomplete)

-- symbols, and the error after them, aren't a text of the encoding: their longest prefix that
-- begins one, the octets of its whole groups, and why what follows is rejected
pub record NoEncoding (b : Base) (symbols : List Symbol) (error : Option SymbolCharsError) (made : List ℕ) (why : Cause) : Type 0 where
  pub front : List Symbol
  pub rest : List Symbol
  pub text : List ℕ
  pub parts : symbols ≡ front ++ rest
  pub chars : map char_of front ≡ map Ok text
  pub begins : BeginsEncoding b text
  pub longest : (longer others : List Symbol) (more : List ℕ) → symbols ≡ longer ++ others → map char_of longer ≡ map Ok more → BeginsEncoding b more → length longer ≤ length front
  pub groups : HasGroups b text made
  pub refusal : IsRefusedAfter b text rest error why

-- the result of symbols and the error after them: the octets of a text of the encoding; or the
-- error, and the octets before it
abbrev pub ReadsEncoding : Base → List Symbol → Option SymbolCharsError → (made : List ℕ) → Result (List ℕ) Cause → Type 0
ReadsEncoding b symbols error made (Ok octets) = (made ≡ octets) × (error ≡ None) × ((text : List ℕ) × (map char_of symbols ≡ map Ok text) × Decodes b text octets)
ReadsEncoding b symbols error made (Err why) = NoEncoding b symbols error made why

-- r is the result of parsing a token, if the octets are within the maximum capacity; or "short
-- buffer", if they exceed the guaranteed capacity
pub record AnswersEncoding {O E : Type 0} (b : Base) (cause : E → Cause) (value : O → List ℕ) (room : Room) (token : Token) (r : Result O E) : Type 0 where
  pub symbols : List Symbol
  pub error : Option SymbolCharsError
  pub read : SymbolsOf token symbols error
  pub made : List ℕ
  pub found : Result (List ℕ) Cause
  pub reads : ReadsEncoding b symbols error made found
  pub answer : MatchResult r (λ x. (found ≡ Ok (value x)) × (length made ≤ room.capacity))
      (λ e. ((found ≡ Err (cause e)) × (length made ≤ room.capacity)) ⊎ ((cause e ≡ short_buf) × (room.fits < length made)))

-- r is the result of parsing a token that is a text of an encoding: its octets, if they fit
pub record EncodingBack {O E : Type 0} (b : Base) (cause : E → Cause) (value : O → List ℕ) (room : Room) (token : Token) (r : Result O E) : Type 0 where
  -- of any text of the encoding
  pub whole : (octets : List ℕ) → IsEncodingOf b token octets → ReturnsWhere cause value room octets r
  -- of the text that octets are printed as
  pub back : (octets : List ℕ) → AllByRecursion (λ o. o < 256) octets → token ≡ encoded b octets → ReturnsWhere cause value room octets r
  -- and else an error, with its cause
  pub answer : AnswersEncoding b cause value room token r
  -- no other token is accepted
  pub only : IfOk r (λ o. IsEncodingOf b token (value o))

-- r is the result of parsing all remaining tokens, whose join is a text of an encoding
pub record EntryBack {O E : Type 0} (b : Base) (cause : E → Cause) (value : O → List ℕ) (room : Room) (tokens : List Token) (r : Result O E) : Type 0 where
  -- of any text of the encoding, cut into tokens anywhere
  pub whole : (octets : List ℕ) → AllByRecursion IsSymbols tokens → IsEncodingOf b (concat tokens) octets → ReturnsWhere cause value room octets r
  -- of the text that octets are printed as
  pub back : (octets : List ℕ) → AllByRecursion (λ o. o < 256) octets → concat tokens ≡ encoded b octets → ReturnsWhere cause value room octets r
  -- and else the error of the join as one token
  pub answer : (text : List ℕ) → IsJoin tokens text → AnswersEncoding b cause value room text r
  -- no other tokens are accepted
  pub only : IfOk r (λ o. IsEncodingOf b (concat tokens) (value o))
