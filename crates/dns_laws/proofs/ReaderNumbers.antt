-- Tokens that scanners parse as numbers, and those that spell numbers of RDATA.
use Rattle.std.proofs.Common.{ℕ, ◌≡◌, ◌≢◌, ◌+◌, ◌-◌, ◌*◌, ◌^◌, ◌<◌, ◌≤◌, Bool, true, false, List, [], ◌∷◌, ◌++◌, length, map, refl, sym, ap, subst, ◌∙◌, arith, append-nil, Some, None, Ok}
use Rattle.std.specs.Prelude.{if◌then◌else◌}
use Rattle.std.specs.List.{flat_map, list_all}
use Rattle.std.specs.Str.Parse.{AllDigits, digits_value}
use Rattle.std.proofs.lemmas.Bool.Decides.{nat_tests}
use Rattle.std.proofs.lemmas.List.{length-map}
use Rattle.std.proofs.lemmas.Nat.{pow_pos}
use Rattle.std.proofs.lemmas.Str.{digit_value_digit}
use Rattle.std.proofs.lemmas.Str.Parse.{digit_from_value, tells_digits, WeighsDigits, numerals_by_weight}
use Rattle.dns_symbol.specs.Symbol.{bytes, is_digit}
use Rattle.dns_symbol.specs.Text.{SymbolsOf}
use Rattle.dns_symbol.specs.declared.symbol.Symbol.{Symbol}
use Rattle.dns_symbol.specs.declared.symbol.Symbol.TheVariants.{Char, SimpleEscape, DecimalEscape}
use Rattle.dns_scan.specs.Numbers.{greatest, plain_digit_of, value_of}
use Rattle.dns_scan.specs.Reads.{NumberReads}
use Rattle.dns_scan.specs.Tokens.{Token}
use Rattle.rdata_values.specs.Numbers.{SpellsNumber}
use Rattle.rdata_fields.specs.Words.{SpellsAs, SpellsBelow}
use Rattle.dns_zone.proofs.EntryWords.{ascii_bytes}
use Rattle.dns_laws.specs.Readers.{ReadsWire}
use Rattle.dns_laws.proofs.Converted.{plain_symbols, is_plain, plain_read}

-- the digits of characters
abbrev digits_in : List ℕ → List ℕ
digits_in = map (λ c. c - 48)

-- ---- symbols that are digits

pub record DigitChar (x : Symbol) (d : ℕ) : Type 0 where
  pub character : ℕ
  pub is : x ≡ Char character
  pub low : 48 ≤ character
  pub high : character ≤ 57
  pub value : d ≡ character - 48

digit_char : (x : Symbol) (d : ℕ) → plain_digit_of x ≡ Some d → DigitChar x d
digit_char (Char c) d h = by_test (is_digit c) refl h
  where
    by_test : (b : Bool) → is_digit c ≡ b → (if b then Some (c - 48) else None) ≡ Some d → DigitChar (Char c) d
    by_test true e k = record { character = c; is = refl; low = grind (arith, nat_tests); high = grind (arith, nat_tests); value = cc }
    by_test false e k = absurd (cc)
digit_char (SimpleEscape o) d h = absurd (cc)
digit_char (DecimalEscape o) d h = absurd (cc)

pub record DigitChars (xs : List Symbol) (ds : List ℕ) : Type 0 where
  pub characters : List ℕ
  pub are : xs ≡ plain_symbols characters
  pub numeral : AllDigits 10 characters
  pub values : ds ≡ digits_in characters

digit_chars : (xs : List Symbol) (ds : List ℕ) → map plain_digit_of xs ≡ map Some ds → DigitChars xs ds
digit_chars [] [] h = record { characters = []; are = refl; numeral = tt; values = refl }
digit_chars [] (d ∷ ds) h = absurd (cc)
digit_chars (x ∷ xs) [] h = absurd (cc)
digit_chars (x ∷ xs) (d ∷ ds) h =
    let first : plain_digit_of x ≡ Some d = cc in
    let others : map plain_digit_of xs ≡ map Some ds = cc in
    let one = digit_char x d first in
    let more = digit_chars xs ds others in
    let same = digit_value_digit one.character (one.low, one.high) in
    let high = one.high in
    record {
      characters = one.character ∷ more.characters;
      are = λ i. one.is i ∷ more.are i;
      numeral = (omega (arith, same, high), more.numeral);
      values = λ i. one.value i ∷ more.values i;
    }

digits_plain : (text : List ℕ) → AllDigits 10 text → list_all is_plain text ≡ true
digits_plain [] all = refl
digits_plain (c ∷ cs) all = let range = digit_from_value c all.0 in let one : is_plain c ≡ true = grind (arith, nat_tests) in rw (one, digits_plain cs all.1) refl

symbols_are_digits : (text : List ℕ) → AllDigits 10 text → map plain_digit_of (plain_symbols text) ≡ map Some (digits_in text)
symbols_are_digits [] all = refl
symbols_are_digits (c ∷ cs) all =
    let range = digit_from_value c all.0 in
    let is : is_digit c ≡ true = grind (arith, nat_tests) in
    let one : plain_digit_of (Char c) ≡ Some (c - 48) = rw is refl in
    (λ i. one i ∷ symbols_are_digits cs all.1 i)

plain_low : (c : ℕ) → is_plain c ≡ true → c < 128
plain_low c h = grind (arith, nat_tests)

-- ---- their value

weighs : WeighsDigits (λ text. value_of (digits_in text))
weighs = record { empty = refl; more = λ c cs range. ap (λ n. (c - 48) * 10 ^ n + value_of (digits_in cs)) (length-map cs (λ x. x - 48)) }

values_same : (text : List ℕ) → AllDigits 10 text → value_of (digits_in text) ≡ digits_value 10 text
values_same text all = (numerals_by_weight (AllDigits 10) tells_digits (λ t. value_of (digits_in t)) weighs).same text all

some_length : (text : List ℕ) → text ≢ [] → 0 < length text
some_length [] some = absurd (some refl)
some_length (c ∷ cs) some = omega arith

module _ (limit : ℕ) (token : Token) (n : ℕ) where
  pub number_spelled : token ≢ [] → NumberReads limit token (Ok n) → SpellsNumber token n × (n ≤ limit)
  number_spelled some h =
      let number = h.reads.0 in
      let read : SymbolsOf token h.symbols None = subst (λ e. SymbolsOf token h.symbols e) h.reads.1 h.read in
      let chars = digit_chars h.symbols number.digits number.plain in
      let own : chars.characters ≡ flat_map bytes (plain_symbols chars.characters) = ascii_bytes is_plain plain_low chars.characters (digits_plain chars.characters chars.numeral) in
      let text : token ≡ chars.characters =
      read.spelled ∙ (λ i. flat_map bytes (chars.are i) ++ read.ends i) ∙ append-nil (flat_map bytes (plain_symbols chars.characters)) ∙ sym own in
      let all : AllDigits 10 token = subst (AllDigits 10) (sym text) chars.numeral in
      let value : n ≡ digits_value 10 token =
      number.value ∙ ap value_of (chars.values ∙ ap digits_in (sym text)) ∙ values_same token all in
      (((some_length token some, all), value), number.small)

  pub number_read : SpellsNumber token n → n ≤ limit → NumberReads limit token (Ok n)
  number_read h small = record {
    symbols = plain_symbols token;
    error = None;
    read = plain_read token (digits_plain token h.0.1);
    reads = (record { digits = digits_in token; plain = symbols_are_digits token h.0.1; value = h.1 ∙ sym (values_same token h.0.1); small = small }, refl);
  }

-- the empty token is a number for scanners
pub nothing_read : (limit : ℕ) → NumberReads limit [] (Ok 0)
nothing_read limit = record {
  symbols = [];
  error = None;
  read = record { rest = []; readable = refl; spelled = refl; ends = refl };
  reads = (record { digits = []; plain = refl; value = refl; small = omega arith }, refl);
}

-- ---- as fields of a number of bits

module _ (bits : ℕ) (wire : ℕ → List ℕ) (token : Token) (octets : List ℕ) where
  pub field_spelled : token ≢ [] → ReadsWire bits wire token octets → SpellsAs (λ n. n < 2 ^ bits) (SpellsBelow (2 ^ bits)) wire token octets
  field_spelled some h =
      let spelled = number_spelled (greatest bits) token h.0 some h.1 in
      let below : h.0 < 2 ^ bits = omega (arith, spelled.1, pow_pos bits) in
      (h.0, below, (spelled.0, below), h.2)

  pub field_read : SpellsAs (λ n. n < 2 ^ bits) (SpellsBelow (2 ^ bits)) wire token octets → ReadsWire bits wire token octets
  field_read h =
      let below = h.1 in
      (h.0, number_read (greatest bits) token h.0 h.2.0 (omega (arith, below)), h.3)
