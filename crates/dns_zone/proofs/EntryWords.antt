-- The token of a field is a token of documents, so a line is a well-formed document.
use Rattle.std.proofs.Common.{◌≡◌, ℕ, zero, suc, ◌<◌, ◌-◌, ◌%◌, ◌^◌, Bool, true, List, [], ◌∷◌, ◌++◌, length, map, All, refl, sym, ap, ◌∙◌, arith, replicate, inl, inr}
use Rattle.std.specs.Prelude.{encode_utf8_all, slice_index, nat_lt, ◌&&◌}
use Rattle.std.specs.List.{AllByRecursion, list_all, flat_map}
use Rattle.std.specs.Fmt.{decimal}
use Rattle.std.proofs.lemmas.Bool.{and_parts}
use Rattle.std.proofs.lemmas.Bool.Decides.{nat_tests}
use Rattle.std.proofs.lemmas.Fmt.{decimal_is_IsNumeral}
use Rattle.std.proofs.lemmas.List.{length-map}
use Rattle.std.proofs.lemmas.List.Elements.{recursion_from_All}
use Rattle.std.proofs.lemmas.Str.{encode_ascii}
use Rattle.std.proofs.lemmas.Str.Parse.{digit_from_value}
use Rattle.std.specs.Str.Parse.{AllDigits}
use Rattle.dns_symbol.specs.declared.symbol.Symbol.TheVariants.{Char}
use Rattle.dns_symbol.specs.Symbol.{bytes, is_word_symbol}
use Rattle.dns_symbol.specs.Printed.{text_of, is_unquoted_escape}
use Rattle.dns_charstr.proofs.ReadBack.{is_a_word}
use Rattle.dns_codec.specs.Bits.{bits, joined, digits_from_bits, whole, digits}
use Rattle.dns_codec.specs.Base.{Base, base16, base64, digit_char, padded, encoded}
use Rattle.dns_codec.specs.Grammar.{Decodes}
use Rattle.dns_codec.proofs.RoundTrip.{encoded16-decodes, encoded64-decodes}
use Rattle.dns_codec.proofs.Unique.{one_value, no_mark16, no_mark64}
use Rattle.dns_lexer.specs.Token.{IsWord, IsToken}
use Rattle.dns_zone.specs.Layout.{end}
use Rattle.dns_zone.specs.Documents.{IsProper, IsWellFormed}
use Rattle.dns_zone.specs.EntryFields.{Content, number, hex_octets, base64_octets, text_octets, IsContent, IsPrintable, field_text}
use Rattle.dns_zone.specs.EntryLines.{AreContents, IsLine, field_step, line_document, line_nests}

-- an ASCII character that may be plain in a word
abbrev pub is_word_char : ℕ → Bool
is_word_char c = nat_lt c 128 && is_word_symbol (Char c)

plain_valid : (text : List ℕ) → list_all is_word_char text ≡ true → list_all is_word_symbol (map (λ c. Char c) text) ≡ true
plain_valid [] all = refl
plain_valid (c ∷ cs) all =
    let parts = and_parts (is_word_char c) (list_all is_word_char cs) all in
    rw ((and_parts (nat_lt c 128) (is_word_symbol (Char c)) parts.0).1, plain_valid cs parts.1) refl

-- the bytes of ASCII characters are they themselves
pub ascii_bytes : (t : ℕ → Bool) → ((c : ℕ) → t c ≡ true → c < 128) → (text : List ℕ) → list_all t text ≡ true → text ≡ flat_map bytes (map (λ c. Char c) text)
ascii_bytes t ascii [] all = refl
ascii_bytes t ascii (c ∷ cs) all =
    let parts = and_parts (t c) (list_all t cs) all in
    ap (λ l. c ∷ l) (ascii_bytes t ascii cs parts.1) ∙ ap (λ u. (u ++ []) ++ flat_map bytes (map (λ c. Char c) cs)) (sym (encode_ascii c (ascii c parts.0)))

word_char_low : (c : ℕ) → is_word_char c ≡ true → c < 128
word_char_low c h = let test = (and_parts (nat_lt c 128) (is_word_symbol (Char c)) h).0 in grind (arith, nat_tests)

-- some such characters are a word
pub plain_word : (text : List ℕ) → 0 < length text → list_all is_word_char text ≡ true → IsWord text
plain_word text some all = record {
  symbols = map (λ c. Char c) text;
  some = omega (arith, some, length-map text (λ c. Char c));
  valid = plain_valid text all;
  spelled = ascii_bytes is_word_char word_char_low text all;
}

-- ---- encodings

character_all : (t : ℕ → Bool) (xs : List ℕ) (k : ℕ) → list_all t xs ≡ true → t 0 ≡ true → t (slice_index xs k) ≡ true
character_all t [] k all zero_too = zero_too
character_all t (x ∷ xs) zero all zero_too = (and_parts (t x) (list_all t xs) all).0
character_all t (x ∷ xs) (suc k) all zero_too = character_all t xs k (and_parts (t x) (list_all t xs) all).1 zero_too

characters_all : (t : ℕ → Bool) (characters ps rest : List ℕ) → list_all t characters ≡ true → t 0 ≡ true → list_all t rest ≡ true → list_all t (map (slice_index characters) ps ++ rest) ≡ true
characters_all t characters [] rest all zero_too others = others
characters_all t characters (p ∷ ps) rest all zero_too others = rw (character_all t characters p all zero_too, characters_all t characters ps rest all zero_too others) refl

marks_all : (t : ℕ → Bool) → t 61 ≡ true → (n : ℕ) → list_all t (replicate n 61) ≡ true
marks_all t mark zero = refl
marks_all t mark (suc n) = rw (mark, marks_all t mark n) refl

-- what holds of an alphabet, and of the padding, holds of each character of a text
pub encoded_all : (t : ℕ → Bool) (b : Base) (octets : List ℕ) → list_all t b.alphabet ≡ true → t 0 ≡ true → t 61 ≡ true → list_all t (encoded b octets) ≡ true
unfolding encoded padded digit_char
encoded_all t b octets all zero_too mark =
    characters_all t b.alphabet (digits b.width octets) _ all zero_too (marks_all t mark ((b.unit - length (map (digit_char b) (digits b.width octets)) % b.unit) % b.unit))

-- octets that have a text of no characters are none
some_text : (b : Base) (text octets : List ℕ) → ((none xs ys : List ℕ) → Decodes b none xs → Decodes b none ys → xs ≡ ys) → Decodes b [] [] → Decodes b text octets → 0 < length octets
    → 0 < length text
some_text b [] octets once empty is some = absurd (omega (arith, some, ap length (once [] octets [] is empty)))
some_text b (c ∷ cs) octets once empty is some = omega arith

none16 : Decodes base16 [] []
unfolding bits joined digits_from_bits whole
none16 = record { chars = []; digits = []; valued = tt; count = refl; spelled = refl; value_is = refl }

none64 : Decodes base64 [] []
unfolding bits joined digits_from_bits whole
none64 = record { chars = []; digits = []; valued = tt; count = refl; spelled = refl; value_is = refl }

pub hex_word : (octets : List ℕ) → All (λ o. o < 256) octets → 0 < length octets → IsWord (encoded base16 octets)
hex_word octets all some =
    let d = encoded16-decodes octets (recursion_from_All (λ o. o < 256) octets all) in
    plain_word (encoded base16 octets) (some_text base16 (encoded base16 octets) octets (one_value base16 no_mark16) none16 d some) (encoded_all is_word_char base16 octets refl refl refl)

pub base64_word : (octets : List ℕ) → All (λ o. o < 256) octets → 0 < length octets → IsWord (encoded base64 octets)
base64_word octets all some =
    let d = encoded64-decodes octets (recursion_from_All (λ o. o < 256) octets all) in
    plain_word (encoded base64 octets) (some_text base64 (encoded base64 octets) octets (one_value base64 no_mark64) none64 d some) (encoded_all is_word_char base64 octets refl refl refl)

-- ---- numbers

digits_plain : (text : List ℕ) → AllDigits 10 text → list_all is_word_char text ≡ true
digits_plain [] all = refl
digits_plain (c ∷ cs) all = let range = digit_from_value c all.0 in let one : is_word_char c ≡ true = grind (arith, nat_tests) in rw (one, digits_plain cs all.1) refl

pub number_word : (n : ℕ) → n < 2 ^ 32 → IsWord (decimal n)
number_word n small = let numeral = (decimal_is_IsNumeral n (omega (arith, small))).0 in plain_word (decimal n) numeral.0 (digits_plain (decimal n) numeral.1)

-- ---- fields

pub text_word : (o : ℕ) (os : List ℕ) → All (λ o. o < 256) (o ∷ os) → IsWord (encode_utf8_all (text_of is_unquoted_escape (o ∷ os)))
text_word o os all =
    let word = is_a_word (o ∷ os) (omega arith) all in
    record { symbols = word.0; some = word.1; valid = word.2; spelled = word.3 }

pub field_token : (field : Content) → IsContent field → IsPrintable field → IsToken (field_text field)
field_token (number n) is can = inl (number_word n is)
field_token (hex_octets os) is can = inl (hex_word os is can)
field_token (base64_octets os) is can = inl (base64_word os is can)
field_token (text_octets []) is can = inr (record { symbols = []; valid = refl; spelled = refl })
field_token (text_octets (o ∷ os)) is can = inl (text_word o os is.0)

tokens_proper : (fields : List Content) → AreContents fields → IsLine fields → AllByRecursion IsProper (map field_step fields ++ end ∷ [])
tokens_proper [] is line = (tt, tt)
tokens_proper (field ∷ fields) is line = (field_token field is.0 line.0, tokens_proper fields is.1 line.1)

pub line_formed : (fields : List Content) → AreContents fields → IsLine fields → IsWellFormed (line_document fields)
line_formed fields is line = (line_nests fields, (tt, tokens_proper fields is line))
