-- The document of parts: it is well-formed, and one entry whose tokens hold the texts of the values.
use Rattle.std.proofs.Common.{ℕ, ◌≡◌, ◌<◌, Bool, true, false, List, [], ◌∷◌, ◌++◌, map, refl, sym, ap, ◌∙◌, arith, inl, inr}
use Rattle.std.specs.Prelude.{All, encode_utf8_all, if◌then◌else◌}
use Rattle.std.specs.Fmt.{decimal}
use Rattle.std.specs.List.{list_all, AllByRecursion}
use Rattle.std.proofs.lemmas.Bool.{and_parts}
use Rattle.std.proofs.lemmas.Bool.Decides.{nat_tests}
use Rattle.std.proofs.lemmas.Str.{encode_ascii}
use Rattle.dns_symbol.specs.Symbol.{is_printable}
use Rattle.dns_symbol.specs.Printed.{symbol_of, is_quoted_escape}
use Rattle.dns_symbol.specs.declared.symbol.Symbol.TheVariants.{Char, SimpleEscape, DecimalEscape}
use Rattle.dns_symbol.proofs.PrintedForms.{printed_bytes}
use Rattle.std.proofs.lemmas.List.Elements.{All-head, All-tail}
use Rattle.dns_charstr.specs.Printed.{quoted_text}
use Rattle.dns_charstr.proofs.ReadBack.{quotes}
use Rattle.dns_codec.specs.Base.{base16, base64, encoded}
use Rattle.dns_zone.specs.EntryFields.{field_text, text_octets}
use Rattle.dns_zone.proofs.EntryWords.{number_word, hex_word, base64_word, text_word}
use Rattle.dns_lexer.specs.Lexeme.{is_note_char, is_quote_symbol}
use Rattle.dns_lexer.specs.Splitting.{with_token}
use Rattle.dns_lexer.specs.Token.{IsToken, IsQuote}
use Rattle.dns_scan.specs.Octets.{quoted_token, unquoted_token}
use Rattle.dns_scan.specs.Tokens.{Token}
use Rattle.dns_zone.specs.Documents.{IsWellFormed, IsCommentText, IsProper}
use Rattle.dns_zone.specs.Nesting.{is_nested}
use Rattle.dns_laws.specs.Entries.{document_entries}
use Rattle.dns_wire.specs.Wire.{EndsInRoot}
use Rattle.dns_wire.specs.ZoneText.{zone_text}
use Rattle.dns_laws.proofs.ZoneNames.{zone_word}
use Rattle.dns_iter.specs.Contents.{HasContent, HaveContents}
use Rattle.custom_record.specs.Parts.{Part, field, unquoted, note, opens, closes, value_token, steps_of, values_of, is_plain, IsLaidOut}
use Rattle.custom_record.specs.Values.{Value, number8, number16, number32, name, hex, base64_octets, string, listed, long_text, IsValue, IsText, AreValues, AreTexts}

-- ---- tokens and comments

quote_symbol : (o : ℕ) → o < 256 → is_quote_symbol (symbol_of is_quoted_escape o) ≡ true
quote_symbol o small = by (is_printable o) (is_quoted_escape o) refl refl
  where
    by : (p e : Bool) → is_printable o ≡ p → is_quoted_escape o ≡ e → is_quote_symbol (if p then (if e then SimpleEscape o else Char o) else DecimalEscape o) ≡ true
    by true true h k = Prim.grind (arith, nat_tests)
    by true false h k = Prim.grind (arith, nat_tests)
    by false e h k = Prim.grind (arith, nat_tests)

quote_symbols : (s : List ℕ) → All (λ o. o < 256) s → list_all is_quote_symbol (map (symbol_of is_quoted_escape) s) ≡ true
quote_symbols [] h = refl
quote_symbols (o ∷ os) h = rw (quote_symbol o (All-head (λ b. b < 256) o os h), quote_symbols os (All-tail (λ b. b < 256) o os h)) refl

-- the quoted form of some octets
string_quote : (s : List ℕ) → All (λ o. o < 256) s → IsQuote (encode_utf8_all (quoted_text s))
string_quote s h = record {
  symbols = map (symbol_of is_quoted_escape) s;
  valid = quote_symbols s h;
  spelled = quotes s ∙ ap (λ l. 34 ∷ (l ++ 34 ∷ [])) (printed_bytes is_quoted_escape s);
}

has_root : (labels : List (List ℕ)) → EndsInRoot labels → labels ≡ [] → ⊥
has_root labels (front, e) none = by front (sym none ∙ e)
  where
    by : (f : List (List ℕ)) → [] ≡ f ++ [] ∷ [] → ⊥
    by [] h = cc
    by (x ∷ xs) h = cc

-- what a value's token holds
held : Value → Token
held (number8 n) = decimal n
held (number16 n) = decimal n
held (number32 n) = decimal n
held (name labels) = zone_text labels
held (hex octets) = encoded base16 octets
held (base64_octets octets) = encoded base64 octets
held (string octets) = quoted_token octets
held (listed octets) = quoted_token octets
held (long_text octets) = quoted_token octets

value_content : (v : Value) → IsValue v → HasContent (value_token v) (held v)
unfolding held string_quote
value_content (number8 n) is = inl (number_word n (omega (arith, is)), refl)
value_content (number16 n) is = inl (number_word n (omega (arith, is)), refl)
value_content (number32 n) is = inl (number_word n is, refl)
value_content (name labels) is = inl (zone_word labels (has_root labels is.1) is.2, refl)
value_content (hex octets) is = inl (hex_word octets is.0 is.1, refl)
value_content (base64_octets octets) is = inl (base64_word octets is.0 is.1, refl)
value_content (string octets) is = inr (string_quote octets is.0, printed_bytes is_quoted_escape octets)
value_content (listed octets) is = inr (string_quote octets is.0, printed_bytes is_quoted_escape octets)
value_content (long_text octets) is = inr (string_quote octets is, printed_bytes is_quoted_escape octets)

value_text : (v : Value) → IsText v (held v)
unfolding held
value_text (number8 n) = refl
value_text (number16 n) = refl
value_text (number32 n) = refl
value_text (name labels) = refl
value_text (hex octets) = refl
value_text (base64_octets octets) = refl
value_text (string octets) = inr refl
value_text (listed octets) = inr refl
value_text (long_text octets) = inr refl

unquoted_content : (octets : List ℕ) → All (λ o. o < 256) octets → HasContent (field_text (text_octets octets)) (unquoted_token octets)
unquoted_content [] all = inr (record { symbols = []; valid = refl; spelled = refl }, refl)
unquoted_content (o ∷ os) all = inl (text_word o os all, refl)

is_token : (token content : List ℕ) → HasContent token content → IsToken token
is_token token content (inl h) = inl h.0
is_token token content (inr h) = inr h.0

note_plain : (text : List ℕ) → list_all is_printable text ≡ true → list_all is_note_char text ≡ true
note_plain [] h = refl
note_plain (c ∷ cs) h =
    let parts = and_parts (is_printable c) (list_all is_printable cs) h in
    rw (one c parts.0, note_plain cs parts.1) refl
  where
    one : (c : ℕ) → is_printable c ≡ true → is_note_char c ≡ true
    one c k = Prim.grind (arith, nat_tests)

note_low : (c : ℕ) → is_printable c ≡ true → c < 128
note_low c h = Prim.grind (arith, nat_tests)

note_bytes : (text : List ℕ) → list_all is_printable text ≡ true → encode_utf8_all text ≡ text
note_bytes [] h = refl
note_bytes (c ∷ cs) h =
    let parts = and_parts (is_printable c) (list_all is_printable cs) h in
    λ i. encode_ascii c (note_low c parts.0) i ++ note_bytes cs parts.1 i

note_comment : (text : List ℕ) → list_all is_printable text ≡ true → IsCommentText text
note_comment text h = record { characters = text; plain = note_plain text h; spelled = note_bytes text h }

-- ---- the document

parts_proper : (ps : List Part) → AreValues (values_of ps) → list_all is_plain ps ≡ true → AllByRecursion IsProper (steps_of ps)
parts_proper [] is plain = tt
parts_proper (opens ∷ ps) is plain = (tt, parts_proper ps is plain)
parts_proper (closes ∷ ps) is plain = (tt, parts_proper ps is plain)
parts_proper (note text ∷ ps) is plain = let parts = and_parts (list_all is_printable text) (list_all is_plain ps) plain in (note_comment text parts.0, parts_proper ps is parts.1)
parts_proper (field v ∷ ps) is plain = (is_token (value_token v) (held v) (value_content v is.0), parts_proper ps is.1 plain)
parts_proper (unquoted os ∷ ps) is plain = (is_token (field_text (text_octets os)) (unquoted_token os) (unquoted_content os is.0.0), parts_proper ps is.1 plain)

pub parts_formed : (ps : List Part) → AreValues (values_of ps) → IsLaidOut ps → IsWellFormed (steps_of ps)
parts_formed ps is laid = let parts = and_parts (is_nested 0 (steps_of ps)) (list_all is_plain ps) laid in (parts.0, parts_proper ps is parts.1)

-- the tokens, and what they hold
pub tokens_of : List Part → List Token
tokens_of [] = []
tokens_of (field v ∷ ps) = value_token v ∷ tokens_of ps
tokens_of (unquoted os ∷ ps) = field_text (text_octets os) ∷ tokens_of ps
tokens_of (note text ∷ ps) = tokens_of ps
tokens_of (opens ∷ ps) = tokens_of ps
tokens_of (closes ∷ ps) = tokens_of ps

pub held_of : List Part → List Token
held_of [] = []
held_of (field v ∷ ps) = held v ∷ held_of ps
held_of (unquoted os ∷ ps) = unquoted_token os ∷ held_of ps
held_of (note text ∷ ps) = held_of ps
held_of (opens ∷ ps) = held_of ps
held_of (closes ∷ ps) = held_of ps

pub parts_entry : (ps : List Part) → document_entries (steps_of ps) ≡ tokens_of ps ∷ []
unfolding tokens_of
parts_entry [] = refl
parts_entry (field v ∷ ps) = ap (with_token (value_token v)) (parts_entry ps)
parts_entry (unquoted os ∷ ps) = ap (with_token (field_text (text_octets os))) (parts_entry ps)
parts_entry (note text ∷ ps) = parts_entry ps
parts_entry (opens ∷ ps) = parts_entry ps
parts_entry (closes ∷ ps) = parts_entry ps

pub parts_contents : (ps : List Part) → AreValues (values_of ps) → HaveContents (tokens_of ps) (held_of ps)
unfolding tokens_of held_of
parts_contents [] is = tt
parts_contents (field v ∷ ps) is = (value_content v is.0, parts_contents ps is.1)
parts_contents (unquoted os ∷ ps) is = (unquoted_content os is.0.0, parts_contents ps is.1)
parts_contents (note text ∷ ps) is = parts_contents ps is
parts_contents (opens ∷ ps) is = parts_contents ps is
parts_contents (closes ∷ ps) is = parts_contents ps is

pub parts_texts : (ps : List Part) → AreTexts (values_of ps) (held_of ps) []
unfolding held_of
parts_texts [] = refl
parts_texts (field v ∷ ps) = (value_text v, parts_texts ps)
parts_texts (unquoted os ∷ ps) = (inl refl, parts_texts ps)
parts_texts (note text ∷ ps) = parts_texts ps
parts_texts (opens ∷ ps) = parts_texts ps
parts_texts (closes ∷ ps) = parts_texts ps
