-- No text of a value is the marker of unknown RDATA.
use Rattle.std.proofs.Common.{ℕ, ◌≡◌, ◌<◌, ◌^◌, Bool, true, false, List, [], ◌∷◌, ◌++◌, map, refl, sym, ap, subst, ◌∙◌, arith, inl, inr, Option, Some, None, Ok}
use Rattle.std.specs.Prelude.{All, if◌then◌else◌}
use Rattle.std.specs.List.{AllZip}
use Rattle.std.specs.Fmt.{decimal}
use Rattle.dns_symbol.specs.declared.symbol.Symbol.{Symbol}
use Rattle.dns_symbol.specs.declared.symbol.Symbol.TheVariants.{Char, SimpleEscape, DecimalEscape}
use Rattle.dns_symbol.specs.Cause.{Cause}
use Rattle.dns_symbol.specs.Symbol.{is_printable}
use Rattle.dns_symbol.specs.Text.{SymbolsOf}
use Rattle.dns_symbol.specs.Printed.{symbol_of, is_quoted_escape, is_unquoted_escape}
use Rattle.dns_symbol.proofs.PrintedForms.{printed_symbols, quoted_form, unquoted_form}
use Rattle.dns_symbol.proofs.Unique.{symbols_same}
use Rattle.dns_codec.specs.Base.{Base, IsEncoding, base16, base64, encoded}
use Rattle.dns_name.specs.Reading.{ReadsAs, SpellsLabel, dotted}
use Rattle.dns_name.specs.declared.name.UncertainName.TheVariants.{Absolute}
use Rattle.dns_name.proofs.Printing.{zone_reads}
use Rattle.dns_scan.specs.Numbers.{plain_digit_of}
use Rattle.dns_scan.specs.Octets.{IsPrinted, unquoted_token, quoted_token}
use Rattle.dns_scan.specs.Unread.{HasTokens, first_of, others_of, consumes_first}
use Rattle.dns_scan.specs.Tokens.{Token, MarkerCall, marker}
use Rattle.dns_scan.proofs.Decimal.{decimal_read}
use Rattle.dns_scan.proofs.TokensLeft.{peeked}
use Rattle.dns_laws.proofs.Converted.{plain_read, plain_symbols, plain_alphabet, encoded_plain}
use Rattle.custom_record.specs.Values.{Value, number8, number16, number32, name, hex, base64_octets, string, listed, long_text, IsValue, AreFields, IsText, AreTexts}

-- its one symbol is the number sign, escaped
sign : List Symbol
sign = SimpleEscape 35 ∷ []

marker_read : SymbolsOf marker sign None
unfolding sign lib.Utf8.encode
marker_read = record { rest = []; readable = refl; spelled = refl; ends = refl }

-- so a text of other symbols isn't the marker
other_symbols : (text : Token) (symbols : List Symbol) → SymbolsOf text symbols None → text ≡ marker → symbols ≡ SimpleEscape 35 ∷ []
unfolding sign
other_symbols text symbols read is = (symbols_same text symbols sign None None read (subst (λ (t : Token). SymbolsOf t sign None) (sym is) marker_read)).0

no_digits : (symbols : List Symbol) (digits : List ℕ) → symbols ≡ SimpleEscape 35 ∷ [] → map plain_digit_of symbols ≡ map Some digits → ⊥
no_digits symbols [] is plain = let e : map plain_digit_of symbols ≡ None ∷ [] = ap (map plain_digit_of) is in cc
no_digits symbols (d ∷ ds) is plain = let e : map plain_digit_of symbols ≡ None ∷ [] = ap (map plain_digit_of) is in cc

no_number : (n : ℕ) → n < 10 ^ 64 → decimal n ≡ marker → ⊥
no_number n small is =
    let read = decimal_read n n small (omega arith) in
    no_digits read.0 read.2.digits (other_symbols (decimal n) read.0 read.1 is) read.2.plain

no_char : (text : List ℕ) → plain_symbols text ≡ SimpleEscape 35 ∷ [] → ⊥
no_char [] e = cc
no_char (c ∷ cs) e = cc

no_encoding : (b : Base) → IsEncoding b → (octets : List ℕ) → encoded b octets ≡ marker → ⊥
no_encoding b known octets is =
    no_char (encoded b octets) (other_symbols (encoded b octets) (plain_symbols (encoded b octets)) (plain_read (encoded b octets) (encoded_plain b octets (plain_alphabet b known))) is)

module _ (f : ℕ → Bool) (no_sign : f 35 ≡ false) where
  no_symbol : (o : ℕ) → symbol_of f o ≡ SimpleEscape 35 → ⊥
  no_symbol o e = by (is_printable o) (f o) refl e
    where
      by : (p q : Bool) → f o ≡ q → (if p then (if q then SimpleEscape o else Char o) else DecimalEscape o) ≡ SimpleEscape 35 → ⊥
      by true true h k = let same : o ≡ 35 = cc k in let bad : true ≡ false = sym h ∙ ap f same ∙ no_sign in cc bad
      by true false h k = cc k
      by false q h k = cc k

  no_symbols : (octets : List ℕ) → map (symbol_of f) octets ≡ SimpleEscape 35 ∷ [] → ⊥
  no_symbols [] e = cc
  no_symbols (o ∷ os) e = no_symbol o (cc e)

no_string : (t : Token) (octets : List ℕ) → All (λ o. o < 256) octets → IsPrinted t octets → t ≡ marker → ⊥
no_string t octets all (inl is) at = no_symbols is_unquoted_escape refl octets
    (other_symbols (unquoted_token octets) (map (symbol_of is_unquoted_escape) octets) (printed_symbols is_unquoted_escape unquoted_form octets all) (sym is ∙ at))
no_string t octets all (inr is) at = no_symbols is_quoted_escape refl octets
    (other_symbols (quoted_token octets) (map (symbol_of is_quoted_escape) octets) (printed_symbols is_quoted_escape quoted_form octets all) (sym is ∙ at))

-- a dot ends a name
no_dot : (spellings : List (List Symbol)) (labels : List (List ℕ)) (last : List Symbol) → AllZip SpellsLabel spellings labels → (labels ≡ [] → ⊥) → dotted spellings ++ last ≡ SimpleEscape 35 ∷ [] → ⊥
no_dot [] [] last zip some e = some refl
no_dot [] (l ∷ ls) last zip some e = absurd zip
no_dot ([] ∷ spellings) labels last zip some e = cc
no_dot ((x ∷ []) ∷ spellings) labels last zip some e = cc
no_dot ((x ∷ y ∷ xs) ∷ spellings) labels last zip some e = cc

no_name : (O : Type 0) (labels : List (List ℕ)) (t : Token) → ReadsAs {O = O} t (Absolute labels) → t ≡ marker → ⊥
no_name O labels t (inl root) is = let e : marker ≡ 46 ∷ [] = sym is ∙ root.0 in cc e
no_name O labels t (inr h) is =
    let named = h.1 in
    let symbols = other_symbols t named.symbols (record { rest = []; readable = named.readable; spelled = named.spelled; ends = refl }) is in
    no_dot named.names.spellings h.0 named.names.last named.names.finished h.2 (sym named.names.joined ∙ symbols)

no_value : (v : Value) (t : Token) → IsValue v → IsText v t → t ≡ marker → ⊥
no_value (number8 n) t is text at = no_number n (omega (arith, is)) (sym text ∙ at)
no_value (number16 n) t is text at = no_number n (omega (arith, is)) (sym text ∙ at)
no_value (number32 n) t is text at = no_number n (omega (arith, is)) (sym text ∙ at)
no_value (name labels) t is text at = no_name ℕ labels t (subst (λ (x : Token). ReadsAs {O = ℕ} x (Absolute labels)) (sym text) (zone_reads {O = ℕ} (Absolute labels) (is.0, is.1) is.2)) at
no_value (hex octets) t is text at = no_encoding base16 (inl refl) octets (sym text ∙ at)
no_value (base64_octets octets) t is text at = no_encoding base64 (inr (inr refl)) octets (sym text ∙ at)
no_value (string octets) t is text at = no_string t octets is.0 text at
no_value (listed octets) t is text at = no_string t octets is.0 text at
no_value (long_text octets) t is text at = no_string t octets is text at

-- a call for the marker consumes it if it comes first, and else nothing
module _ {S : Type 0} (next : S → Option Token → S → Type 0) (old new : S) (tokens : List Token) (stands : HasTokens next old tokens) where
  pub marked : (b : Bool) → b ≡ true → MarkerCall {E = Cause} next old (Ok b) new → (first_of tokens ≡ Some marker) × HasTokens next new (others_of tokens)
  marked true e call = let took = consumes_first next old tokens (Some marker) new stands call in (sym took.0, took.1)
  marked false e call = cc

  pub unmarked : (b : Bool) → b ≡ false → MarkerCall {E = Cause} next old (Ok b) new → (first_of tokens ≡ Some marker → ⊥) × HasTokens next new tokens
  unmarked true e call = cc
  unmarked false e call = let left = peeked next old new call.0 tokens stands call.1 in (λ first. call.2 (left.0 ∙ first), left.1)

-- the first text of some values isn't the marker
pub no_marker : (values : List Value) (tokens : List Token) → AreFields values → AreTexts values tokens [] → first_of tokens ≡ Some marker → ⊥
no_marker [] tokens is texts e = absurd (omega (arith, is.1))
no_marker (v ∷ vs) [] is texts e = absurd texts
no_marker (v ∷ vs) (t ∷ ts) is texts e = no_value v t is.0.0 texts.0 (cc e)
