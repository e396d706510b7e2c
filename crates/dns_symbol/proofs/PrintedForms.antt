-- What is printed is parsed: the symbols of octets in a printed form.
use Rattle.std.proofs.Common.{◌≡◌, ℕ, ◌<◌, Bool, true, false, List, [], ◌∷◌, ◌++◌, map, All, refl, sym, ap, ◌∙◌, arith, append-nil, append_assoc, None, Ok}
use Rattle.std.specs.Prelude.{encode_utf8_all, if◌then◌else◌}
use Rattle.std.specs.List.{flat_map, list_all}
use Rattle.std.specs.Str.{IsAscii}
use Rattle.std.proofs.lemmas.Str.{encodes-append, encodes-IsAscii, IsAscii-append}
use Rattle.std.proofs.lemmas.Str.Ascii.{IsAscii-from_all, IsAscii-nil}
use Rattle.std.proofs.lemmas.Grind.{flat_map-append}
use Rattle.std.proofs.lemmas.List.Elements.{All-tail, All-head}
use Rattle.std.proofs.lemmas.Bool.Decides.{nat_tests}
use Rattle.dns_symbol.specs.Symbol.{spell, bytes, is_readable, is_printable, is_digit, octet_of, is_word_symbol}
use Rattle.dns_symbol.specs.Text.{SymbolsOf}
use Rattle.dns_symbol.specs.Printed.{symbol_of, text_of, IsReadBack, is_unquoted_escape, is_quoted_escape, is_plain_escape}
use Rattle.dns_symbol.specs.declared.symbol.Symbol.TheVariants.{Char, SimpleEscape, DecimalEscape}

-- a form that escapes the backslash, and escapes no digit simply
pub record IsForm (is_escape : ℕ → Bool) : Type 0 where
  pub backslash : is_escape 92 ≡ true
  pub no_digits : (o : ℕ) → is_escape o ≡ true → is_digit o ≡ false

pub plain_form : IsForm is_plain_escape
plain_form = record { backslash = refl; no_digits = λ o e. Prim.grind (arith, nat_tests) }

pub quoted_form : IsForm is_quoted_escape
quoted_form = record { backslash = refl; no_digits = λ o e. Prim.grind (arith, nat_tests) }

pub unquoted_form : IsForm is_unquoted_escape
unquoted_form = record { backslash = refl; no_digits = λ o e. Prim.grind (arith, nat_tests) }

module _ (is_escape : ℕ → Bool) where
  -- the symbol of each octet has that octet as its value
  pub printed_octet : (o : ℕ) → octet_of (symbol_of is_escape o) ≡ Ok o
  printed_octet o = by_tests (is_printable o) (is_escape o) refl
    where
      by_tests : (p e : Bool) → is_printable o ≡ p → octet_of (if p then (if e then SimpleEscape o else Char o) else DecimalEscape o) ≡ Ok o
      by_tests true true h = refl
      by_tests true false h = rw h refl
      by_tests false e h = refl

  -- and is readable
  pub printed_readable : IsForm is_escape → (o : ℕ) → o < 256 → is_readable (symbol_of is_escape o) ≡ true
  printed_readable form o h = by_tests (is_printable o) (is_escape o) refl refl
    where
      no_backslash : is_escape o ≡ false → (o ≡ 92) → ⊥
      no_backslash e is = let f : true ≡ false = sym form.backslash ∙ ap is_escape (sym is) ∙ e in absurd cc

      by_tests : (p e : Bool) → is_printable o ≡ p → is_escape o ≡ e → is_readable (if p then (if e then SimpleEscape o else Char o) else DecimalEscape o) ≡ true
      by_tests true true shown e = let d = form.no_digits o e in rw (shown, d) refl
      by_tests true false shown e = let n = no_backslash e in grind (arith, nat_tests)
      by_tests false e shown f = grind (arith, nat_tests)

  -- the text of octets is that of their symbols
  pub printed_bytes : (octets : List ℕ) → encode_utf8_all (text_of is_escape octets) ≡ flat_map bytes (map (symbol_of is_escape) octets)
  printed_bytes [] = refl
  printed_bytes (o ∷ os) =
      encodes-append (spell (symbol_of is_escape o)) (text_of is_escape os) ∙ ap (λ t. bytes (symbol_of is_escape o) ++ t) (printed_bytes os)

  pub printed_octets : (octets : List ℕ) → map octet_of (map (symbol_of is_escape) octets) ≡ map Ok octets
  printed_octets [] = refl
  printed_octets (o ∷ os) = λ i. printed_octet o i ∷ printed_octets os i

  pub all_printed_readable : IsForm is_escape → (octets : List ℕ) → All (λ o. o < 256) octets → list_all is_readable (map (symbol_of is_escape) octets) ≡ true
  all_printed_readable form [] h = refl
  all_printed_readable form (o ∷ os) h =
      rw (printed_readable form o (All-head (λ o. o < 256) o os h), all_printed_readable form os (All-tail (λ o. o < 256) o os h)) refl

  -- so the text of octets has just their symbols
  pub printed_symbols : IsForm is_escape → (octets : List ℕ) → All (λ o. o < 256) octets
      → SymbolsOf (encode_utf8_all (text_of is_escape octets)) (map (symbol_of is_escape) octets) None
  printed_symbols form octets h = record {
    rest = [];
    readable = all_printed_readable form octets h;
    spelled = printed_bytes octets ∙ sym (append-nil _);
    ends = refl;
  }

  pub printed_back : IsForm is_escape → (octets : List ℕ) → All (λ o. o < 256) octets → IsReadBack is_escape octets
  printed_back form octets h = record { read = printed_symbols form octets h; given = printed_octets octets }

  -- whatever follows the text, it begins with their bytes
  pub printed_front : (octets : List ℕ) (rest : List ℕ) → encode_utf8_all (text_of is_escape octets) ++ rest ≡ flat_map bytes (map (symbol_of is_escape) octets) ++ rest
  printed_front octets rest = ap (λ t. t ++ rest) (printed_bytes octets)

  -- a printed octet is ASCII
  pub spelled_ascii : (o : ℕ) → o < 256 → IsAscii (spell (symbol_of is_escape o))
  spelled_ascii o h = IsAscii-from_all _ (by_tests (is_printable o) (is_escape o) refl)
    where
      by_tests : (p e : Bool) → is_printable o ≡ p → All (λ b. b < 128) (spell (if p then (if e then SimpleEscape o else Char o) else DecimalEscape o))
      by_tests true true shown = grind (arith, nat_tests)
      by_tests true false shown = grind (arith, nat_tests)
      by_tests false e shown = grind (arith, nat_tests)

  -- so is the text of octets, which as bytes is then the same
  pub printed_ascii : (octets : List ℕ) → All (λ o. o < 256) octets → IsAscii (text_of is_escape octets)
  printed_ascii [] h = IsAscii-nil
  printed_ascii (o ∷ os) h =
      IsAscii-append _ _ (spelled_ascii o (All-head (λ o. o < 256) o os h)) (printed_ascii os (All-tail (λ o. o < 256) o os h))

  -- a block of octets that is printed, and then the rest
  pub printed_block : (all block rest text done : List ℕ) → all ≡ block ++ rest → IsAscii (text_of is_escape block) → text ≡ text_of is_escape block
      → (done ++ text) ++ encode_utf8_all (text_of is_escape rest) ≡ done ++ encode_utf8_all (text_of is_escape all)
  printed_block all block rest text done parts h is =
      let bytes = encodes-IsAscii (text_of is_escape block) h in
      let both = encodes-append (text_of is_escape block) (text_of is_escape rest) in
      rw (parts, is, append_assoc, flat_map-append, both, bytes) refl

-- in the unquoted form each octet is a symbol of a word
pub unquoted_word : (o : ℕ) → o < 256 → is_word_symbol (symbol_of is_unquoted_escape o) ≡ true
unquoted_word o h = Prim.grind (arith, nat_tests)

pub all_unquoted_words : (octets : List ℕ) → All (λ o. o < 256) octets → list_all is_word_symbol (map (symbol_of is_unquoted_escape) octets) ≡ true
all_unquoted_words [] h = refl
all_unquoted_words (o ∷ os) h =
    rw (unquoted_word o (All-head (λ o. o < 256) o os h), all_unquoted_words os (All-tail (λ o. o < 256) o os h)) refl
