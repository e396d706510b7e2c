-- What is printed parses as the same octets.
use Rattle.std.proofs.Common.{◌≡◌, ℕ, ◌<◌, Bool, true, List, [], ◌∷◌, ◌++◌, length, map, All, refl, sym, ◌∙◌, arith}
use Rattle.std.specs.Prelude.{encode_utf8_all}
use Rattle.std.specs.List.{flat_map, list_all}
use Rattle.std.proofs.lemmas.List.{append_cancel_right, length-map}
use Rattle.std.proofs.lemmas.Str.{encodes-append, encode_ascii}
use Rattle.dns_symbol.specs.Symbol.{bytes, is_word_symbol}
use Rattle.dns_symbol.specs.Printed.{symbol_of, text_of, is_quoted_escape, is_unquoted_escape}
use Rattle.dns_symbol.specs.declared.symbol.Symbol.{Symbol}
use Rattle.dns_symbol.proofs.PrintedForms.{IsForm, quoted_form, printed_symbols, printed_octets, printed_bytes, all_unquoted_words}
use Rattle.dns_charstr.specs.Printed.{quoted_text}
use Rattle.dns_charstr.specs.Reading.{HasOctets}

pub reads_back : (is_escape : ℕ → Bool) → IsForm is_escape → (octets : List ℕ) → All (λ o. o < 256) octets → HasOctets (encode_utf8_all (text_of is_escape octets)) octets
reads_back is_escape form octets h = record {
  symbols = map (symbol_of is_escape) octets;
  read = printed_symbols is_escape form octets h;
  octets_are = printed_octets is_escape octets;
}

pub quotes : (octets : List ℕ) → encode_utf8_all (quoted_text octets) ≡ 34 ∷ encode_utf8_all (text_of is_quoted_escape octets) ++ 34 ∷ []
quotes octets = rw (encodes-append (text_of is_quoted_escape octets) (34 ∷ []), encode_ascii 34 (omega arith)) refl

pub between_quotes : (octets between : List ℕ) → All (λ o. o < 256) octets → encode_utf8_all (quoted_text octets) ≡ 34 ∷ between ++ 34 ∷ [] → HasOctets between octets
between_quotes octets between h e =
    let text = encode_utf8_all (text_of is_quoted_escape octets) in
    let same : text ++ 34 ∷ [] ≡ between ++ 34 ∷ [] = cc (sym (quotes octets) ∙ e) in
    rw (← append_cancel_right text between (34 ∷ []) same) (reads_back is_quoted_escape quoted_form octets h)

pub is_a_word : (octets : List ℕ) → 0 < length octets → All (λ o. o < 256) octets
    → (symbols : List Symbol) × (0 < length symbols) × (list_all is_word_symbol symbols ≡ true) × (encode_utf8_all (text_of is_unquoted_escape octets) ≡ flat_map bytes symbols)
is_a_word octets some h = (
  map (symbol_of is_unquoted_escape) octets,
  omega (arith, some, length-map octets (symbol_of is_unquoted_escape)),
  all_unquoted_words octets h,
  printed_bytes is_unquoted_escape octets,
)
