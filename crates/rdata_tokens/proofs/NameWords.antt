-- A name prints as one word.
use Rattle.std.proofs.Common.{ℕ, ◌≡◌, ◌<◌, Bool, true, false, List, [], ◌∷◌, ◌++◌, length, map, refl, sym, ap, subst, ◌∙◌, arith, append-nil}
use Rattle.std.specs.Prelude.{All, if◌then◌else◌, ◌&&◌, nat_lt, nat_le}
use Rattle.std.specs.List.{flat_map, list_all}
use Rattle.std.proofs.lemmas.Bool.Decides.{nat_tests}
use Rattle.std.proofs.lemmas.Grind.{flat_map-append}
use Rattle.std.proofs.lemmas.List.Elements.{All-head, All-tail}
use Rattle.std.proofs.lemmas.List.Folds.{list_all-append}
use Rattle.std.proofs.lemmas.Str.{encodes-IsAscii}
use Rattle.std.proofs.lemmas.Str.Ascii.{IsAscii-from_all}
use Rattle.dns_symbol.specs.Symbol.{spell, bytes, is_word_symbol}
use Rattle.dns_symbol.specs.declared.symbol.Symbol.{Symbol}
use Rattle.dns_symbol.specs.declared.symbol.Symbol.TheVariants.{Char, SimpleEscape, DecimalEscape}
use Rattle.dns_lexer.specs.Token.{IsWord}
use Rattle.dns_wire.specs.Printed.{dotted_by}
use Rattle.dns_wire.specs.Wire.{wire}
use Rattle.dns_wire.specs.ZoneText.{is_zone_escape, zone_symbol, zone_label}
use Rattle.dns_wire.proofs.ZoneLabels.{zone_octet_ascii}
use Rattle.rdata_tokens.specs.Spelling.{AreOctetValues}
use Rattle.rdata_tokens.specs.NameSpelling.{dotted_parts, IsWireName}
use Rattle.rdata_tokens.specs.PrintedNames.{wire_name_text}
use Rattle.rdata_tokens.proofs.NameLaws.{front_parts, printed_parts, front_values, name_text_is}

abbrev IsOctet : ℕ → Type 0
IsOctet o = o < 256

octet_word : (o : ℕ) → o < 256 → is_word_symbol (zone_symbol o) ≡ true
octet_word o low = by_tests (is_zone_escape o) (nat_lt 32 o && nat_le o 126) refl refl
  where
    by_tests : (e p : Bool) → is_zone_escape o ≡ e → (nat_lt 32 o && nat_le o 126) ≡ p → is_word_symbol (if e then SimpleEscape o else (if p then Char o else DecimalEscape o)) ≡ true
    by_tests true p is shown = grind (arith, nat_tests)
    by_tests false true is shown = grind (arith, nat_tests)
    by_tests false false is shown = grind (arith, nat_tests)

label_words : (label : List ℕ) → AreOctetValues label → list_all is_word_symbol (map zone_symbol label) ≡ true
label_words [] h = refl
label_words (o ∷ os) h = rw (octet_word o (All-head IsOctet o os h), label_words os (All-tail IsOctet o os h)) refl

label_bytes : (label : List ℕ) → AreOctetValues label → flat_map bytes (map zone_symbol label) ≡ flat_map spell (map zone_symbol label)
label_bytes [] h = refl
label_bytes (o ∷ os) h =
    let own = encodes-IsAscii (spell (zone_symbol o)) (zone_octet_ascii o (All-head IsOctet o os h)) in
    let more = label_bytes os (All-tail IsOctet o os h) in
    ap (λ t. t ++ flat_map bytes (map zone_symbol os)) own ∙ ap (λ t. spell (zone_symbol o) ++ t) more

dot_bytes : bytes (Char 46) ≡ 46 ∷ []
dot_bytes = encodes-IsAscii (46 ∷ []) (IsAscii-from_all (46 ∷ []) (λ k d lt. grind (arith, lt)))

dot_word : is_word_symbol (Char 46) ≡ true
dot_word = refl

-- the symbols of labels, each with a dot after it
abbrev dotted_symbols : List (List Symbol) → List Symbol
dotted_symbols parts = flat_map (λ part. part ++ Char 46 ∷ []) parts

words_valid : (front : List (List ℕ)) → All AreOctetValues front → list_all is_word_symbol (dotted_symbols (front_parts front)) ≡ true
words_valid [] h = refl
words_valid (l ∷ ls) h =
    rw (list_all-append, list_all-append, label_words l (All-head AreOctetValues l ls h), words_valid ls (All-tail AreOctetValues l ls h)) refl

words_spelled : (front : List (List ℕ)) → All AreOctetValues front → dotted_parts (front_parts front) ≡ flat_map bytes (dotted_symbols (front_parts front))
words_spelled [] h = refl
words_spelled (l ∷ ls) h =
    let own = label_bytes l (All-head AreOctetValues l ls h) in
    let more = words_spelled ls (All-tail AreOctetValues l ls h) in
    let dotted : flat_map bytes (map zone_symbol l ++ Char 46 ∷ []) ≡ flat_map spell (map zone_symbol l) ++ 46 ∷ [] =
    flat_map-append bytes (map zone_symbol l) (Char 46 ∷ []) ∙ ap (λ t. flat_map bytes (map zone_symbol l) ++ (t ++ [])) dot_bytes ∙ ap (λ t. t ++ 46 ∷ []) own in
    ap (λ t. (flat_map spell (map zone_symbol l) ++ 46 ∷ []) ++ t) more ∙ ap (λ t. t ++ flat_map bytes (dotted_symbols (front_parts ls))) (sym dotted)
    ∙ sym (flat_map-append bytes (map zone_symbol l ++ Char 46 ∷ []) (dotted_symbols (front_parts ls)))

front_word : (labels front : List (List ℕ)) → AreOctetValues (wire labels) → labels ≡ front ++ [] ∷ [] → IsWord (dotted_by zone_label labels)
front_word labels [] v e = record {
  symbols = Char 46 ∷ [];
  some = omega arith;
  valid = refl;
  spelled = ap (dotted_by zone_label) e ∙ sym dot_bytes ∙ sym (append-nil (bytes (Char 46)));
}
front_word labels (x ∷ xs) v e =
    let values = front_values (x ∷ xs) (subst (λ l. AreOctetValues (wire l)) e v) in record {
      symbols = dotted_symbols (front_parts (x ∷ xs));
      some = some x (dotted_symbols (front_parts xs));
      valid = words_valid (x ∷ xs) values;
      spelled = ap (dotted_by zone_label) e ∙ printed_parts x xs ∙ words_spelled (x ∷ xs) values;
    }
  where
    some : (label : List ℕ) (rest : List Symbol) → 0 < length ((map zone_symbol label ++ Char 46 ∷ []) ++ rest)
    some [] rest = omega arith
    some (y ∷ ys) rest = omega arith

pub name_is_word : (form : List ℕ) → IsWireName form → IsWord (wire_name_text form)
name_is_word form h =
    subst IsWord (sym (name_text_is form h.labels h.whole)) (front_word h.labels h.absolute.0 (subst AreOctetValues h.whole h.values) h.absolute.1)
