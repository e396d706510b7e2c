-- The zone file text of a name is a word.
use Rattle.std.proofs.Common.{◌≡◌, ◌≢◌, ℕ, ◌<◌, Bool, true, false, List, [], ◌∷◌, ◌++◌, length, map, refl, sym, ap, ◌∙◌, arith, append-nil, length-append}
use Rattle.std.specs.Prelude.{All, encode_utf8_all, if◌then◌else◌, ◌&&◌, nat_lt, nat_le}
use Rattle.std.specs.List.{flat_map, list_all}
use Rattle.std.proofs.lemmas.Str.{encodes-append}
use Rattle.std.proofs.lemmas.Grind.{flat_map-append}
use Rattle.std.proofs.lemmas.List.Elements.{All-head, All-tail}
use Rattle.std.proofs.lemmas.List.Folds.{list_all-append}
use Rattle.std.proofs.lemmas.Bool.Decides.{nat_tests}
use Rattle.dns_symbol.specs.Symbol.{bytes, spell, is_word_symbol}
use Rattle.dns_symbol.specs.declared.symbol.Symbol.{Symbol}
use Rattle.dns_symbol.specs.declared.symbol.Symbol.TheVariants.{Char, SimpleEscape, DecimalEscape}
use Rattle.dns_lexer.specs.Token.{IsWord}
use Rattle.dns_wire.specs.Printed.{joined_by}
use Rattle.dns_wire.specs.Wire.{wire}
use Rattle.dns_wire.specs.ZoneText.{is_zone_escape, zone_symbol, zone_label, zone_text}
use Rattle.dns_wire.proofs.Texts.{dotted_joined}
use Rattle.dns_wire.proofs.Wires.{Bytes, labels_bytes}

symbol_word : (o : ℕ) → o < 256 → is_word_symbol (zone_symbol o) ≡ true
symbol_word o small = by_tests (is_zone_escape o) (nat_lt 32 o && nat_le o 126) refl refl
  where
    by_tests : (e p : Bool) → is_zone_escape o ≡ e → (nat_lt 32 o && nat_le o 126) ≡ p → is_word_symbol (if e then SimpleEscape o else (if p then Char o else DecimalEscape o)) ≡ true
    by_tests true p is shown = grind (arith, nat_tests)
    by_tests false true is shown = grind (arith, nat_tests)
    by_tests false false is shown = grind (arith, nat_tests)

label_words : (label : List ℕ) → Bytes label → list_all is_word_symbol (map zone_symbol label) ≡ true
label_words [] h = refl
label_words (o ∷ os) h = rw (symbol_word o (All-head (λ b. b < 256) o os h), label_words os (All-tail (λ b. b < 256) o os h)) refl

label_spelled : (label : List ℕ) → encode_utf8_all (zone_label label) ≡ flat_map bytes (map zone_symbol label)
label_spelled [] = refl
label_spelled (o ∷ os) = encodes-append (spell (zone_symbol o)) (zone_label os) ∙ ap (λ t. bytes (zone_symbol o) ++ t) (label_spelled os)

-- the symbols of labels, with a plain dot between two
abbrev symbols_of : List (List ℕ) → List Symbol
symbols_of [] = []
symbols_of (l ∷ []) = map zone_symbol l
symbols_of (l ∷ m ∷ ls) = map zone_symbol l ++ Char 46 ∷ symbols_of (m ∷ ls)

words : (labels : List (List ℕ)) → All Bytes labels → list_all is_word_symbol (symbols_of labels) ≡ true
words [] h = refl
words (l ∷ []) h = label_words l (All-head Bytes l [] h)
words (l ∷ m ∷ ls) h =
    list_all-append is_word_symbol (map zone_symbol l) (Char 46 ∷ symbols_of (m ∷ ls))
    ∙ rw (label_words l (All-head Bytes l (m ∷ ls) h), words (m ∷ ls) (All-tail Bytes l (m ∷ ls) h)) refl

spelled : (labels : List (List ℕ)) → encode_utf8_all (joined_by zone_label labels) ≡ flat_map bytes (symbols_of labels)
spelled [] = refl
spelled (l ∷ []) = label_spelled l
spelled (l ∷ m ∷ ls) =
    encodes-append (zone_label l) (46 ∷ joined_by zone_label (m ∷ ls))
    ∙ (λ i. label_spelled l i ++ encodes-append (46 ∷ []) (joined_by zone_label (m ∷ ls)) i)
    ∙ ap (λ t. flat_map bytes (map zone_symbol l) ++ (bytes (Char 46) ++ t)) (spelled (m ∷ ls))
    ∙ sym (flat_map-append bytes (map zone_symbol l) (Char 46 ∷ symbols_of (m ∷ ls)))

word : (labels : List (List ℕ)) → (labels ≡ [] ∷ [] → ⊥) → 0 < length (symbols_of labels) → All Bytes labels → IsWord (zone_text labels)
word labels no_root some all = record {
  symbols = symbols_of labels;
  some = some;
  valid = words labels all;
  spelled = ap encode_utf8_all (dotted_joined zone_label labels no_root) ∙ spelled labels;
}

labels_word : (labels : List (List ℕ)) → labels ≢ [] → All Bytes labels → IsWord (zone_text labels)
labels_word [] some all = absurd (some refl)
labels_word ([] ∷ []) some all = record { symbols = Char 46 ∷ []; some = omega arith; valid = refl; spelled = sym (append-nil _) }
labels_word ((o ∷ os) ∷ []) some all = word ((o ∷ os) ∷ []) (λ e. cc) (omega arith) all
labels_word (l ∷ m ∷ ls) some all = word (l ∷ m ∷ ls) (λ e. cc) (omega (arith, length-append (map zone_symbol l) (Char 46 ∷ symbols_of (m ∷ ls)))) all

pub zone_word : (name : List (List ℕ)) → name ≢ [] → All (λ o. o < 256) (wire name) → IsWord (zone_text name)
zone_word name some all = labels_word name some (labels_bytes name all)
