-- Values spell their octets as they print.
use Rattle.std.proofs.Common.{ℕ, zero, suc, ◌≡◌, ◌≢◌, ◌<◌, ◌≤◌, ◌+◌, ◌-◌, ◌*◌, ◌/◌, ◌%◌, ◌^◌, Bool, true, false, cond, List, [], ◌∷◌, ◌++◌, length, map, take, drop, get_or, decimal, refl, sym, subst, ap, ◌∙◌, arith, inl, inr, append_assoc, append-nil}
use Rattle.std.specs.Prelude.{All, codes, if◌then◌else◌}
use Rattle.std.specs.Int.{w16, to_be_bytes, from_be_bytes}
use Rattle.std.specs.List.{flat_map, AllPairs, AllZip}
use Rattle.std.specs.Net.Addr.{segments_of, octets_of}
use Rattle.std.specs.Net.Text.{ipv4_text, ipv6_text, hex_groups_text}
use Rattle.std.specs.Str.{bytes_eq}
use Rattle.std.proofs.NetLemmas.Alphabet.{IsDigitOrDot, IsHexOrColon, All-ipv4_text, All-hex_groups_text}
use Rattle.std.proofs.NetLemmas.Texts.{AllSegments, AllSegments-drop}
use Rattle.std.proofs.lemmas.Bool.{cases_Bool, cases_eq, cond_both, eq-eqb, ne_eqb}
use Rattle.std.proofs.lemmas.Bool.Decides.{nat_tests}
use Rattle.std.proofs.lemmas.List.{take_at, drop_at, take-append-drop, length-drop, length-take-le}
use Rattle.std.proofs.lemmas.List.Concat.{flat_map-append}
use Rattle.std.proofs.lemmas.List.Elements.{All-nil, All-cons, All-append, All-head, All-tail, All-take, All-drop, All-weaker}
use Rattle.rdata_fields.specs.Words.{AreOctetsOf}
use Rattle.rdata_fields.specs.WordLaws.{number16_is_kind, ipv4_is_word, ipv6_is_word}
use Rattle.rdata_values.specs.Addresses.{has_ipv4_end, shown_ipv6}
use Rattle.rdata_values.specs.Bitmap.{has}
use Rattle.rdata_svcb.specs.Texts.{is_special, item_octet, item_text, later_text, list_text, wire_strings}
use Rattle.rdata_svcb.specs.Values.{AreGroups, AreKeys, AreWireStrings}
use Rattle.dns_symbol.specs.Escape.{is_spelling, octet_for}
use Rattle.rdata_tokens.specs.Spelling.{AreOctetValues, SpellsOctetList}
use Rattle.rdata_tokens.proofs.FormLaws.{printed_spells, values_front, values_back}
use Rattle.dns_symbol.specs.Symbol.{spell, is_printable}
use Rattle.dns_symbol.specs.Printed.{symbol_of, text_of, is_unquoted_escape}
use Rattle.dns_symbol.specs.declared.symbol.Symbol.TheVariants.{Char, SimpleEscape, DecimalEscape}
use Rattle.rdata_svcb.specs.Items.{IsWithout, SpellsApart, with_commas}
use Rattle.rdata_svcb.specs.ParamValues.{NamesAKey, SpellsKeys, SpellsValues, SpellsStrings, SpellsPort, SpellsIpv4, SpellsIpv6, keys_from}
use Rattle.rdata_svcb.specs.ShownParams.{item_width, first_items, value_items, value_item_text, items_text, after_commas, between_commas, key_text}
use Rattle.rdata_svcb.specs.declared.keys.ValueKind.{ValueKind}
use Rattle.rdata_svcb.specs.declared.keys.ValueKind.TheVariants.{Keys, Strings, Port, Ipv4, Ipv6}
use Rattle.rdata_svcb.proofs.KeySets.{keys_first, keys_zero}
use Rattle.rdata_svcb.proofs.ListTexts.{special_octet, unspecial_octet}
use Rattle.rdata_svcb.proofs.ShownItems.{items_first, items_none, some_width}
use Rattle.rdata_svcb.proofs.ShownKeys.{IsNoMark, no_commas, all_no_marks, key_no_marks, key_named}

abbrev IsOctet : ℕ → Type 0
IsOctet o = o < 256

-- ---- texts with commas between them

behind_with : (texts : List (List ℕ)) → after_commas texts ++ 44 ∷ [] ≡ 44 ∷ with_commas texts
behind_with [] = refl
behind_with (t ∷ ts) =
    append_assoc (44 ∷ t) (after_commas ts) (44 ∷ []) ∙ ap (λ x. (44 ∷ t) ++ x) (behind_with ts) ∙ ap (λ x. 44 ∷ x) (sym (append_assoc t (44 ∷ []) (with_commas ts)))

between_with : (text : List ℕ) (texts : List (List ℕ)) → between_commas (text ∷ texts) ++ 44 ∷ [] ≡ with_commas (text ∷ texts)
between_with text texts = append_assoc text (after_commas texts) (44 ∷ []) ∙ ap (λ x. text ++ x) (behind_with texts) ∙ sym (append_assoc text (44 ∷ []) (with_commas texts))

spells_between : {V : Type 0} (spells : List ℕ → V → Type 0) (texts : List (List ℕ)) (values : List V) → texts ≢ [] → All (All IsNoMark) texts → AllZip spells texts values → SpellsApart spells (between_commas texts) values
spells_between spells [] values some without each = absurd (some refl)
spells_between spells (t ∷ ts) values some without each =
    record { texts = t ∷ ts; apart = All-weaker (All IsNoMark) (IsWithout 44) no_commas (t ∷ ts) without; whole = between_with t ts; each = each }

map_none : {X : Type 0} (f : X → List ℕ) (xs : List X) → map f xs ≡ [] → xs ≡ []
map_none f [] e = refl
map_none f (x ∷ xs) e = cc e

all_map : {X : Type 0} (P : X → Type 0) (Q : List ℕ → Type 0) (text : X → List ℕ) → ((x : X) → P x → Q (text x)) → (xs : List X) → All P xs → All Q (map text xs)
all_map P Q text of [] h = All-nil Q
all_map P Q text of (x ∷ xs) h = All-cons Q (text x) (map text xs) (of x (All-head P x xs h)) (all_map P Q text of xs (All-tail P x xs h))

zip_map : {X : Type 0} (P : X → Type 0) (R : List ℕ → X → Type 0) (text : X → List ℕ) → ((x : X) → P x → R (text x) x) → (xs : List X) → All P xs → AllZip R (map text xs) xs
zip_map P R text of [] h = tt
zip_map P R text of (x ∷ xs) h = (of x (All-head P x xs h), zip_map P R text of xs (All-tail P x xs h))

-- ---- items are the octets of a value

fronts_whole : (kind : ValueKind) (n : ℕ) (octets : List ℕ) → length octets ≤ n → flat_map (λ v. v) (first_items kind n octets) ≡ octets
fronts_whole kind zero [] l = refl
fronts_whole kind zero (x ∷ octets) l = absurd (omega (arith, l))
fronts_whole kind (suc n) [] l = refl
fronts_whole kind (suc n) (x ∷ octets) l =
    let w = item_width kind (x ∷ octets) in
    ap (λ r. take w (x ∷ octets) ++ r) (fronts_whole kind n (drop w (x ∷ octets)) (omega (arith, l, some_width kind (x ∷ octets), length-drop w (x ∷ octets)))) ∙ take-append-drop w (x ∷ octets)

items_whole : (kind : ValueKind) (octets : List ℕ) → flat_map (λ v. v) (value_items kind octets) ≡ octets
unfolding value_items
items_whole kind octets = fronts_whole kind (length octets) octets (omega arith)

-- ---- groups of a constant number of octets

module _ (kind : ValueKind) (size : ℕ) (some : 0 < size) (wide : (octets : List ℕ) → item_width kind octets ≡ size) (more : (n : ℕ) → 0 < n → n % size ≡ 0 → (size ≤ n) × ((n - size) % size ≡ 0)) where
  fronts_sized : (n : ℕ) (octets : List ℕ) → length octets ≤ n → length octets % size ≡ 0 → AreOctetValues octets → All (AreOctetsOf size) (first_items kind n octets)
  fronts_sized zero octets l m h = All-nil (AreOctetsOf size)
  fronts_sized (suc n) [] l m h = All-nil (AreOctetsOf size)
  fronts_sized (suc n) (x ∷ octets) l m h =
      let fit = more (length (x ∷ octets)) (omega arith) m in
      let left = length-drop size (x ∷ octets) in
      subst (λ w. All (AreOctetsOf size) (take w (x ∷ octets) ∷ first_items kind n (drop w (x ∷ octets)))) (sym (wide (x ∷ octets)))
      (All-cons (AreOctetsOf size) (take size (x ∷ octets)) (first_items kind n (drop size (x ∷ octets))) (length-take-le size (x ∷ octets) fit.0, All-take IsOctet size (x ∷ octets) h)
      (fronts_sized n (drop size (x ∷ octets)) (omega (arith, l, some, left)) (ap (λ k. k % size) left ∙ fit.1) (All-drop IsOctet size (x ∷ octets) h)))

  items_sized : (octets : List ℕ) → length octets % size ≡ 0 → AreOctetValues octets → All (AreOctetsOf size) (value_items kind octets)
  unfolding value_items
  items_sized octets m h = fronts_sized (length octets) octets (omega arith) m h

  module _ (spells : List ℕ → List ℕ → Type 0) (back : (item : List ℕ) → AreOctetsOf size item → spells (value_item_text kind item) item) (marks : (item : List ℕ) → AreOctetsOf size item → All IsNoMark (value_item_text kind item)) where
    groups_back : (octets : List ℕ) → AreGroups size octets → AreOctetValues octets → SpellsValues spells (items_text kind octets) octets
    groups_back octets is h =
        let items = value_items kind octets in
        let sized = items_sized octets is.1 h in
        let there : map (value_item_text kind) items ≢ [] = λ e. omega (arith, is.0, ap length (sym (items_whole kind octets) ∙ ap (flat_map (λ v. v)) (map_none (value_item_text kind) items e))) in
        record {
          values = items;
          spelled = spells_between spells (map (value_item_text kind) items) items there (all_map (AreOctetsOf size) (All IsNoMark) (value_item_text kind) marks items sized) (zip_map (AreOctetsOf size) spells (value_item_text kind) back items sized);
          whole = sym (items_whole kind octets);
        }

-- ---- addresses

ipv4_mark : (c : ℕ) → IsDigitOrDot c → IsNoMark c
ipv4_mark c (inl d) = (λ e. omega (arith, d.0, d.1, e), λ e. omega (arith, d.0, d.1, e))
ipv4_mark c (inr d) = (λ e. omega (arith, d, e), λ e. omega (arith, d, e))

ipv4_marks : (octets : List ℕ) → ((k : ℕ) → get_or octets k 0 < 2 ^ 8) → All IsNoMark (ipv4_text octets)
ipv4_marks octets small = All-weaker IsDigitOrDot IsNoMark ipv4_mark (ipv4_text octets) (All-ipv4_text octets small)

hex_mark : (c : ℕ) → IsHexOrColon c → IsNoMark c
hex_mark c (inl d) = (λ e. omega (arith, d.0, d.1, e), λ e. omega (arith, d.0, d.1, e))
hex_mark c (inr d) = (λ e. omega (arith, d.0, d.1, e), λ e. omega (arith, d.0, d.1, e))

pub small_octets : (xs : List ℕ) → AllSegments xs → (k : ℕ) → get_or (octets_of xs) k 0 < 2 ^ 8
small_octets [] h k = omega arith
small_octets (s ∷ ss) h zero = let few = h 0 in omega (arith, few)
small_octets (s ∷ ss) h (suc zero) = omega arith
small_octets (s ∷ ss) h (suc (suc k)) = small_octets ss (λ j. h (suc j)) k

ending_marks : (front : List ℕ) (segments : List ℕ) → All IsNoMark front → AllSegments segments → All IsNoMark (front ++ ipv4_text (octets_of (drop 6 segments)))
ending_marks front segments h small =
    All-append IsNoMark front (ipv4_text (octets_of (drop 6 segments))) h (ipv4_marks (octets_of (drop 6 segments)) (small_octets (drop 6 segments) (AllSegments-drop 6 segments small)))

plain_ipv6_marks : (segments : List ℕ) → AllSegments segments → All IsNoMark (ipv6_text segments)
unfolding ipv6_text
plain_ipv6_marks segments small =
    cond_both (bytes_eq (take 6 segments) (0 ∷ 0 ∷ 0 ∷ 0 ∷ 0 ∷ 0xffff ∷ [])) (codes "::ffff:" ++ ipv4_text (octets_of (drop 6 segments))) (hex_groups_text segments) (All IsNoMark)
    (λ _. ending_marks (codes "::ffff:") segments (all_no_marks (codes "::ffff:") refl) small)
    (λ _. All-weaker IsHexOrColon IsNoMark hex_mark (hex_groups_text segments) (All-hex_groups_text segments small))

ipv6_marks : (segments : List ℕ) → AllSegments segments → All IsNoMark (shown_ipv6 segments)
ipv6_marks segments small =
    cond_both (has_ipv4_end segments) (codes "::" ++ ipv4_text (octets_of (drop 6 segments))) (ipv6_text segments) (All IsNoMark)
    (λ _. ending_marks (codes "::") segments (all_no_marks (codes "::") refl) small) (λ _. plain_ipv6_marks segments small)

pub octet_at : (octets : List ℕ) → AreOctetValues octets → (k : ℕ) → get_or octets k 0 < 2 ^ 8
octet_at [] h k = omega arith
octet_at (o ∷ os) h zero = let low = All-head IsOctet o os h in omega (arith, low)
octet_at (o ∷ os) h (suc k) = octet_at os (All-tail IsOctet o os h) k

pub segment_at : (octets : List ℕ) → AreOctetValues octets → AllSegments (segments_of octets)
segment_at [] h k = omega arith
segment_at (a ∷ []) h k = omega arith
segment_at (a ∷ b ∷ os) h zero =
    let more = All-tail IsOctet a (b ∷ os) h in let high = All-head IsOctet a (b ∷ os) h in let low = All-head IsOctet b os more in omega (arith, high, low)
segment_at (a ∷ b ∷ os) h (suc k) = segment_at os (All-tail IsOctet b os (All-tail IsOctet a (b ∷ os) h)) k

pub ipv4_back : (octets : List ℕ) → AreGroups 4 octets → AreOctetValues octets → SpellsValues SpellsIpv4 (items_text Ipv4 octets) octets
ipv4_back = groups_back Ipv4 4 (omega arith) (λ octets. refl) (λ n l h. (omega (arith, l, h), omega (arith, l, h))) SpellsIpv4 (λ item h. ipv4_is_word.spelled item h) (λ item h. ipv4_marks item (octet_at item h.1))

pub ipv6_back : (octets : List ℕ) → AreGroups 16 octets → AreOctetValues octets → SpellsValues SpellsIpv6 (items_text Ipv6 octets) octets
ipv6_back = groups_back Ipv6 16 (omega arith) (λ octets. refl) (λ n l h. (omega (arith, l, h), omega (arith, l, h))) SpellsIpv6 (λ item h. ipv6_is_word.spelled item h) (λ item h. ipv6_marks (segments_of item) (segment_at item h.1))

-- ---- a port

pub port_back : (octets : List ℕ) → length octets ≡ 2 → AreOctetValues octets → SpellsPort (items_text Port octets) octets
port_back [] l h = absurd (omega (arith, l))
port_back (a ∷ []) l h = absurd (omega (arith, l))
port_back (a ∷ b ∷ []) l h =
    let one = items_first Port (a ∷ b ∷ []) 2 (omega arith) refl ∙ ap (λ items. (a ∷ b ∷ []) ∷ items) (items_none Port [] refl) in
    subst (λ items. SpellsPort (between_commas (map (value_item_text Port) items)) (a ∷ b ∷ [])) (sym one)
    (subst (λ text. SpellsPort text (a ∷ b ∷ [])) (sym (append-nil (decimal (from_be_bytes w16 (a ∷ b ∷ []))))) (number16_is_kind.spelled (a ∷ b ∷ []) (refl, h)))
port_back (a ∷ b ∷ c ∷ octets) l h = absurd (omega (arith, l))

-- ---- octets

unquoted_stands : (o : ℕ) → octet_for (symbol_of is_unquoted_escape o) ≡ o
unquoted_stands o = by_tests (is_printable o) (is_unquoted_escape o)
  where
    by_tests : (p e : Bool) → octet_for (if p then (if e then SimpleEscape o else Char o) else DecimalEscape o) ≡ o
    by_tests true true = refl
    by_tests true false = refl
    by_tests false e = refl

unquoted_own : (o : ℕ) → o < 256 → is_spelling (symbol_of is_unquoted_escape o) ≡ true
unquoted_own o low = by_tests (is_printable o) (is_unquoted_escape o) refl refl
  where
    by_tests : (p e : Bool) → is_printable o ≡ p → is_unquoted_escape o ≡ e → is_spelling (if p then (if e then SimpleEscape o else Char o) else DecimalEscape o) ≡ true
    by_tests true true shown is = grind (arith, nat_tests)
    by_tests true false shown is = grind (arith, nat_tests)
    by_tests false e shown is = grind (arith, nat_tests)

-- octets without quotes are spelled by their text
pub unquoted_spells : (octets : List ℕ) → AreOctetValues octets → SpellsOctetList (text_of is_unquoted_escape octets) octets
unquoted_spells octets h =
    subst (λ t. SpellsOctetList t octets) (append-nil (text_of is_unquoted_escape octets)) (printed_spells (symbol_of is_unquoted_escape) unquoted_stands unquoted_own octets [] h)

-- ---- lists of strings

abbrev string_text : List ℕ → List ℕ
string_text s = text_of is_unquoted_escape (item_text s)

string_items : (strings : List (List ℕ)) → value_items Strings (wire_strings strings) ≡ map (λ s. length s ∷ s) strings
string_items [] = items_none Strings [] refl
string_items (s ∷ ss) =
    let octets = (length s ∷ s) ++ wire_strings ss in
    let width = length (length s ∷ s) in
    let wide : width ≡ 1 + length s = omega arith in
    items_first Strings octets width (omega arith) wide
    ∙ ap (λ item. item ∷ value_items Strings (drop width octets)) (take_at (length s ∷ s) (wire_strings ss) width refl)
    ∙ ap (λ rest. (length s ∷ s) ∷ value_items Strings rest) (drop_at (length s ∷ s) (wire_strings ss) width refl)
    ∙ ap (λ items. (length s ∷ s) ∷ items) (string_items ss)

string_texts : (strings : List (List ℕ)) → map (value_item_text Strings) (map (λ s. length s ∷ s) strings) ≡ map string_text strings
string_texts [] = refl
string_texts (s ∷ ss) = ap (λ texts. string_text s ∷ texts) (string_texts ss)

behind_texts : (strings : List (List ℕ)) → after_commas (map string_text strings) ≡ text_of is_unquoted_escape (later_text strings)
behind_texts [] = refl
behind_texts (s ∷ ss) =
    ap (λ x. (44 ∷ string_text s) ++ x) (behind_texts ss) ∙ sym (flat_map-append (λ o. spell (symbol_of is_unquoted_escape o)) (44 ∷ item_text s) (later_text ss))

list_shown : (s : List ℕ) (ss : List (List ℕ)) → between_commas (map string_text (s ∷ ss)) ≡ text_of is_unquoted_escape (list_text (s ∷ ss))
list_shown s ss =
    ap (λ x. string_text s ++ x) (behind_texts ss) ∙ sym (flat_map-append (λ o. spell (symbol_of is_unquoted_escape o)) (item_text s) (later_text ss))

octet_text_values : (o : ℕ) → o < 256 → AreOctetValues (item_octet o)
octet_text_values o l = elim (cases_Bool (is_special o)) [
  | inl s ↦ subst AreOctetValues (sym (special_octet o s)) (All-cons IsOctet 92 (o ∷ []) (omega arith) (All-cons IsOctet o [] l (All-nil IsOctet)))
  | inr s ↦ subst AreOctetValues (sym (unspecial_octet o s)) (All-cons IsOctet o [] l (All-nil IsOctet))
]

pub item_text_values : (item : List ℕ) → AreOctetValues item → AreOctetValues (item_text item)
item_text_values [] h = All-nil IsOctet
item_text_values (o ∷ os) h = All-append IsOctet (item_octet o) (item_text os) (octet_text_values o (All-head IsOctet o os h)) (item_text_values os (All-tail IsOctet o os h))

later_text_values : (strings : List (List ℕ)) → AreOctetValues (wire_strings strings) → AreOctetValues (later_text strings)
later_text_values [] h = All-nil IsOctet
later_text_values (s ∷ ss) h =
    let own = All-tail IsOctet (length s) s (values_front (length s ∷ s) (wire_strings ss) h) in
    All-append IsOctet (44 ∷ item_text s) (later_text ss) (All-cons IsOctet 44 (item_text s) (omega arith) (item_text_values s own)) (later_text_values ss (values_back (length s ∷ s) (wire_strings ss) h))

list_text_values : (strings : List (List ℕ)) → AreOctetValues (wire_strings strings) → AreOctetValues (list_text strings)
list_text_values [] h = All-nil IsOctet
list_text_values (s ∷ ss) h =
    let own = All-tail IsOctet (length s) s (values_front (length s ∷ s) (wire_strings ss) h) in
    All-append IsOctet (item_text s) (later_text ss) (item_text_values s own) (later_text_values ss (values_back (length s ∷ s) (wire_strings ss) h))

pub strings_back : (octets : List ℕ) → octets ≢ [] → AreWireStrings octets → AreOctetValues octets → SpellsStrings (items_text Strings octets) octets
strings_back octets some ([], each, whole) h = absurd (some whole)
strings_back octets some (s ∷ ss, each, whole) h =
    let shown : items_text Strings octets ≡ text_of is_unquoted_escape (list_text (s ∷ ss)) =
    ap (items_text Strings) whole ∙ ap (λ items. between_commas (map (value_item_text Strings) items)) (string_items (s ∷ ss)) ∙ ap between_commas (string_texts (s ∷ ss)) ∙ list_shown s ss in
    let values : AreOctetValues (wire_strings (s ∷ ss)) = subst AreOctetValues whole h in
    record {
      list = list_text (s ∷ ss);
      spelled = subst (λ text. SpellsOctetList text (list_text (s ∷ ss))) (sym shown) (unquoted_spells (list_text (s ∷ ss)) (list_text_values (s ∷ ss) values));
      items = s ∷ ss;
      is_list = record { some = λ e. absurd cc; each = each };
      listed = refl;
      whole = whole;
    }

-- ---- keys

abbrev key_list : List ℕ → List ℕ
key_list [] = []
key_list (high ∷ []) = []
key_list (high ∷ low ∷ octets) = (256 * high + low) ∷ key_list octets

-- keys from a number on, each above the one before it
abbrev Ascends : ℕ → List ℕ → Type 0
Ascends low [] = Unit {0}
Ascends low (k ∷ ks) = (low ≤ k) × Ascends (k + 1) ks

module _ (params : List (ℕ × List ℕ)) where
  key_texts : (above : ℕ) (octets : List ℕ) → AreKeys params above octets → map (value_item_text Keys) (value_items Keys octets) ≡ map key_text (key_list octets)
  key_texts above [] h = ap (map (value_item_text Keys)) (items_none Keys [] refl)
  key_texts above (high ∷ []) h = absurd h
  key_texts above (high ∷ low ∷ octets) h =
      let same : from_be_bytes w16 (high ∷ low ∷ []) ≡ 256 * high + low = omega arith in
      ap (map (value_item_text Keys)) (items_first Keys (high ∷ low ∷ octets) 2 (omega arith) refl)
      ∙ ap (λ n. key_text n ∷ map (value_item_text Keys) (value_items Keys octets)) same
      ∙ ap (λ texts. key_text (256 * high + low) ∷ texts) (key_texts (256 * high + low) octets h.2)

  keys_ascend : (above : ℕ) (octets : List ℕ) → AreKeys params above octets → Ascends (above + 1) (key_list octets)
  keys_ascend above [] h = tt
  keys_ascend above (high ∷ []) h = absurd h
  keys_ascend above (high ∷ low ∷ octets) h = (omega (arith, h.0), keys_ascend (256 * high + low) octets h.2)

  keys_whole : (above : ℕ) (octets : List ℕ) → AreKeys params above octets → AreOctetValues octets → flat_map (to_be_bytes w16) (key_list octets) ≡ octets
  keys_whole above [] h v = refl
  keys_whole above (high ∷ []) h v = absurd h
  keys_whole above (high ∷ low ∷ octets) h v =
      let a = All-head IsOctet high (low ∷ octets) v in
      let more = All-tail IsOctet high (low ∷ octets) v in
      let b = All-head IsOctet low octets more in
      let first : (256 * high + low) / 256 % 256 ≡ high = omega (arith, a, b) in
      let second : (256 * high + low) % 256 ≡ low = omega (arith, a, b) in
      let rest = keys_whole (256 * high + low) octets h.2 (All-tail IsOctet low octets more) in
      λ i. first i ∷ second i ∷ rest i

small_keys : (octets : List ℕ) → AreOctetValues octets → All (λ k. k < 65536) (key_list octets)
small_keys [] v = All-nil (λ k. k < 65536)
small_keys (high ∷ []) v = All-nil (λ k. k < 65536)
small_keys (high ∷ low ∷ octets) v =
    let a = All-head IsOctet high (low ∷ octets) v in
    let more = All-tail IsOctet high (low ∷ octets) v in
    let b = All-head IsOctet low octets more in
    All-cons (λ k. k < 65536) (256 * high + low) (key_list octets) (omega (arith, a, b)) (small_keys octets (All-tail IsOctet low octets more))

all_above : (low : ℕ) (ks : List ℕ) → Ascends low ks → All (λ k. low ≤ k) ks
all_above low [] h = All-nil (λ k. low ≤ k)
all_above low (k ∷ ks) h = All-cons (λ j. low ≤ j) k ks h.0 (All-weaker (λ j. k + 1 ≤ j) (λ j. low ≤ j) (λ j l. omega (arith, l, h.0)) ks (all_above (k + 1) ks h.1))

apart_keys : (k : ℕ) (ks : List ℕ) → All (λ j. k + 1 ≤ j) ks → AllPairs (λ a b. a ≢ b) ks → AllPairs (λ a b. a ≢ b) (k ∷ ks)
apart_keys k ks low up zero zero d l m = absurd (omega (arith, l))
apart_keys k ks low up zero (suc j) d l m = λ e. (let above = low j d (omega (arith, m)) in omega (arith, above, e))
apart_keys k ks low up (suc i) zero d l m = absurd (omega (arith, l))
apart_keys k ks low up (suc i) (suc j) d l m = up i j d (omega (arith, l)) (omega (arith, m))

keys_once : (low : ℕ) (ks : List ℕ) → Ascends low ks → AllPairs (λ a b. a ≢ b) ks
keys_once low [] h = λ i j d l m. absurd (omega (arith, m))
keys_once low (k ∷ ks) h = apart_keys k ks (all_above (k + 1) ks h.1) (keys_once (k + 1) ks h.1)

-- a key below the others is not among them
has_none : (low : ℕ) (ks : List ℕ) (w : ℕ) → Ascends low ks → w < low → has ks w ≡ false
has_none low [] w h l = refl
has_none low (k ∷ ks) w h l =
    let later : has ks w ≡ false = has_none (k + 1) ks w h.1 (omega (arith, h.0, l)) in rw (ne_eqb k w (λ e. omega (arith, h.0, l, e)), later) refl

-- a key below a number makes no difference from it on
skip_key : (k : ℕ) (ks : List ℕ) (w n : ℕ) → k < w → keys_from (k ∷ ks) w n ≡ keys_from ks w n
skip_key k ks w zero l = keys_zero (k ∷ ks) w ∙ sym (keys_zero ks w)
skip_key k ks w (suc n) l =
    let other : has (k ∷ ks) w ≡ has ks w = rw (ne_eqb k w (λ e. omega (arith, l, e))) refl in
    keys_first (k ∷ ks) w n ∙ ap (λ b. cond b (to_be_bytes w16 w) [] ++ keys_from (k ∷ ks) (w + 1) n) other
    ∙ ap (λ x. cond (has ks w) (to_be_bytes w16 w) [] ++ x) (skip_key k ks (w + 1) n (omega (arith, l))) ∙ sym (keys_first ks w n)

-- ascending keys, one after another
in_order : (w n : ℕ) (ks : List ℕ) → Ascends w ks → All (λ k. k < w + n) ks → keys_from ks w n ≡ flat_map (to_be_bytes w16) ks
in_order w zero [] h l = keys_zero [] w
in_order w zero (k ∷ ks) h l = absurd (let small = All-head (λ k. k < w + zero) k ks l in omega (arith, h.0, small))
in_order w (suc n) [] h l = keys_first [] w n ∙ in_order (w + 1) n [] tt (All-nil (λ k. k < w + 1 + n))
in_order w (suc n) (k ∷ ks) h l = elim (cases_eq k w) [
  | inl same ↦
      let here : has (k ∷ ks) w ≡ true = rw (eq-eqb k w same) refl in
      keys_first (k ∷ ks) w n ∙ ap (λ b. cond b (to_be_bytes w16 w) [] ++ keys_from (k ∷ ks) (w + 1) n) here
      ∙ ap (λ x. to_be_bytes w16 w ++ x) (skip_key k ks (w + 1) n (omega (arith, same))
      ∙ in_order (w + 1) n ks (subst (λ v. Ascends (v + 1) ks) same h.1) (All-weaker (λ k. k < w + suc n) (λ k. k < w + 1 + n) (λ k b. omega (arith, b)) ks (All-tail (λ k. k < w + suc n) k ks l)))
      ∙ ap (λ v. to_be_bytes w16 v ++ flat_map (to_be_bytes w16) ks) (sym same)
  | inr other ↦
      let later : has ks w ≡ false = has_none (k + 1) ks w h.1 (omega (arith, h.0)) in
      let none : has (k ∷ ks) w ≡ false = rw (ne_eqb k w other, later) refl in
      keys_first (k ∷ ks) w n ∙ ap (λ b. cond b (to_be_bytes w16 w) [] ++ keys_from (k ∷ ks) (w + 1) n) none
      ∙ in_order (w + 1) n (k ∷ ks) (omega (arith, h.0, other), h.1) (All-weaker (λ k. k < w + suc n) (λ k. k < w + 1 + n) (λ k b. omega (arith, b)) (k ∷ ks) l)
]

pub keys_back : (params : List (ℕ × List ℕ)) (octets : List ℕ) → octets ≢ [] → AreKeys params 0 octets → AreOctetValues octets → SpellsKeys (items_text Keys octets) octets
keys_back params octets some is h =
    let ks = key_list octets in
    let up = keys_ascend params 0 octets is in
    let small = small_keys octets h in
    let whole = keys_whole params 0 octets is h in
    let there : map key_text ks ≢ [] = λ e. some (sym whole ∙ ap (flat_map (to_be_bytes w16)) (map_none key_text ks e)) in
    let low : Ascends 0 ks = from_zero ks up in
    record {
      keys = ks;
      named = subst (λ texts. SpellsApart NamesAKey (between_commas texts) ks) (sym (key_texts params 0 octets is))
          (spells_between NamesAKey (map key_text ks) ks there (all_map (λ k. k < 65536) (All IsNoMark) key_text key_no_marks ks small) (zip_map (λ k. k < 65536) NamesAKey key_text key_named ks small));
      once = keys_once 1 ks up;
      whole = sym whole ∙ sym (in_order 0 65536 ks low small);
    }
  where
    from_zero : (ks : List ℕ) → Ascends 1 ks → Ascends 0 ks
    from_zero [] h = tt
    from_zero (k ∷ ks) h = (omega arith, h.1)
