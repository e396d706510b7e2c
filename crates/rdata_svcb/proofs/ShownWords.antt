-- Parameters print as words.
use Rattle.std.proofs.Common.{ℕ, zero, suc, ◌≡◌, ◌<◌, ◌≤◌, ◌-◌, ◌%◌, ◌&&◌, Bool, true, List, [], ◌∷◌, ◌++◌, length, map, take, drop, replicate, decimal, refl, sym, subst, ap, ◌∙◌, arith, inl, inr, length-append}
use Rattle.std.specs.Prelude.{All, codes, nat_lt, slice_index}
use Rattle.std.specs.Int.{IsInRange, w16, from_be_bytes}
use Rattle.std.specs.List.{flat_map, list_all, AllByRecursion}
use Rattle.std.specs.Net.Addr.{segments_of, octets_of}
use Rattle.std.specs.Net.Text.{ipv4_text, ipv6_text, hex_groups_text}
use Rattle.std.specs.Str.{bytes_eq}
use Rattle.std.proofs.NetLemmas.Alphabet.{IsDigitOrDot, IsHexOrColon, All-ipv4_text, All-hex_groups_text}
use Rattle.std.proofs.NetLemmas.Texts.{AllSegments, AllSegments-drop}
use Rattle.std.proofs.lemmas.Bool.{and_parts, cond_both}
use Rattle.std.proofs.lemmas.Bool.Decides.{nat_tests}
use Rattle.std.proofs.lemmas.Fmt.{decimal_is_IsNumeral}
use Rattle.std.proofs.lemmas.Grind.{flat_map-append}
use Rattle.std.proofs.lemmas.Str.{encode_ascii, encodes-IsAscii}
use Rattle.std.proofs.lemmas.Str.Parse.{digit_at}
use Rattle.std.proofs.lemmas.List.Elements.{All-head, All-tail, All-take, All-drop, All-from_get_or}
use Rattle.std.proofs.lemmas.List.Folds.{list_all-append}
use Rattle.dns_codec.specs.Bits.{digits}
use Rattle.dns_codec.specs.Base.{Base, base64, digit_char, padded, encoded}
use Rattle.rdata_values.specs.Addresses.{has_ipv4_end, shown_ipv6}
use Rattle.rdata_tokens.specs.Spelling.{AreOctetValues}
use Rattle.dns_lexer.specs.Token.{IsWord}
use Rattle.dns_symbol.specs.Symbol.{bytes, is_word_symbol}
use Rattle.dns_symbol.specs.Printed.{symbol_of, text_of, is_unquoted_escape}
use Rattle.dns_symbol.specs.declared.symbol.Symbol.{Symbol}
use Rattle.dns_symbol.specs.declared.symbol.Symbol.TheVariants.{Char}
use Rattle.dns_symbol.proofs.PrintedForms.{all_unquoted_words, printed_ascii, printed_bytes}
use Rattle.rdata_svcb.specs.ShownParams.{item_width, first_items, value_items, value_item_text, items_text, after_commas, between_commas, key_text, value_text, value_after_key, shown_kind, param_text}
use Rattle.rdata_svcb.specs.declared.keys.ValueKind.{ValueKind}
use Rattle.rdata_svcb.specs.declared.keys.ValueKind.TheVariants.{Keys, Strings, Nothing, Port, Ipv4, Digits, Ipv6, Octets}
use Rattle.rdata_svcb.proofs.ShownKeys.{by_key, high_key}
use Rattle.rdata_svcb.proofs.ShownValues.{item_text_values, octet_at, segment_at, small_octets}

abbrev IsOctet : ℕ → Type 0
IsOctet o = o < 256

-- symbols that may be in a word, perhaps none
record StandsInWord (text : List ℕ) : Type 0 where
  symbols : List Symbol
  valid : list_all is_word_symbol symbols ≡ true
  spelled : text ≡ flat_map bytes symbols

append_stands : (a b : List ℕ) → StandsInWord a → StandsInWord b → StandsInWord (a ++ b)
append_stands a b h k = record {
  symbols = h.symbols ++ k.symbols;
  valid = rw (list_all-append is_word_symbol h.symbols k.symbols, h.valid, k.valid) refl;
  spelled = ap (λ x. x ++ b) h.spelled ∙ ap (λ x. flat_map bytes h.symbols ++ x) k.spelled ∙ sym (flat_map-append bytes h.symbols k.symbols);
}

-- ---- characters that print as themselves

abbrev is_plain_char : ℕ → Bool
is_plain_char c = nat_lt c 128 && is_word_symbol (Char c)

abbrev ArePlain : List ℕ → Type 0
ArePlain text = list_all is_plain_char text ≡ true

plain_low : (c : ℕ) → is_plain_char c ≡ true → c < 128
plain_low c h = let test = (and_parts (nat_lt c 128) (is_word_symbol (Char c)) h).0 in grind (arith, nat_tests)

char_stands : (c : ℕ) → is_plain_char c ≡ true → StandsInWord (c ∷ [])
char_stands c h = record {
  symbols = Char c ∷ [];
  valid = rw ((and_parts (nat_lt c 128) (is_word_symbol (Char c)) h).1) refl;
  spelled = ap (λ u. (u ++ []) ++ []) (sym (encode_ascii c (plain_low c h)));
}

plain_stands : (text : List ℕ) → ArePlain text → StandsInWord text
plain_stands [] h = record { symbols = []; valid = refl; spelled = refl }
plain_stands (c ∷ cs) h = let parts = and_parts (is_plain_char c) (list_all is_plain_char cs) h in append_stands (c ∷ []) cs (char_stands c parts.0) (plain_stands cs parts.1)

all_plain : (P : ℕ → Type 0) → ((c : ℕ) → P c → is_plain_char c ≡ true) → (text : List ℕ) → All P text → ArePlain text
all_plain P own [] h = refl
all_plain P own (c ∷ cs) h = let later = all_plain P own cs (All-tail P c cs h) in rw (own c (All-head P c cs h), later) refl

both_plain : (a b : List ℕ) → ArePlain a → ArePlain b → ArePlain (a ++ b)
both_plain a b h k = rw (list_all-append is_plain_char a b, h, k) refl

-- digits and the colon, which follows them in ASCII
low_plain : (c : ℕ) → IsInRange 48 58 c → is_plain_char c ≡ true
low_plain c h = let least = h.0 in let most = h.1 in grind (arith, nat_tests)

hex_plain : (c : ℕ) → IsHexOrColon c → is_plain_char c ≡ true
hex_plain c (inl h) = low_plain c h
hex_plain c (inr h) = let least = h.0 in let most = h.1 in grind (arith, nat_tests)

dot_plain : (c : ℕ) → IsDigitOrDot c → is_plain_char c ≡ true
dot_plain c (inl h) = low_plain c (h.0, omega (arith, h.1))
dot_plain c (inr h) = rw h refl

decimal_plain : (n : ℕ) → n < 65536 → ArePlain (decimal n)
decimal_plain n small = all_plain (IsInRange 48 57) (λ c h. low_plain c (h.0, omega (arith, h.1))) (decimal n)
    (All-from_get_or (IsInRange 48 57) (decimal n) 0 (λ i l. digit_at (decimal n) i (decimal_is_IsNumeral n (omega (arith, small))).0.1 l))

-- ---- keys

record IsPlainKey (key : ℕ) : Type 0 where
  some : 0 < length (key_text key)
  plain : ArePlain (key_text key)

high_plain : (key : ℕ) → 7 ≤ key → key < 65536 → IsPlainKey key
high_plain key high small =
    let is = high_key key high in
    record { some = omega (arith, ap length is); plain = subst ArePlain (sym is) (both_plain (codes "key") (decimal key) refl (decimal_plain key small)) }

key_plain : (key : ℕ) → key < 65536 → IsPlainKey key
key_plain = by_key (λ key. key < 65536 → IsPlainKey key)
    (λ l. record { some = omega arith; plain = refl }) (λ l. record { some = omega arith; plain = refl }) (λ l. record { some = omega arith; plain = refl }) (λ l. record { some = omega arith; plain = refl })
    (λ l. record { some = omega arith; plain = refl }) (λ l. record { some = omega arith; plain = refl }) (λ l. record { some = omega arith; plain = refl }) high_plain

-- ---- values

ending_plain : (front segments : List ℕ) → ArePlain front → AllSegments segments → ArePlain (front ++ ipv4_text (octets_of (drop 6 segments)))
ending_plain front segments h small =
    both_plain front (ipv4_text (octets_of (drop 6 segments))) h
    (all_plain IsDigitOrDot dot_plain (ipv4_text (octets_of (drop 6 segments))) (All-ipv4_text (octets_of (drop 6 segments)) (small_octets (drop 6 segments) (AllSegments-drop 6 segments small))))

groups_plain : (segments : List ℕ) → AllSegments segments → ArePlain (ipv6_text segments)
unfolding ipv6_text
groups_plain segments small =
    cond_both (bytes_eq (take 6 segments) (0 ∷ 0 ∷ 0 ∷ 0 ∷ 0 ∷ 0xffff ∷ [])) (codes "::ffff:" ++ ipv4_text (octets_of (drop 6 segments))) (hex_groups_text segments) ArePlain
    (λ _. ending_plain (codes "::ffff:") segments refl small)
    (λ _. all_plain IsHexOrColon hex_plain (hex_groups_text segments) (All-hex_groups_text segments small))

ipv6_plain : (segments : List ℕ) → AllSegments segments → ArePlain (shown_ipv6 segments)
ipv6_plain segments small =
    cond_both (has_ipv4_end segments) (codes "::" ++ ipv4_text (octets_of (drop 6 segments))) (ipv6_text segments) ArePlain
    (λ _. ending_plain (codes "::") segments refl small) (λ _. groups_plain segments small)

unquoted_stands : (octets : List ℕ) → AreOctetValues octets → StandsInWord (text_of is_unquoted_escape octets)
unquoted_stands octets h = record {
  symbols = map (symbol_of is_unquoted_escape) octets;
  valid = all_unquoted_words octets h;
  spelled = sym (encodes-IsAscii (text_of is_unquoted_escape octets) (printed_ascii is_unquoted_escape octets h)) ∙ printed_bytes is_unquoted_escape octets;
}

character_plain : (alphabet : List ℕ) (k : ℕ) → ArePlain alphabet → is_plain_char (slice_index alphabet k) ≡ true
character_plain [] k h = refl
character_plain (x ∷ xs) zero h = (and_parts (is_plain_char x) (list_all is_plain_char xs) h).0
character_plain (x ∷ xs) (suc k) h = character_plain xs k (and_parts (is_plain_char x) (list_all is_plain_char xs) h).1

characters_plain : (alphabet ps rest : List ℕ) → ArePlain alphabet → ArePlain rest → ArePlain (map (slice_index alphabet) ps ++ rest)
characters_plain alphabet [] rest h others = others
characters_plain alphabet (p ∷ ps) rest h others = let later = characters_plain alphabet ps rest h others in rw (character_plain alphabet p h, later) refl

padding_plain : (n : ℕ) → ArePlain (replicate n 61)
padding_plain zero = refl
padding_plain (suc n) = let later = padding_plain n in rw later refl

encoded_plain : (b : Base) (octets : List ℕ) → ArePlain b.alphabet → ArePlain (encoded b octets)
unfolding encoded padded digit_char
encoded_plain b octets h =
    characters_plain b.alphabet (digits b.width octets) _ h (padding_plain ((b.unit - length (map (digit_char b) (digits b.width octets)) % b.unit) % b.unit))

number_small : (item : List ℕ) → AreOctetValues item → length item ≤ 2 → from_be_bytes w16 item < 65536
number_small [] h l = omega arith
number_small (a ∷ []) h l = let high = All-head IsOctet a [] h in omega (arith, high)
number_small (a ∷ b ∷ []) h l = let high = All-head IsOctet a (b ∷ []) h in let low = All-head IsOctet b [] (All-tail IsOctet a (b ∷ []) h) in omega (arith, high, low)
number_small (a ∷ b ∷ c ∷ item) h l = absurd (omega (arith, l))

drop_first : (item : List ℕ) → AreOctetValues item → AreOctetValues (drop 1 item)
drop_first item h = All-drop IsOctet 1 item h

nothing_stands : StandsInWord []
nothing_stands = record { symbols = []; valid = refl; spelled = refl }

-- an item of at most the number of octets that its kind has
item_stands : (kind : ValueKind) (octets : List ℕ) → AreOctetValues octets → StandsInWord (value_item_text kind (take (item_width kind octets) octets))
item_stands Keys octets h =
    let item = take 2 octets in plain_stands (key_text (from_be_bytes w16 item)) (key_plain (from_be_bytes w16 item) (number_small item (All-take IsOctet 2 octets h) (few octets))).plain
  where
    few : (octets : List ℕ) → length (take 2 octets) ≤ 2
    few [] = omega arith
    few (a ∷ []) = omega arith
    few (a ∷ b ∷ octets) = omega arith
item_stands Strings octets h =
    let item = take (item_width Strings octets) octets in
    unquoted_stands _ (item_text_values (drop 1 item) (drop_first item (All-take IsOctet (item_width Strings octets) octets h)))
item_stands Nothing octets h = nothing_stands
item_stands Port octets h =
    let item = take 2 octets in plain_stands (decimal (from_be_bytes w16 item)) (decimal_plain (from_be_bytes w16 item) (number_small item (All-take IsOctet 2 octets h) (few octets)))
  where
    few : (octets : List ℕ) → length (take 2 octets) ≤ 2
    few [] = omega arith
    few (a ∷ []) = omega arith
    few (a ∷ b ∷ octets) = omega arith
item_stands Ipv4 octets h =
    let item = take 4 octets in plain_stands (ipv4_text item) (all_plain IsDigitOrDot dot_plain (ipv4_text item) (All-ipv4_text item (octet_at item (All-take IsOctet 4 octets h))))
item_stands Digits octets h = nothing_stands
item_stands Ipv6 octets h =
    let item = take 16 octets in plain_stands (shown_ipv6 (segments_of item)) (ipv6_plain (segments_of item) (segment_at item (All-take IsOctet 16 octets h)))
item_stands Octets octets h = nothing_stands

fronts_stand : (kind : ValueKind) (n : ℕ) (octets : List ℕ) → AreOctetValues octets → AllByRecursion StandsInWord (map (value_item_text kind) (first_items kind n octets))
fronts_stand kind zero octets h = tt
fronts_stand kind (suc n) [] h = tt
fronts_stand kind (suc n) (x ∷ octets) h =
    let w = item_width kind (x ∷ octets) in (item_stands kind (x ∷ octets) h, fronts_stand kind n (drop w (x ∷ octets)) (All-drop IsOctet w (x ∷ octets) h))

comma_stands : StandsInWord (44 ∷ [])
comma_stands = char_stands 44 refl

behind_stand : (texts : List (List ℕ)) → AllByRecursion StandsInWord texts → StandsInWord (after_commas texts)
behind_stand [] h = nothing_stands
behind_stand (t ∷ ts) h = append_stands (44 ∷ t) (after_commas ts) (append_stands (44 ∷ []) t comma_stands h.0) (behind_stand ts h.1)

between_stand : (texts : List (List ℕ)) → AllByRecursion StandsInWord texts → StandsInWord (between_commas texts)
between_stand [] h = nothing_stands
between_stand (t ∷ ts) h = append_stands t (after_commas ts) h.0 (behind_stand ts h.1)

items_stand : (kind : ValueKind) (octets : List ℕ) → AreOctetValues octets → StandsInWord (items_text kind octets)
unfolding value_items
items_stand kind octets h = between_stand (map (value_item_text kind) (first_items kind (length octets) octets)) (fronts_stand kind (length octets) octets h)

value_stands : (kind : ValueKind) (octets : List ℕ) → AreOctetValues octets → StandsInWord (value_text kind octets)
value_stands Digits octets h = plain_stands (encoded base64 octets) (encoded_plain base64 octets refl)
value_stands Octets octets h = unquoted_stands octets h
value_stands Keys octets h = items_stand Keys octets h
value_stands Strings octets h = items_stand Strings octets h
value_stands Nothing octets h = items_stand Nothing octets h
value_stands Port octets h = items_stand Port octets h
value_stands Ipv4 octets h = items_stand Ipv4 octets h
value_stands Ipv6 octets h = items_stand Ipv6 octets h

behind_key : (kind : ValueKind) (octets : List ℕ) → AreOctetValues octets → StandsInWord (value_after_key kind octets)
behind_key kind [] h = nothing_stands
behind_key kind (x ∷ octets) h = append_stands (61 ∷ []) (value_text kind (x ∷ octets)) (char_stands 61 refl) (value_stands kind (x ∷ octets) h)

some_symbols : (symbols : List Symbol) (text : List ℕ) → 0 < length text → text ≡ flat_map bytes symbols → 0 < length symbols
some_symbols [] text some e = omega (arith, some, ap length e)
some_symbols (s ∷ ss) text some e = omega arith

-- a parameter is a word
pub param_is_word : (p : ℕ × List ℕ) → p.0 < 65536 → AreOctetValues p.1 → IsWord (param_text p)
param_is_word p small h =
    let key = key_plain p.0 small in
    let all = append_stands (key_text p.0) (value_after_key (shown_kind p.0) p.1) (plain_stands (key_text p.0) key.plain) (behind_key (shown_kind p.0) p.1 h) in
    record { symbols = all.symbols; some = some_symbols all.symbols (param_text p) (omega (arith, key.some, length-append (key_text p.0) (value_after_key (shown_kind p.0) p.1))) all.spelled; valid = all.valid; spelled = all.spelled }
