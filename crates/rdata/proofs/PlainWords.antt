-- Words of a zone file whose characters print as themselves.
use Rattle.std.proofs.Common.{◌≡◌, ℕ, zero, suc, ◌+◌, ◌-◌, ◌/◌, ◌%◌, ◌^◌, ◌<◌, ◌≤◌, Bool, true, false, List, [], ◌∷◌, ◌++◌, length, map, replicate, decimal, refl, sym, ap, subst, ◌∙◌, arith, inl, inr, length-append}
use Rattle.std.specs.Prelude.{All, slice_index, nat_lt, ◌&&◌, ◌==◌, if◌then◌else◌}
use Rattle.std.specs.Char.{digit_value, is_ascii_alphanumeric}
use Rattle.std.specs.List.{list_all, flat_map}
use Rattle.std.specs.Net.Grammar.{IsDotted, IsGroupsAfter, IsIpv4Text, IsIpv6Text}
use Rattle.std.specs.Str.Parse.{AllDigits, IsNumeral}
use Rattle.std.specs.declared.net.ipv4_addr.Ipv4Addr.{Ipv4Addr}
use Rattle.std.specs.declared.net.ipv6_addr.Ipv6Addr.{Ipv6Addr}
use Rattle.std.specs.Fmt.{digits as shown_digits, digits_onto, digit_glyph}
use Rattle.std.proofs.lemmas.Bool.{and_parts}
use Rattle.std.proofs.lemmas.Bool.Decides.{nat_tests}
use Rattle.std.proofs.lemmas.Fmt.{decimal_is_IsNumeral}
use Rattle.std.proofs.lemmas.List.{length-map}
use Rattle.std.proofs.lemmas.List.Elements.{All-head, All-tail}
use Rattle.std.proofs.lemmas.List.Folds.{list_all-append}
use Rattle.std.proofs.lemmas.Str.{encode_ascii}
use Rattle.dns_codec.specs.Bits.{digits}
use Rattle.dns_codec.specs.Base.{Base, base16, base32hex, base64, digit_char, padded, encoded}
use Rattle.rdata_tokens.proofs.Spelling.{size16, size32, size64}
use Rattle.rdata_tails.specs.Nsap.{nsap_text}
use Rattle.rdata_values.specs.Eui.{dashed_text}
use Rattle.rdata_values.specs.Hex.{pair_digit, pair_text, pairs_text, small_pairs}
use Rattle.dns_lexer.specs.Token.{IsWord}
use Rattle.dns_symbol.specs.Symbol.{bytes, is_word_symbol}
use Rattle.dns_symbol.specs.declared.symbol.Symbol.TheVariants.{Char}

-- an ASCII character that prints as itself in a word
abbrev pub is_plain_char : ℕ → Bool
is_plain_char c = nat_lt c 128 && is_word_symbol (Char c)

abbrev pub ArePlain : List ℕ → Type 0
ArePlain text = list_all is_plain_char text ≡ true

-- one such character or more
pub record IsPlainWord (text : List ℕ) : Type 0 where
  pub some : 0 < length text
  pub plain : ArePlain text

-- ---- they are a word

plain_valid : (text : List ℕ) → ArePlain text → list_all is_word_symbol (map (λ c. Char c) text) ≡ true
plain_valid [] all = refl
plain_valid (c ∷ cs) all =
    let parts = and_parts (is_plain_char c) (list_all is_plain_char cs) all in
    rw ((and_parts (nat_lt c 128) (is_word_symbol (Char c)) parts.0).1, plain_valid cs parts.1) refl

plain_low : (c : ℕ) → is_plain_char c ≡ true → c < 128
plain_low c h = let test = (and_parts (nat_lt c 128) (is_word_symbol (Char c)) h).0 in grind (arith, nat_tests)

plain_bytes : (text : List ℕ) → ArePlain text → text ≡ flat_map bytes (map (λ c. Char c) text)
plain_bytes [] all = refl
plain_bytes (c ∷ cs) all =
    let parts = and_parts (is_plain_char c) (list_all is_plain_char cs) all in
    ap (λ l. c ∷ l) (plain_bytes cs parts.1) ∙ ap (λ u. (u ++ []) ++ flat_map bytes (map (λ c. Char c) cs)) (sym (encode_ascii c (plain_low c parts.0)))

pub plain_is_word : (text : List ℕ) → IsPlainWord text → IsWord text
plain_is_word text w = record {
  symbols = map (λ c. Char c) text;
  some = omega (arith, w.some, length-map text (λ c. Char c));
  valid = plain_valid text w.plain;
  spelled = plain_bytes text w.plain;
}

-- ---- texts that are made of others

pub plain_append : (a b : List ℕ) → ArePlain a → ArePlain b → ArePlain (a ++ b)
plain_append a b p q = rw (list_all-append is_plain_char a b, p, q) refl

pub plain_before : (c : ℕ) (cs : List ℕ) → is_plain_char c ≡ true → ArePlain cs → ArePlain (c ∷ cs)
plain_before c cs p q = rw (p, q) refl

pub word_front : (a b : List ℕ) → IsPlainWord a → ArePlain b → IsPlainWord (a ++ b)
word_front a b w q = record { some = omega (arith, w.some, length-append a b); plain = plain_append a b w.plain q }

pub word_before : (c : ℕ) (cs : List ℕ) → is_plain_char c ≡ true → ArePlain cs → IsPlainWord (c ∷ cs)
word_before c cs p q = record { some = omega arith; plain = plain_before c cs p q }

-- ---- digits

pub digit_plain : (c : ℕ) → digit_value c < 16 → is_plain_char c ≡ true
digit_plain c low = grind (arith, nat_tests)

pub digits_plain : (radix : ℕ) (text : List ℕ) → radix ≤ 16 → AllDigits radix text → ArePlain text
digits_plain radix [] few all = refl
digits_plain radix (c ∷ cs) few all = plain_before c cs (digit_plain c (omega (arith, few, all.0))) (digits_plain radix cs few all.1)

pub numeral_word : (radix : ℕ) (text : List ℕ) → radix ≤ 16 → IsNumeral radix text → IsPlainWord text
numeral_word radix text few is = record { some = is.0; plain = digits_plain radix text few is.1 }

pub decimal_word : (n : ℕ) → n < 2 ^ 64 → IsPlainWord (decimal n)
decimal_word n small = numeral_word 10 (decimal n) (omega arith) (decimal_is_IsNumeral n small).0

-- a number of any size
glyph_plain : (d : ℕ) → d < 10 → is_plain_char (digit_glyph false d) ≡ true
glyph_plain d few = grind (arith, nat_tests)

glyph_word : (n : ℕ) (acc : List ℕ) → ArePlain acc → IsPlainWord (digit_glyph false (n % 10) ∷ acc)
glyph_word n acc p = word_before (digit_glyph false (n % 10)) acc (glyph_plain (n % 10) (omega arith)) p

either_word : (b : Bool) (x y : List ℕ) → IsPlainWord x → IsPlainWord y → IsPlainWord (if b then x else y)
either_word true x y h k = h
either_word false x y h k = k

glyphs_word : (k n : ℕ) (acc : List ℕ) → ArePlain acc → IsPlainWord (digits_onto (suc k) 10 false n acc)
glyphs_word zero n acc p =
    let next : List ℕ = digit_glyph false (n % 10) ∷ acc in
    either_word (n / 10 == 0) next next (glyph_word n acc p) (glyph_word n acc p)
glyphs_word (suc k) n acc p =
    let next : List ℕ = digit_glyph false (n % 10) ∷ acc in
    let plain : ArePlain next = plain_before (digit_glyph false (n % 10)) acc (glyph_plain (n % 10) (omega arith)) p in
    either_word (n / 10 == 0) next (digits_onto (suc k) 10 false (n / 10) next) (glyph_word n acc p) (glyphs_word k (n / 10) next plain)

pub any_decimal_word : (n : ℕ) → IsPlainWord (decimal n)
unfolding shown_digits
any_decimal_word n = glyphs_word 63 n [] refl

pub number_char : (n : ℕ) → n < 10 → is_plain_char (48 + n) ≡ true
number_char n few = grind (arith, nat_tests)

-- ---- pairs of digits

capital_pair : (n : ℕ) → n < 16 → is_plain_char (pair_digit 65 n) ≡ true
capital_pair n few = grind (arith, nat_tests)

small_pair : (n : ℕ) → n < 16 → is_plain_char (pair_digit 97 n) ≡ true
small_pair n few = grind (arith, nat_tests)

abbrev IsOctet : ℕ → Type 0
IsOctet o = o < 256

pub pairs_plain : (octets : List ℕ) → All (λ o. o < 256) octets → ArePlain (pairs_text octets)
pairs_plain [] all = refl
pairs_plain (o ∷ os) all =
    let low = All-head IsOctet o os all in
    plain_append (pair_text 65 o) (pairs_text os) (rw (capital_pair (o / 16) (omega (arith, low)), capital_pair (o % 16) (omega (arith, low))) refl) (pairs_plain os (All-tail IsOctet o os all))

pair_word : (o : ℕ) → o < 256 → IsPlainWord (pair_text 97 o)
pair_word o low = record { some = omega arith; plain = rw (small_pair (o / 16) (omega (arith, low)), small_pair (o % 16) (omega (arith, low))) refl }

small_pairs_plain : (octets : List ℕ) → All (λ o. o < 256) octets → ArePlain (small_pairs octets)
small_pairs_plain [] all = refl
small_pairs_plain (o ∷ os) all = plain_append (pair_text 97 o) (small_pairs os) (pair_word o (All-head IsOctet o os all)).plain (small_pairs_plain os (All-tail IsOctet o os all))

-- `0x` and such pairs
pub nsap_word : (octets : List ℕ) → All (λ o. o < 256) octets → IsPlainWord (nsap_text octets)
nsap_word octets all = word_before 48 (120 ∷ small_pairs octets) refl (plain_before 120 (small_pairs octets) refl (small_pairs_plain octets all))

pub dashed_word : (o : ℕ) (octets : List ℕ) → All (λ o. o < 256) (o ∷ octets) → IsPlainWord (dashed_text (o ∷ octets))
dashed_word o [] all = pair_word o (All-head IsOctet o [] all)
dashed_word o (p ∷ os) all =
    let later = dashed_word p os (All-tail IsOctet o (p ∷ os) all) in
    word_front (pair_text 97 o) (45 ∷ dashed_text (p ∷ os)) (pair_word o (All-head IsOctet o (p ∷ os) all)) (plain_before 45 (dashed_text (p ∷ os)) refl later.plain)

-- ---- addresses

pub dotted_word : (text octets : List ℕ) → IsDotted text octets → IsPlainWord text
dotted_word text octets d =
    let a = decimal_word d.a (omega (arith, d.fit.0)) in
    let b = decimal_word d.b (omega (arith, d.fit.1)) in
    let c = decimal_word d.c (omega (arith, d.fit.2)) in
    let e = decimal_word d.d (omega (arith, d.fit.3)) in
    let dot : ArePlain (46 ∷ []) = refl in
    let first = word_front (decimal d.a) (46 ∷ []) a dot in
    let second = word_front (decimal d.a ++ 46 ∷ []) (decimal d.b) first b.plain in
    let third = word_front ((decimal d.a ++ 46 ∷ []) ++ decimal d.b) (46 ∷ []) second dot in
    let fourth = word_front (((decimal d.a ++ 46 ∷ []) ++ decimal d.b) ++ 46 ∷ []) (decimal d.c) third c.plain in
    let fifth = word_front ((((decimal d.a ++ 46 ∷ []) ++ decimal d.b) ++ 46 ∷ []) ++ decimal d.c) (46 ∷ []) fourth dot in
    subst IsPlainWord (sym d.spelled) (word_front (((((decimal d.a ++ 46 ∷ []) ++ decimal d.b) ++ 46 ∷ []) ++ decimal d.c) ++ 46 ∷ []) (decimal d.d) fifth e.plain)

groups_plain : (ipv4 : Bool) (segments lead text : List ℕ) → ArePlain lead → IsGroupsAfter ipv4 lead text segments → ArePlain text
groups_plain ipv4 [] lead text p h = subst ArePlain (sym h) refl
groups_plain ipv4 (s ∷ segments) lead text p (inl h) =
    let group = digits_plain 16 h.0 (omega arith) h.3.0.0.1 in
    let rest = groups_plain ipv4 segments (58 ∷ []) h.1 refl h.4 in
    subst ArePlain (sym h.2) (plain_append (lead ++ h.0) h.1 (plain_append lead h.0 p group) rest)
groups_plain ipv4 (s ∷ segments) lead text p (inr h) = subst ArePlain (sym h.3) (plain_append lead h.0 p (dotted_word h.0 h.1 h.4).plain)

groups_some : (ipv4 : Bool) (segments text : List ℕ) → 0 < length segments → IsGroupsAfter ipv4 [] text segments → 0 < length text
groups_some ipv4 [] text some h = absurd (omega (arith, some))
groups_some ipv4 (s ∷ segments) text some (inl h) = let long = ap length h.2 in omega (arith, long, length-append h.0 h.1, h.3.0.0.0)
groups_some ipv4 (s ∷ segments) text some (inr h) = let long = ap length h.3 in let last = dotted_word h.0 h.1 h.4 in omega (arith, long, last.some)

pub groups_word : (ipv4 : Bool) (segments text : List ℕ) → 0 < length segments → IsGroupsAfter ipv4 [] text segments → IsPlainWord text
groups_word ipv4 segments text some h = record { some = groups_some ipv4 segments text some h; plain = groups_plain ipv4 segments [] text refl h }

pub ipv4_word : (text : List ℕ) (a : Ipv4Addr) → IsIpv4Text text a → IsPlainWord text
ipv4_word text a h = dotted_word text _ h

pub ipv6_word : (text : List ℕ) (a : Ipv6Addr) → IsIpv6Text text a → IsPlainWord text
ipv6_word text a (inl h) = groups_word true a.segments text (omega (arith, h.1)) h.0
ipv6_word text a (inr h) =
    let head = groups_plain false h.head [] h.head_text refl h.head_groups in
    let tail = groups_plain true h.tail [] h.tail_text refl h.tail_groups in
    let colons : ArePlain (58 ∷ 58 ∷ []) = refl in
    subst IsPlainWord (sym h.spelled) (record {
      some = omega (arith, length-append (h.head_text ++ 58 ∷ 58 ∷ []) h.tail_text, length-append h.head_text (58 ∷ 58 ∷ []));
      plain = plain_append (h.head_text ++ 58 ∷ 58 ∷ []) h.tail_text (plain_append h.head_text (58 ∷ 58 ∷ []) head colons) tail;
    })

-- ---- encodings

character_plain : (alphabet : List ℕ) (k : ℕ) → ArePlain alphabet → is_plain_char 0 ≡ true → is_plain_char (slice_index alphabet k) ≡ true
character_plain [] k all zero_too = zero_too
character_plain (x ∷ xs) zero all zero_too = (and_parts (is_plain_char x) (list_all is_plain_char xs) all).0
character_plain (x ∷ xs) (suc k) all zero_too = character_plain xs k (and_parts (is_plain_char x) (list_all is_plain_char xs) all).1 zero_too

characters_plain : (alphabet ps rest : List ℕ) → ArePlain alphabet → ArePlain rest → ArePlain (map (slice_index alphabet) ps ++ rest)
characters_plain alphabet [] rest all others = others
characters_plain alphabet (p ∷ ps) rest all others = plain_before (slice_index alphabet p) (map (slice_index alphabet) ps ++ rest) (character_plain alphabet p all refl) (characters_plain alphabet ps rest all others)

marks_plain : (n : ℕ) → ArePlain (replicate n 61)
marks_plain zero = refl
marks_plain (suc n) = plain_before 61 (replicate n 61) refl (marks_plain n)

encoded_plain : (b : Base) (octets : List ℕ) → ArePlain b.alphabet → ArePlain (encoded b octets)
unfolding encoded padded digit_char
encoded_plain b octets all =
    characters_plain b.alphabet (digits b.width octets) _ all (marks_plain ((b.unit - length (map (digit_char b) (digits b.width octets)) % b.unit) % b.unit))

pub encoded16_word : (octets : List ℕ) → 0 < length octets → IsPlainWord (encoded base16 octets)
encoded16_word octets some = record { some = omega (arith, size16 octets, some); plain = encoded_plain base16 octets refl }

pub encoded32_word : (octets : List ℕ) → 0 < length octets → IsPlainWord (encoded base32hex octets)
encoded32_word octets some = record { some = omega (arith, size32 octets, some); plain = encoded_plain base32hex octets refl }

pub encoded64_word : (octets : List ℕ) → 0 < length octets → IsPlainWord (encoded base64 octets)
encoded64_word octets some = record { some = omega (arith, size64 octets, some); plain = encoded_plain base64 octets refl }

-- ---- letters and digits

letter_plain : (c : ℕ) → is_ascii_alphanumeric c ≡ true → is_plain_char c ≡ true
letter_plain c h = grind (arith, nat_tests)

pub letters_plain : (text : List ℕ) → list_all is_ascii_alphanumeric text ≡ true → ArePlain text
letters_plain [] all = refl
letters_plain (c ∷ cs) all =
    let parts = and_parts (is_ascii_alphanumeric c) (list_all is_ascii_alphanumeric cs) all in
    plain_before c cs (letter_plain c parts.0) (letters_plain cs parts.1)
