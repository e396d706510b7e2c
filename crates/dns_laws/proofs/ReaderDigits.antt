-- Tokens that scanners parse as texts of an encoding, and those that spell octets of RDATA in digits.
use Rattle.std.proofs.Common.{ℕ, zero, suc, ◌≡◌, ◌-◌, ◌*◌, ◌/◌, ◌%◌, ◌<◌, ◌==◌, Bool, true, false, List, [], ◌∷◌, ◌++◌, length, map, replicate, refl, sym, ap, subst, ◌∙◌, arith, append-nil, inl, inr, Some, None, Result, Ok, Err}
use Rattle.std.specs.Prelude.{not, if◌then◌else◌}
use Rattle.std.specs.List.{flat_map, list_all, list_any, concat, AllByRecursion}
use Rattle.std.proofs.lemmas.Bool.{and_parts, cases_lt, cases_eq, eqb-true, not-false}
use Rattle.std.proofs.lemmas.Bool.Decides.{nat_tests}
use Rattle.std.proofs.lemmas.List.Folds.{list_all-append}
use Rattle.std.proofs.lemmas.Str.{encode_ascii}
use Rattle.dns_symbol.specs.Symbol.{bytes, is_printable, char_of}
use Rattle.dns_symbol.specs.declared.symbol.Symbol.{Symbol}
use Rattle.dns_symbol.specs.declared.symbol.Symbol.TheVariants.{Char, SimpleEscape, DecimalEscape}
use Rattle.dns_symbol.specs.declared.error.BadSymbol.{BadSymbol}
use Rattle.dns_symbol.specs.declared.error.BadSymbol.TheVariants.{NonUtf8}
use Rattle.dns_symbol.proofs.Escapes.{bytes_simple}
use Rattle.dns_symbol.proofs.Unique.{symbols_same}
use Rattle.dns_codec.specs.Base.{Base, base16, base32hex, base64, value, IsEncoding}
use Rattle.dns_codec.specs.Grammar.{HaveValues, Decodes, may_end_after, IsEncodingOf}
use Rattle.dns_codec.proofs.Alphabets.{value-past}
use Rattle.dns_codec.proofs.Each.{once}
use Rattle.dns_codec.proofs.Wholes.{HaveValues-length, length-whole}
use Rattle.dns_scan.specs.Join.{IsSymbols}
use Rattle.dns_scan.specs.Tokens.{Token}
use Rattle.rdata_tokens.specs.Spelled.{SpellsDigits, opens_group}
use Rattle.rdata_tokens.proofs.Spelling.{folding16, folding32, plain_chars as chars_alone, spelled_decodes, whole_spells}
use Rattle.dns_laws.specs.Readers.{HasNoBackslash}
use Rattle.dns_laws.proofs.Converted.{plain_symbols, is_plain, plain_read}
use Rattle.dns_laws.proofs.EntryTexts.{plain_parts}
use Rattle.dns_laws.proofs.Spelled.{plain_chars}

-- ---- the characters of an encoding are plain

no_backslash : (b : Base) → IsEncoding b → value b 92 ≡ None
unfolding value
no_backslash b (inl is) = ap (λ x. value x 92) is
no_backslash b (inr (inl is)) = ap (λ x. value x 92) is
no_backslash b (inr (inr is)) = ap (λ x. value x 92) is

valued_plain : (b : Base) → IsEncoding b → (c p : ℕ) → value b c ≡ Some p → is_plain c ≡ true
valued_plain b known c p e = elim (cases_lt c 128) [
  | inl low ↦ elim (cases_eq c 92) [
    | inl same ↦ let bad : None ≡ Some p = sym (no_backslash b known) ∙ subst (λ x. value b x ≡ Some p) same e in cc bad
    | inr other ↦ grind (arith, nat_tests)
  ]
  | inr high ↦ let bad : None ≡ Some p = sym (value-past b known c high) ∙ e in cc bad
]

chars_plain : (b : Base) → IsEncoding b → (cs ps : List ℕ) → HaveValues b cs ps → list_all is_plain cs ≡ true
chars_plain b known [] ps h = refl
chars_plain b known (c ∷ cs) [] h = absurd h
chars_plain b known (c ∷ cs) (p ∷ ps) h = rw (valued_plain b known c p h.0, chars_plain b known cs ps h.1) refl

marks_plain : (n : ℕ) → list_all is_plain (replicate n 61) ≡ true
marks_plain zero = refl
marks_plain (suc n) = marks_plain n

pub decoded_plain : (b : Base) → IsEncoding b → (text octets : List ℕ) → Decodes b text octets → list_all is_plain text ≡ true
decoded_plain b known text octets d =
    let n : ℕ = (b.unit - length d.chars % b.unit) % b.unit in
    ap (list_all is_plain) d.spelled ∙ list_all-append is_plain d.chars (replicate n 61) ∙ rw (chars_plain b known d.chars d.digits d.valued, marks_plain n) refl

-- ---- what spells octets is read

spelled_encoding : (b : Base) → IsEncoding b → (text octets : List ℕ) → SpellsDigits b text octets → IsEncodingOf b text octets
spelled_encoding b known text octets h =
    let d = spelled_decodes b known text octets h in
    record { symbols = plain_symbols text; read = plain_read text (decoded_plain b known text octets d); text = text; chars = plain_chars text; decodes = d }

pub digits_read : (b : Base) → IsEncoding b → (tokens : List Token) (octets : List ℕ) → SpellsDigits b (concat tokens) octets
    → AllByRecursion IsSymbols tokens × IsEncodingOf b (concat tokens) octets
digits_read b known tokens octets h =
    let is = spelled_encoding b known (concat tokens) octets h in
    (plain_parts tokens (decoded_plain b known (concat tokens) octets (spelled_decodes b known (concat tokens) octets h)), is)

-- a text of an encoding has one value
abbrev all_ok : List ℕ → List (Result ℕ BadSymbol)
all_ok = map (λ c. Ok c)

same_chars : (xs ys : List ℕ) → all_ok xs ≡ all_ok ys → xs ≡ ys
same_chars [] [] h = refl
same_chars [] (y ∷ ys) h = absurd (cc)
same_chars (x ∷ xs) [] h = absurd (cc)
same_chars (x ∷ xs) (y ∷ ys) h =
    let first : x ≡ y = cc in
    let others : all_ok xs ≡ all_ok ys = cc in
    (λ i. first i ∷ same_chars xs ys others i)

pub digits_same : (b : Base) → IsEncoding b → (text u v : List ℕ) → IsEncodingOf b text u → SpellsDigits b text v → u ≡ v
digits_same b known text u v h k =
    let other = spelled_encoding b known text v k in
    let same = symbols_same text h.symbols other.symbols None None h.read other.read in
    let chars : h.text ≡ other.text = same_chars h.text other.text (sym h.chars ∙ ap (map char_of) same.0 ∙ other.chars) in
    once b known other.text u v (subst (λ t. Decodes b t u) chars h.decodes) other.decodes

-- ---- what is read without escapes, as whole groups, spells octets

own_chars : (xs : List Symbol) (cs : List ℕ) → map char_of xs ≡ map Ok cs → list_all is_plain cs ≡ true → HasNoBackslash (flat_map bytes xs) → flat_map bytes xs ≡ cs
own_chars [] [] h plain none = refl
own_chars [] (c ∷ cs) h plain none = absurd (cc)
own_chars (x ∷ xs) [] h plain none = absurd (cc)
own_chars (x ∷ xs) (c ∷ cs) h plain none =
    let first : char_of x ≡ Ok c = cc in
    let others : map char_of xs ≡ map Ok cs = cc in
    let is = and_parts (is_plain c) (list_all is_plain cs) plain in
    let parts = and_parts (list_all no_escape (bytes x)) (list_all no_escape (flat_map bytes xs)) (sym (list_all-append no_escape (bytes x) (flat_map bytes xs)) ∙ none) in
    let here = one x first is.0 parts.0 in
    (λ i. here i ++ own_chars xs cs others is.1 parts.1 i)
  where
    no_escape : ℕ → Bool
    no_escape c = not (c == 92)

    one : (x : Symbol) → char_of x ≡ Ok c → is_plain c ≡ true → list_all no_escape (bytes x) ≡ true → bytes x ≡ c ∷ []
    one (Char a) e p k =
        let same : a ≡ c = cc in
        let low : a < 128 = rw same (grind (arith, nat_tests)) in
        ap (λ t. t ++ []) (encode_ascii a low) ∙ ap (λ n. n ∷ []) same
    one (SimpleEscape o) e p k = by_test (is_printable o) refl e
      where
        by_test : (q : Bool) → is_printable o ≡ q → (if q then Ok o else Err NonUtf8) ≡ Ok c → bytes (SimpleEscape o) ≡ c ∷ []
        by_test true shown f =
            let low : o < 128 = grind (arith, nat_tests) in
            let bad : false ≡ true = sym (ap (list_all no_escape) (bytes_simple o low)) ∙ k in
            absurd (cc)
        by_test false shown f = absurd (cc)
    one (DecimalEscape o) e p k = absurd (cc)

-- how many characters a text doesn't end after
ends16 : (n : ℕ) → may_end_after base16 n ≡ true → n % 2 ≡ 1 → ⊥
ends16 n h e = let bad : false ≡ true = subst (λ r. list_any (λ x. x == r) base16.lasts ≡ true) e h in cc bad

abbrev Ends32 : ℕ → Type 0
Ends32 r = list_any (λ x. x == r) base32hex.lasts ≡ true

ends32 : (n : ℕ) → may_end_after base32hex n ≡ true → (n % 8 ≡ 1 → ⊥) × (n % 8 ≡ 3 → ⊥) × (n % 8 ≡ 6 → ⊥)
ends32 n h = (
  (λ e. let bad : false ≡ true = subst Ends32 e h in cc bad),
  (λ e. let bad : false ≡ true = subst Ends32 e h in cc bad),
  (λ e. let bad : false ≡ true = subst Ends32 e h in cc bad),
)

ends64 : (n : ℕ) → may_end_after base64 n ≡ true → n % 4 ≡ 1 → ⊥
ends64 n h e = let bad : false ≡ true = subst (λ r. list_any (λ x. x == r) base64.lasts ≡ true) e h in cc bad

no_open : (w g n : ℕ) → not (8 * n % (w * g) == 0) ≡ false → 8 * n % (w * g) ≡ 0
no_open w g n h = eqb-true (8 * n % (w * g)) 0 (not-false (8 * n % (w * g) == 0) h)

module _ (text octets : List ℕ) where
  groups16 : Decodes base16 text octets → SpellsDigits base16 text octets
  groups16 d =
      let all = chars_alone base16 folding16 text octets d in
      let same = HaveValues-length base16 d.chars d.digits d.valued in
      let count = ap length d.value_is ∙ length-whole 4 d.digits in
      let n : ℕ = length d.chars in
      let even : n % 2 ≡ 0 = elim (cases_eq (n % 2) 1) [
        | inl odd ↦ absurd (ends16 n d.count odd)
        | inr other ↦ omega (arith, other)
      ] in
      whole_spells base16 (inl refl) text octets d all (omega (arith, same, count, even)) (omega arith)

  groups32 : Decodes base32hex text octets → opens_group base32hex octets ≡ false → SpellsDigits base32hex text octets
  groups32 d h =
      let all = chars_alone base32hex folding32 text octets d in
      let same = HaveValues-length base32hex d.chars d.digits d.valued in
      let count = ap length d.value_is ∙ length-whole 5 d.digits in
      let n : ℕ = length d.chars in
      let multiple : 8 * length octets % 40 ≡ 0 = no_open 5 8 (length octets) h in
      let ends = ends32 n d.count in
      let none : n % 8 ≡ 0 = from n (length octets) ends (omega (arith, same, count)) multiple in
      whole_spells base32hex (inr (inl refl)) text octets d all (omega (arith, same, count, none)) (omega arith)
    where
      from : (n v : ℕ) → (n % 8 ≡ 1 → ⊥) × (n % 8 ≡ 3 → ⊥) × (n % 8 ≡ 6 → ⊥) → v ≡ n * 5 / 8 → 8 * v % 40 ≡ 0 → n % 8 ≡ 0
      from n v ends is multiple = elim (cases_eq (n % 8) 1) [
        | inl e ↦ absurd (ends.0 e)
        | inr a ↦ elim (cases_eq (n % 8) 3) [
          | inl e ↦ absurd (ends.1 e)
          | inr b ↦ elim (cases_eq (n % 8) 6) [
            | inl e ↦ absurd (ends.2 e)
            | inr c ↦ omega (arith, a, b, c, is, multiple)
          ]
        ]
      ]

  groups64 : Decodes base64 text octets → opens_group base64 octets ≡ false → SpellsDigits base64 text octets
  groups64 d h =
      let same = HaveValues-length base64 d.chars d.digits d.valued in
      let count = ap length d.value_is ∙ length-whole 6 d.digits in
      let n : ℕ = length d.chars in
      let multiple : 8 * length octets % 24 ≡ 0 = no_open 6 4 (length octets) h in
      let four : n % 4 ≡ 0 = elim (cases_eq (n % 4) 1) [
        | inl e ↦ absurd (ends64 n d.count e)
        | inr other ↦ omega (arith, other, same, count, multiple)
      ] in
      let none : (4 - n % 4) % 4 ≡ 0 = omega (arith, four) in
      let all : text ≡ d.chars = d.spelled ∙ ap (λ m. d.chars ++ replicate m 61) none ∙ append-nil d.chars in
      let size = ap length all in
      whole_spells base64 (inr (inr refl)) text octets d all (omega (arith, same, count, four)) (omega (arith, size, four))

groups : (b : Base) → IsEncoding b → (text octets : List ℕ) → Decodes b text octets → opens_group b octets ≡ false → SpellsDigits b text octets
groups b (inl is) text octets = rw is (λ d h. groups16 text octets d)
groups b (inr (inl is)) text octets = rw is (groups32 text octets)
groups b (inr (inr is)) text octets = rw is (groups64 text octets)

-- what is read without escapes are the text's own characters
own_text : (b : Base) → IsEncoding b → (text octets : List ℕ) → IsEncodingOf b text octets → HasNoBackslash text → Decodes b text octets
own_text b known text octets h none =
    let whole : text ≡ flat_map bytes h.symbols = h.read.spelled ∙ (λ i. flat_map bytes h.symbols ++ h.read.ends i) ∙ append-nil (flat_map bytes h.symbols) in
    let own = own_chars h.symbols h.text h.chars (decoded_plain b known h.text octets h.decodes) (subst HasNoBackslash whole none) in
    subst (λ t. Decodes b t octets) (sym (whole ∙ own)) h.decodes

pub digits_spelled : (b : Base) → IsEncoding b → (text octets : List ℕ) → IsEncodingOf b text octets → HasNoBackslash text → opens_group b octets ≡ false → SpellsDigits b text octets
digits_spelled b known text octets h none closed = groups b known text octets (own_text b known text octets h none) closed

pub hex_spelled : (text octets : List ℕ) → IsEncodingOf base16 text octets → HasNoBackslash text → SpellsDigits base16 text octets
hex_spelled text octets h none = groups16 text octets (own_text base16 (inl refl) text octets h none)
