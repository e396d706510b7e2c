-- No word is two of a TTL, a class and a type, and each has one value.
use Rattle.std.proofs.Common.{◌≡◌, ℕ, ◌<◌, ◌^◌, Bool, true, false, List, [], ◌∷◌, length, take, Option, Some, None, refl, sym, ap, subst, arith, ◌∙◌, ⊎_elim}
use Rattle.std.specs.Prelude.{◌||◌, not, cond, find, codes, MatchOption}
use Rattle.std.specs.Char.{digit_value, is_ascii_digit, is_ascii_lowercase, to_ascii_lowercase}
use Rattle.std.specs.List.{list_all}
use Rattle.std.specs.Option.{option_map}
use Rattle.std.specs.Str.{bytes_eq}
use Rattle.std.proofs.lemmas.Bool.{and_parts}
use Rattle.std.proofs.lemmas.Bool.Decides.{nat_tests}
use Rattle.std.proofs.lemmas.List.{take-map}
use Rattle.std.proofs.lemmas.Slice.Eq.{bytes_eq-Decides}
use Rattle.rdata_values.specs.Classes.{class_rows, class_prefix, SpellsClass}
use Rattle.rdata_values.specs.Registry.{Row, row_code, IsNumbered, SpellsCode}
use Rattle.rdata_values.specs.Ttl.{SpellsInterval, SpellsTtl}
use Rattle.rdata_values.specs.Types.{type_rows, type_prefix, SpellsType}
use Rattle.rdata_values.proofs.CodeLaws.{classes_are_kind, types_are_kind}
use Rattle.rdata_values.proofs.Periods.{after_periods}
use Rattle.rdata_values.proofs.TtlLaws.{seconds_once}
use Rattle.dns_octets.specs.Lowered.{lowered}
use Rattle.dns_lexer.specs.EntryTokens.{TokenSeen}
use Rattle.zone_reader.specs.HeaderWords.{TokenIsTtl, TokenIsClass, TokenIsType, HeadWordsApart, begins_with_digit, ttl_of_seconds}

-- ---- each has one value

pub ttl_once : (t : TokenSeen) (n m : ℕ) → TokenIsTtl t n → TokenIsTtl t m → n ≡ m
ttl_once t n m h k = h.1.2 ∙ ap ttl_of_seconds (seconds_once t.text h.1.0 k.1.0 h.1.1.0 k.1.1.0) ∙ sym k.1.2

pub class_once : (t : TokenSeen) (n m : ℕ) → TokenIsClass t n → TokenIsClass t m → n ≡ m
class_once t n m h k = classes_are_kind.once t.text n m h.1 k.1

pub type_once : (t : TokenSeen) (n m : ℕ) → TokenIsType t n → TokenIsType t m → n ≡ m
type_once t n m h k = types_are_kind.once t.text n m h.1 k.1

-- ---- below 2^31 a TTL is as it is spelled

short_ttl : (n : ℕ) → n < 2 ^ 31 → n ≡ ttl_of_seconds n
short_ttl n h = Prim.grind (arith, nat_tests)

pub says_short_ttl : (t : TokenSeen) (n : ℕ) → t.is_quoted ≡ false → SpellsTtl t.text n → TokenIsTtl t n
says_short_ttl t n q h = (q, (n, (h.0, omega (arith, h.1)), short_ttl n h.1))

-- ---- a TTL begins with a digit

is_digit_value : (c : ℕ) → digit_value c < 10 → is_ascii_digit c ≡ true
is_digit_value c h = Prim.grind (arith, nat_tests)

pub ttl_digit : (text : List ℕ) (n : ℕ) → SpellsInterval text n → begins_with_digit text ≡ true
ttl_digit [] n h = absurd (omega (arith, h.0.0))
ttl_digit (c ∷ cs) n h = ⊎_elim (λ k. is_digit_value c k.0.1.0) (λ k. is_digit_value c (after_periods (c ∷ cs) n k).1) h.0.1

-- ---- which lowercase names pass a test

module _ (like : List ℕ → Bool) where
  abbrev all_like : List Row → Bool
  all_like = list_all (λ (r : Row). like (lowered r.name))

  row_like : (rs : List Row) → all_like rs ≡ true → (text : List ℕ) (code : ℕ) → row_code rs text ≡ Some code → like (lowered text) ≡ true
  row_like [] h text code e = cc
  row_like (row ∷ rs) h text code e = by (bytes_eq (lowered row.name) (lowered text)) refl e (row_like rs (and_parts (like (lowered row.name)) (all_like rs) h).1 text code)
    where
      by : (b : Bool) → bytes_eq (lowered row.name) (lowered text) ≡ b
          → option_map (λ (row : Row). row.code) (cond b (Some row) (find (λ (row : Row). bytes_eq (lowered row.name) (lowered text)) rs)) ≡ Some code
          → (row_code rs text ≡ Some code → like (lowered text) ≡ true) → like (lowered text) ≡ true
      by true is e more =
          let same = (bytes_eq-Decides (lowered row.name) (lowered text)).0 is in
          subst (λ small. like small ≡ true) same (and_parts (like (lowered row.name)) (all_like rs) h).0
      by false is e more = more e

  spelled_like : (table : List Row) (prefix : List ℕ) (most : ℕ) → all_like table ≡ true
      → ((text : List ℕ) → lowered (take (length prefix) text) ≡ lowered prefix → like (lowered text) ≡ true)
      → (text : List ℕ) (code : ℕ) → SpellsCode table prefix most text code → like (lowered text) ≡ true
  spelled_like table prefix most rows numbers text code h = by (row_code table text) refl h
    where
      by : (o : Option ℕ) → row_code table text ≡ o → MatchOption o (IsNumbered prefix most text code) (λ c. code ≡ c) → like (lowered text) ≡ true
      by None e h = numbers text h.0
      by (Some c) e h = row_like table rows text c e

-- ---- names begin with a letter

abbrev begins_with_letter : List ℕ → Bool
begins_with_letter [] = false
begins_with_letter (c ∷ cs) = is_ascii_lowercase c

class_names_begin : (text : List ℕ) → lowered (take 5 text) ≡ codes "class" → begins_with_letter (lowered text) ≡ true
class_names_begin [] h = cc
class_names_begin (c ∷ cs) h = let first : to_ascii_lowercase c ≡ 99 = cc in ap is_ascii_lowercase first

type_names_begin : (text : List ℕ) → lowered (take 4 text) ≡ codes "type" → begins_with_letter (lowered text) ≡ true
type_names_begin [] h = cc
type_names_begin (c ∷ cs) h = let first : to_ascii_lowercase c ≡ 116 = cc in ap is_ascii_lowercase first

class_letter : (text : List ℕ) (code : ℕ) → SpellsClass text code → begins_with_letter (lowered text) ≡ true
class_letter = spelled_like begins_with_letter class_rows class_prefix 65535 refl class_names_begin

type_rows_begin : all_like begins_with_letter type_rows ≡ true
unfolding type_rows
type_rows_begin = refl

type_letter : (text : List ℕ) (code : ℕ) → SpellsType text code → begins_with_letter (lowered text) ≡ true
type_letter = spelled_like begins_with_letter type_rows type_prefix 65535 type_rows_begin type_names_begin

no_letter : (c : ℕ) → is_ascii_digit c ≡ true → is_ascii_lowercase (to_ascii_lowercase c) ≡ true → ⊥
no_letter c h k = Prim.grind (arith, nat_tests)

digit_or_letter : (text : List ℕ) → begins_with_digit text ≡ true → begins_with_letter (lowered text) ≡ true → ⊥
digit_or_letter [] h k = cc
digit_or_letter (c ∷ cs) h k = no_letter c h k

-- ---- a class is never a type

abbrev is_like_class : List ℕ → Bool
is_like_class small = bytes_eq small (codes "in") || (bytes_eq small (codes "ch") || (bytes_eq small (codes "hs") || bytes_eq (take 5 small) (codes "class")))

last_of_four : (a b c d : Bool) → d ≡ true → (a || (b || (c || d))) ≡ true
last_of_four true b c d h = refl
last_of_four false true c d h = refl
last_of_four false false true d h = refl
last_of_four false false false d h = h

class_prefix_like : (text : List ℕ) → lowered (take 5 text) ≡ codes "class" → is_like_class (lowered text) ≡ true
class_prefix_like text h =
    let small = lowered text in
    let begins : bytes_eq (take 5 small) (codes "class") ≡ true = (bytes_eq-Decides (take 5 small) (codes "class")).1 (take-map to_ascii_lowercase 5 text ∙ h) in
    last_of_four (bytes_eq small (codes "in")) (bytes_eq small (codes "ch")) (bytes_eq small (codes "hs")) (bytes_eq (take 5 small) (codes "class")) begins

type_prefix_unlike : (text : List ℕ) → lowered (take 4 text) ≡ codes "type" → not (is_like_class (lowered text)) ≡ true
type_prefix_unlike [] h = cc
type_prefix_unlike (c ∷ cs) h = let first : to_ascii_lowercase c ≡ 116 = cc in ap (λ d. not (is_like_class (d ∷ lowered cs))) first

class_like : (text : List ℕ) (code : ℕ) → SpellsClass text code → is_like_class (lowered text) ≡ true
class_like = spelled_like is_like_class class_rows class_prefix 65535 refl class_prefix_like

type_rows_unlike : all_like (λ small. not (is_like_class small)) type_rows ≡ true
unfolding type_rows
type_rows_unlike = refl

type_unlike : (text : List ℕ) (code : ℕ) → SpellsType text code → not (is_like_class (lowered text)) ≡ true
type_unlike = spelled_like (λ small. not (is_like_class small)) type_rows type_prefix 65535 type_rows_unlike type_prefix_unlike

not_both : (b : Bool) → b ≡ true → not b ≡ true → ⊥
not_both true h k = cc
not_both false h k = cc

pub apart : HeadWordsApart
apart = record {
  ttl_and_class = λ t ttl code h k. digit_or_letter t.text (ttl_digit t.text h.1.0 h.1.1) (class_letter t.text code k.1);
  ttl_and_type = λ t ttl code h k. digit_or_letter t.text (ttl_digit t.text h.1.0 h.1.1) (type_letter t.text code k.1);
  class_and_type = λ t class code h k. not_both (is_like_class (lowered t.text)) (class_like t.text class h.1) (type_unlike t.text code k.1);
}
