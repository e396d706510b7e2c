-- Symbols that scanners parse as octets, and those that spell octets of RDATA.
use Rattle.std.proofs.Common.{ℕ, ◌≡◌, ◌+◌, ◌/◌, ◌%◌, ◌<◌, Bool, true, false, List, [], ◌∷◌, ◌++◌, map, refl, sym, ap, subst, ◌∙◌, arith, append-nil, Ok, Err}
use Rattle.std.specs.Prelude.{if◌then◌else◌}
use Rattle.std.specs.List.{flat_map, list_all}
use Rattle.std.proofs.lemmas.Bool.{and_parts}
use Rattle.std.proofs.lemmas.Bool.Decides.{nat_tests}
use Rattle.std.proofs.lemmas.List.Folds.{list_all-append}
use Rattle.std.proofs.lemmas.Str.{encode_ascii}
use Rattle.dns_symbol.specs.Symbol.{bytes, spell, is_printable, is_readable, octet_of}
use Rattle.dns_symbol.specs.declared.symbol.Symbol.{Symbol}
use Rattle.dns_symbol.specs.declared.symbol.Symbol.TheVariants.{Char, SimpleEscape, DecimalEscape}
use Rattle.dns_symbol.specs.declared.error.BadSymbol.TheVariants.{NonAscii}
use Rattle.dns_symbol.proofs.Escapes.{bytes_simple, bytes_decimal}
use Rattle.dns_charstr.specs.Reading.{HasOctets}
use Rattle.dns_symbol.specs.Escape.{is_spelling, octet_for}
use Rattle.rdata_tokens.specs.Spelling.{SpellsOctetList}

abbrev pub Printable : List ℕ → Type 0
Printable text = list_all is_printable text ≡ true

-- a symbol is read as an octet, and spells it
pub record Alike (x : Symbol) (o : ℕ) : Type 0 where
  pub readable : is_readable x ≡ true
  pub given : octet_of x ≡ Ok o
  pub spelling : is_spelling x ≡ true
  pub stands : o ≡ octet_for x
  pub same : bytes x ≡ spell x
  pub shown : Printable (spell x)

-- the digits of an octet after a backslash
digits_shown : (c : ℕ) → c < 256 → Printable (spell (DecimalEscape c))
digits_shown c low =
    let a : c / 100 < 3 = omega arith in
    let b : c / 10 % 10 < 10 = omega arith in
    let d : c % 10 < 10 = omega arith in
    let x : is_printable (48 + c / 100) ≡ true = grind (arith, nat_tests) in
    let y : is_printable (48 + c / 10 % 10) ≡ true = grind (arith, nat_tests) in
    let z : is_printable (48 + c % 10) ≡ true = grind (arith, nat_tests) in
    rw (x, y, z) refl

read_alike : (x : Symbol) (o : ℕ) → is_readable x ≡ true → octet_of x ≡ Ok o → Alike x o
read_alike (Char c) o r is = by_test (is_printable c) refl is
  where
    by_test : (p : Bool) → is_printable c ≡ p → (if p then Ok c else Err NonAscii) ≡ Ok o → Alike (Char c) o
    by_test true p e =
        let stands : o ≡ c = cc in
        let low : c < 128 = grind (arith, nat_tests) in
        record { readable = r; given = is; spelling = grind (arith, nat_tests); stands = stands; same = ap (λ t. t ++ []) (encode_ascii c low); shown = rw p refl }
    by_test false p e = absurd (cc)
read_alike (SimpleEscape c) o r is =
    let stands : o ≡ c = cc in
    let shown : is_printable c ≡ true = grind (arith, nat_tests) in
    let low : c < 128 = grind (arith, nat_tests) in
    record { readable = r; given = is; spelling = grind (arith, nat_tests); stands = stands; same = bytes_simple c low; shown = rw shown refl }
read_alike (DecimalEscape c) o r is =
    let stands : o ≡ c = cc in
    let low : c < 256 = grind (arith, nat_tests) in
    record { readable = r; given = is; spelling = r; stands = stands; same = bytes_decimal c low; shown = digits_shown c low }

spelled_alike : (x : Symbol) → is_spelling x ≡ true → Printable (spell x) → Alike x (octet_for x)
spelled_alike (Char c) is p =
    let shown : is_printable c ≡ true = (and_parts (is_printable c) true p).0 in
    let low : c < 128 = grind (arith, nat_tests) in
    record { readable = grind (arith, nat_tests); given = rw shown refl; spelling = is; stands = refl; same = ap (λ t. t ++ []) (encode_ascii c low); shown = p }
spelled_alike (SimpleEscape c) is p =
    let shown : is_printable c ≡ true = (and_parts (is_printable c) true p).0 in
    let low : c < 128 = grind (arith, nat_tests) in
    record { readable = rw (shown, is) refl; given = refl; spelling = is; stands = refl; same = bytes_simple c low; shown = p }
spelled_alike (DecimalEscape c) is p =
    let low : c < 256 = grind (arith, nat_tests) in
    record { readable = is; given = refl; spelling = is; stands = refl; same = bytes_decimal c low; shown = p }

-- symbols are read as octets, and spell them
pub record AllAlike (xs : List Symbol) (os : List ℕ) : Type 0 where
  pub readable : list_all is_readable xs ≡ true
  pub given : map octet_of xs ≡ map Ok os
  pub spelling : list_all is_spelling xs ≡ true
  pub stand : os ≡ map octet_for xs
  pub same : flat_map bytes xs ≡ flat_map spell xs
  pub shown : Printable (flat_map spell xs)

no_symbols : AllAlike [] []
no_symbols = record { readable = refl; given = refl; spelling = refl; stand = refl; same = refl; shown = refl }

one_more : (x : Symbol) (xs : List Symbol) (o : ℕ) (os : List ℕ) → Alike x o → AllAlike xs os → AllAlike (x ∷ xs) (o ∷ os)
one_more x xs o os h k = record {
  readable = rw (h.readable, k.readable) refl;
  given = λ i. h.given i ∷ k.given i;
  spelling = rw (h.spelling, k.spelling) refl;
  stand = λ i. h.stands i ∷ k.stand i;
  same = λ i. h.same i ++ k.same i;
  shown = list_all-append is_printable (spell x) (flat_map spell xs) ∙ rw (h.shown, k.shown) refl;
}

pub all_read : (xs : List Symbol) (os : List ℕ) → list_all is_readable xs ≡ true → map octet_of xs ≡ map Ok os → AllAlike xs os
all_read [] [] r is = no_symbols
all_read [] (o ∷ os) r is = absurd (cc)
all_read (x ∷ xs) [] r is = absurd (cc)
all_read (x ∷ xs) (o ∷ os) r is =
    let parts = and_parts (is_readable x) (list_all is_readable xs) r in
    let first : octet_of x ≡ Ok o = cc in
    let others : map octet_of xs ≡ map Ok os = cc in
    one_more x xs o os (read_alike x o parts.0 first) (all_read xs os parts.1 others)

pub all_spelled : (xs : List Symbol) → list_all is_spelling xs ≡ true → Printable (flat_map spell xs) → AllAlike xs (map octet_for xs)
all_spelled [] is p = no_symbols
all_spelled (x ∷ xs) is p =
    let parts = and_parts (is_spelling x) (list_all is_spelling xs) is in
    let text = and_parts (list_all is_printable (spell x)) (list_all is_printable (flat_map spell xs)) (sym (list_all-append is_printable (spell x) (flat_map spell xs)) ∙ p) in
    one_more x xs (octet_for x) (map octet_for xs) (spelled_alike x parts.0 text.0) (all_spelled xs parts.1 text.1)

-- ---- character strings

pub octets_spelled : (text octets : List ℕ) → HasOctets text octets → Printable text × SpellsOctetList text octets
octets_spelled text octets h =
    let all = all_read h.symbols octets h.read.readable h.octets_are in
    let whole : text ≡ flat_map spell h.symbols ++ [] = h.read.spelled ∙ (λ i. all.same i ++ h.read.ends i) in (
      subst Printable (sym (whole ∙ append-nil (flat_map spell h.symbols))) all.shown,
      record { symbols = h.symbols; each = all.spelling; whole = whole; octets_are = all.stand },
    )

pub octets_read : (text octets : List ℕ) → Printable text → SpellsOctetList text octets → HasOctets text octets
octets_read text octets p h =
    let all = all_spelled h.symbols h.each (subst Printable (h.whole ∙ append-nil (flat_map spell h.symbols)) p) in
    record {
      symbols = h.symbols;
      read = record { rest = []; readable = all.readable; spelled = h.whole ∙ ap (λ t. t ++ []) (sym all.same); ends = refl };
      octets_are = all.given ∙ ap (map Ok) (sym h.octets_are);
    }
