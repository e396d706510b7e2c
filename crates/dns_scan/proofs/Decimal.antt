-- A number's decimal text is a token of that number.
use Rattle.std.proofs.Common.{ℕ, zero, suc, ◌≡◌, ◌<◌, ◌≤◌, ◌+◌, ◌-◌, ◌*◌, ◌/◌, ◌%◌, ◌^◌, List, [], ◌∷◌, ◌++◌, map, refl, sym, ap, ◌∙◌, arith, append_assoc, append-nil, Some, None, Bool, true, false}
use Rattle.std.specs.Prelude.{◌==◌, if◌then◌else◌}
use Rattle.std.specs.List.{flat_map, list_all}
use Rattle.std.specs.Fmt.{decimal, digits, digits_onto, digit_glyph}
use Rattle.std.proofs.lemmas.Nat.{pow-add}
use Rattle.std.proofs.lemmas.Bool.Decides.{nat_tests}
use Rattle.std.proofs.lemmas.Str.{encode_ascii}
use Rattle.dns_symbol.specs.declared.symbol.Symbol.{Symbol}
use Rattle.dns_symbol.specs.declared.symbol.Symbol.TheVariants.{Char}
use Rattle.dns_symbol.specs.Symbol.{bytes, is_readable, is_digit}
use Rattle.dns_symbol.specs.Text.{SymbolsOf}
use Rattle.dns_scan.specs.Numbers.{plain_digit_of, value_of, IsNumber}
use Rattle.dns_scan.proofs.Numbers.{value_of-append}

-- each is a digit
abbrev pub AllDigits : List ℕ → Type 0
AllDigits [] = Unit {0}
AllDigits (d ∷ ds) = (d < 10) × AllDigits ds

abbrev pub texts_of : List ℕ → List ℕ
texts_of = map (λ d. 48 + d)

all_append : (cs bs : List ℕ) → AllDigits cs → AllDigits bs → AllDigits (cs ++ bs)
all_append [] bs h k = k
all_append (a ∷ cs) bs h k = (h.0, all_append cs bs h.1 k)

texts_append : (cs bs : List ℕ) → texts_of (cs ++ bs) ≡ texts_of cs ++ texts_of bs
texts_append [] bs = refl
texts_append (a ∷ cs) bs = ap (λ l. (48 + a) ∷ l) (texts_append cs bs)

-- the digits of a number, before others
record DigitsOf (n : ℕ) (text : List ℕ) (others : List ℕ) : Type 0 where
  front : List ℕ
  small : AllDigits front
  value : value_of front ≡ n
  is : text ≡ texts_of (front ++ others)

one_glyph : (d : ℕ) → d < 10 → digit_glyph false d ≡ 48 + d
one_glyph d h = grind (arith, nat_tests)

digits_read : (k n : ℕ) (others : List ℕ) → n < 10 ^ k → DigitsOf n (digits_onto k 10 false n (texts_of others)) others
digits_read zero n others h = record { front = []; small = tt; value = omega (arith, h); is = refl }
digits_read (suc k) n others h = by (λ rest. digits_read k (n / 10) rest less) (n / 10 == 0) refl
  where
    digit : n % 10 < 10
    digit = omega arith

    less : n / 10 < 10 ^ k
    less = let power : 10 ^ (1 + k) ≡ 10 ^ 1 * 10 ^ k = pow-add 10 1 k in let same : 10 ^ suc k ≡ 10 ^ (1 + k) = ap (λ n. 10 ^ n) (omega arith) in omega (arith, h, power, same)

    by : ((rest : List ℕ) → DigitsOf (n / 10) (digits_onto k 10 false (n / 10) (texts_of rest)) rest) → (b : Bool) → (n / 10 == 0) ≡ b
        → DigitsOf n (if b then digit_glyph false (n % 10) ∷ texts_of others else digits_onto k 10 false (n / 10) (digit_glyph false (n % 10) ∷ texts_of others)) others
    by go true e =
        let none : n / 10 ≡ 0 = grind (arith, nat_tests) in
        record { front = n % 10 ∷ []; small = (digit, tt); value = omega (arith, none); is = ap (λ g. g ∷ texts_of others) (one_glyph (n % 10) digit) }
    by go false e =
        let more = go (n % 10 ∷ others) in
        record {
          front = more.front ++ n % 10 ∷ [];
          small = all_append more.front (n % 10 ∷ []) more.small (digit, tt);
          value = omega (arith, value_of-append more.front (n % 10 ∷ []), more.value);
          is = ap (λ g. digits_onto k 10 false (n / 10) (g ∷ texts_of others)) (one_glyph (n % 10) digit) ∙ more.is ∙ ap texts_of (sym (append_assoc more.front (n % 10 ∷ []) others));
        }

-- the symbols of digits
abbrev pub symbols_of_digits : List ℕ → List Symbol
symbols_of_digits = map (λ d. Char (48 + d))

readable_digits : (ds : List ℕ) → AllDigits ds → list_all is_readable (symbols_of_digits ds) ≡ true
readable_digits [] h = refl
readable_digits (d ∷ ds) h = rw (one d h.0, readable_digits ds h.1) refl
  where
    one : (d : ℕ) → d < 10 → is_readable (Char (48 + d)) ≡ true
    one d h = grind (arith, nat_tests)

bytes_of_digits : (ds : List ℕ) → AllDigits ds → texts_of ds ≡ flat_map bytes (symbols_of_digits ds)
bytes_of_digits [] h = refl
bytes_of_digits (d ∷ ds) h = ap (λ l. (48 + d) ∷ l) (bytes_of_digits ds h.1) ∙ ap (λ b. (b ++ []) ++ flat_map bytes (symbols_of_digits ds)) (sym (encode_ascii (48 + d) (omega (arith, h.0))))

plain_digits : (ds : List ℕ) → AllDigits ds → map plain_digit_of (symbols_of_digits ds) ≡ map Some ds
plain_digits [] h = refl
plain_digits (d ∷ ds) h = λ i. one d h.0 i ∷ plain_digits ds h.1 i
  where
    less : (d : ℕ) → 48 + d - 48 ≡ d
    less d = omega arith

    one : (d : ℕ) → d < 10 → plain_digit_of (Char (48 + d)) ≡ Some d
    one d h = let is : is_digit (48 + d) ≡ true = grind (arith, nat_tests) in rw (is, less d) refl

-- a decimal text has the digits of its number as symbols, and nothing else
pub decimal_read : (limit n : ℕ) → n < 10 ^ 64 → n ≤ limit → (symbols : List Symbol) × SymbolsOf (decimal n) symbols None × IsNumber limit symbols n
unfolding digits
decimal_read limit n h small =
    let read = digits_read 64 n [] h in
    let text : decimal n ≡ texts_of read.front = read.is ∙ ap texts_of (append-nil read.front) in (
      symbols_of_digits read.front,
      record { rest = []; readable = readable_digits read.front read.small; spelled = text ∙ bytes_of_digits read.front read.small ∙ sym (append-nil _); ends = refl },
      record { digits = read.front; plain = plain_digits read.front read.small; value = sym read.value; small = small },
    )
