-- Octets that a text spells: each in one way, and none if no escape begins.
use Rattle.std.proofs.Common.{ℕ, ◌≡◌, ◌≢◌, ◌+◌, ◌/◌, ◌%◌, ◌<◌, Bool, true, false, List, ◌++◌, length, refl, ap, arith}
use Rattle.std.specs.Prelude.{slice_index, if◌then◌else◌}
use Rattle.std.proofs.lemmas.Bool.Decides.{nat_tests}
use Rattle.dns_symbol.specs.Escape.{BeginsNoEscape, escape_symbol, is_spelling, octet_for}
use Rattle.dns_symbol.specs.Symbol.{spell, is_escape_by}
use Rattle.dns_symbol.specs.declared.escape.EscapedOctet.{EscapedOctet}
use Rattle.dns_symbol.specs.declared.escape.EscapeRule.TheVariants.{AnyOctet}
use Rattle.dns_symbol.specs.declared.symbol.Symbol.{Symbol}
use Rattle.dns_symbol.specs.declared.symbol.Symbol.TheVariants.{Char, SimpleEscape, DecimalEscape}

pub spell_some : (s : Symbol) → 0 < length (spell s)
spell_some (Char c) = omega arith
spell_some (SimpleEscape o) = omega arith
spell_some (DecimalEscape o) = omega arith

no_backslash : (c : ℕ) → is_spelling (Char c) ≡ true → c ≡ 92 → ⊥
no_backslash c h e = grind (arith, nat_tests)

pub no_digit : (o n : ℕ) → is_spelling (SimpleEscape o) ≡ true → is_spelling (DecimalEscape n) ≡ true → o ≡ 48 + n / 100 → ⊥
no_digit o n h k e = let low : n < 256 = grind (arith, nat_tests) in let few : n / 100 < 3 = omega arith in grind (arith, nat_tests)

digits_same : (o n : ℕ) → 48 + o / 100 ≡ 48 + n / 100 → 48 + o / 10 % 10 ≡ 48 + n / 10 % 10 → 48 + o % 10 ≡ 48 + n % 10 → o ≡ n
digits_same o n p q r = omega (arith, p, q, r)

-- the symbol that is spelled at the beginning of a text
pub spell_same : (x y : Symbol) (a b : List ℕ) → is_spelling x ≡ true → is_spelling y ≡ true → spell x ++ a ≡ spell y ++ b → (x ≡ y) × (a ≡ b)
spell_same (Char c) (Char d) a b p q h = (cc, cc)
spell_same (Char c) (SimpleEscape o) a b p q h = absurd (no_backslash c p (cc))
spell_same (Char c) (DecimalEscape o) a b p q h = absurd (no_backslash c p (cc))
spell_same (SimpleEscape o) (Char d) a b p q h = absurd (no_backslash d q (cc))
spell_same (SimpleEscape o) (SimpleEscape n) a b p q h = (cc, cc)
spell_same (SimpleEscape o) (DecimalEscape n) a b p q h = absurd (no_digit o n p q (cc))
spell_same (DecimalEscape o) (Char d) a b p q h = absurd (no_backslash d q (cc))
spell_same (DecimalEscape o) (SimpleEscape n) a b p q h = absurd (no_digit n o q p (cc))
spell_same (DecimalEscape o) (DecimalEscape n) a b p q h =
    let e = digits_same o n (cc) (cc) (cc) in (ap (λ n. DecimalEscape n) e, cc)

-- an escape spells its octet
pub escape_spelling : (s : Symbol) → is_escape_by AnyOctet s ≡ true → is_spelling s ≡ true
escape_spelling (Char c) is = absurd (cc)
escape_spelling (SimpleEscape o) is = is
escape_spelling (DecimalEscape o) is = is

pub escaped_octet_is : (e : EscapedOctet) → octet_for (escape_symbol e) ≡ e.octet
escaped_octet_is e = by_form e.is_decimal e.octet
  where
    by_form : (decimal : Bool) (o : ℕ) → octet_for (if decimal then DecimalEscape o else SimpleEscape o) ≡ o
    by_form true o = refl
    by_form false o = refl

-- a text that begins with a backslash and no escape spells no octet
pub no_spelling : (text : List ℕ) → slice_index text 0 ≡ 92 → BeginsNoEscape AnyOctet text → (s : Symbol) (rest : List ℕ) → is_spelling s ≡ true → text ≢ spell s ++ rest
no_spelling text lead none (Char c) rest is e = let same : slice_index text 0 ≡ c = ap (λ t. slice_index t 0) e in grind (arith, nat_tests)
no_spelling text lead none (SimpleEscape o) rest is e = none (SimpleEscape o) rest is e
no_spelling text lead none (DecimalEscape o) rest is e = none (DecimalEscape o) rest is e
