-- What a parser of characters has consumed of a text.
use Rattle.std.proofs.Common.{◌≡◌, ℕ, ◌<◌, true, List, [], ◌∷◌, ◌++◌, length, drop, refl, sym, ap, subst, ◌∙◌, arith, Option, Some, None, Result, Ok, Err, ⊎_elim}
use Rattle.std.specs.Iterator.{Yields}
use Rattle.std.specs.Str.{IsUtf8}
use Rattle.std.specs.Str.Iter.{chars_steps, chars_rest}
use Rattle.std.specs.declared.str.Chars.{Chars}
use Rattle.std.proofs.lemmas.Bool.{cases_lt}
use Rattle.dns_symbol.specs.Symbol.{bytes, spell, is_readable}
use Rattle.dns_symbol.specs.Index.{BeginsWith, BeginsNone, ReadsAt, octets_error}
use Rattle.dns_symbol.specs.Text.{EndsAs, chars_error, as_octets_error}
use Rattle.dns_symbol.specs.Reading.{ReadsSymbol, at_place}
use Rattle.dns_symbol.specs.declared.symbol.Symbol.{Symbol}
use Rattle.dns_symbol.specs.declared.error.SymbolCharsError.{SymbolCharsError}
use Rattle.dns_symbol.specs.declared.error.SymbolCharsError.TheVariants.{BadEscape, ShortInput}
use Rattle.dns_symbol.specs.declared.error.SymbolOctetsError.{SymbolOctetsError}
use Rattle.dns_symbol.proofs.Agree.{Chars-Yields, agree}
use Rattle.dns_symbol.proofs.Texts.{begins_or_none, same_error}

-- a symbol that was consumed was the beginning of the text
pub symbol_taken : (x : Symbol) (s t : Chars) → (is_readable x ≡ true) × Yields chars_steps s (spell x) t → BeginsWith (chars_rest s) x (chars_rest t)
symbol_taken x s t h = record { readable = h.0; spelled = Chars-Yields s t (spell x) h.1 }

-- if no character came, none was left
pub none_taken : (s t : Chars) → chars_steps s None t → chars_rest s ≡ []
none_taken s t h = empty_of (chars_rest s) h.0.0
  where
    empty_of : (xs : List ℕ) → length xs ≡ 0 → xs ≡ []
    empty_of [] e = refl
    empty_of (x ∷ xs) e = absurd (omega (arith, e))

same_cause : (d e : SymbolCharsError) → as_octets_error d ≡ as_octets_error e → d ≡ e
same_cause BadEscape BadEscape h = refl
same_cause BadEscape ShortInput h = absurd (cc)
same_cause ShortInput BadEscape h = absurd (cc)
same_cause ShortInput ShortInput h = refl

after_front : (xs ys : List ℕ) → drop (length xs) (xs ++ ys) ≡ ys
after_front [] ys = refl
after_front (x ∷ xs) ys = after_front xs ys

-- if no symbol was consumed, the text has the error there
pub refusal_taken : (e : SymbolCharsError) (s t : Chars) → IsUtf8 (chars_rest s) → ReadsSymbol chars_steps s (Err e) t → EndsAs (chars_rest s) (Some e)
refusal_taken e s t u h =
    ⊎_elim
    (λ none. absurd (no_end (only (Ok None) (omega (arith, none)))))
    (λ some. ⊎_elim
    (λ begins. absurd (no_symbol _ (only (Ok (Some (begins.0, length (bytes begins.0)))) (at_front begins.0 begins.1 begins.2))))
    (λ none. (omega (arith, some), none, cause some none (only (Err (octets_error rest)) (omega (arith, some), none, refl))))
    (begins_or_none rest u (omega (arith, some))))
    (cases_lt (length rest) 1)
  where
    rest : List ℕ
    rest = chars_rest s

    only : (r : Result (Option (Symbol × ℕ)) SymbolOctetsError) → ReadsAt rest 0 r → r ≡ at_place 0 (Err e)
    only r at = agree rest 0 s t u refl (Err e) r h at

    no_end : (Ok None) ≡ at_place 0 (Err e) → ⊥
    no_end is = cc

    no_symbol : (p : Symbol × ℕ) → (Ok (Some p)) ≡ at_place 0 (Err e) → ⊥
    no_symbol p is = cc

    at_front : (x : Symbol) (after : List ℕ) → BeginsWith rest x after → ReadsAt rest 0 (Ok (Some (x, length (bytes x))))
    at_front x after b =
        (subst (λ r. BeginsWith rest x r) (sym (ap (λ l. drop (length (bytes x)) l) b.spelled ∙ after_front (bytes x) after)) b, omega arith)

    cause : 0 < length rest → BeginsNone rest → Err (octets_error rest) ≡ at_place 0 (Err e) → e ≡ chars_error rest
    cause some none is = sym (same_cause (chars_error rest) e (sym (same_error rest u some none) ∙ cc))
