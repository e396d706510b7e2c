-- Decimal numbers in tokens.
use Rattle.std.specs.Prelude.{ℕ, List, [], ◌∷◌, ◌++◌, ◌≡◌, ◌≤◌, ◌<◌, Option, Some, None, Result, Ok, Err, IfOk, MatchResult, ◌⊎◌, if◌then◌else◌, nat_lt, is_some, ◌*◌, ◌+◌, ◌-◌, ◌^◌, length, map, codes}
use Rattle.dns_symbol.specs.declared.symbol.Symbol.{Symbol}
use Rattle.dns_symbol.specs.declared.symbol.Symbol.TheVariants.{Char, SimpleEscape, DecimalEscape}
use Rattle.dns_symbol.specs.declared.error.SymbolCharsError.{SymbolCharsError}
use Rattle.dns_symbol.specs.Symbol.{is_digit, chars_error_text}
use Rattle.dns_symbol.specs.Text.{SymbolsOf}
use Rattle.dns_symbol.specs.Cause.{Cause, custom_text}
use Rattle.dns_scan.specs.Tokens.{ScansToken, Token}

-- the greatest number of each type
abbrev pub greatest : ℕ → ℕ
greatest bits = 2 ^ bits - 1

-- the value of a plain digit; an escape has none
abbrev pub plain_digit_of : Symbol → Option ℕ
plain_digit_of (Char c) = if is_digit c then Some (c - 48) else None
plain_digit_of (SimpleEscape o) = None
plain_digit_of (DecimalEscape o) = None

-- the sum of each digit times its power of ten
abbrev pub value_of : List ℕ → ℕ
value_of [] = 0
value_of (d ∷ ds) = d * 10 ^ length ds + value_of ds

-- the symbols are plain digits of that value, which is at most the limit
pub record IsNumber (limit : ℕ) (symbols : List Symbol) (v : ℕ) : Type 0 where
  pub digits : List ℕ
  pub plain : map plain_digit_of symbols ≡ map Some digits
  pub value : v ≡ value_of digits
  pub small : v ≤ limit

abbrev pub overflow : Cause
overflow = custom_text (codes "decimal number overflow")

abbrev pub no_digit : Cause
no_digit = custom_text (codes "expected decimal number")

-- why a symbol can't extend a number of that value: ten times it exceeds the limit, the symbol isn't a digit, or the sum exceeds it
abbrev pub refusal_at : ℕ → ℕ → Symbol → Cause
refusal_at limit v x = if nat_lt limit (v * 10) then overflow else (if is_some (plain_digit_of x) then overflow else no_digit)

-- the symbols aren't a number: the longest prefix that is one, and the error of the symbol after it
pub record NoNumber (limit : ℕ) (symbols : List Symbol) (why : Cause) : Type 0 where
  pub front : List Symbol
  pub next : Symbol
  pub rest : List Symbol
  pub value : ℕ
  pub whole : symbols ≡ front ++ next ∷ rest
  pub number : IsNumber limit front value
  pub longest : (longer others : List Symbol) (v : ℕ) → symbols ≡ longer ++ others → IsNumber limit longer v → length longer ≤ length front
  pub refusal : why ≡ refusal_at limit value next

-- the result of a token's symbols and the error after them: a number, or the error of a symbol, or else that error
abbrev pub ReadsNumber : ℕ → List Symbol → Option SymbolCharsError → Result ℕ Cause → Type 0
ReadsNumber limit symbols error (Ok v) = IsNumber limit symbols v × (error ≡ None)
ReadsNumber limit symbols error (Err why) =
    NoNumber limit symbols why ⊎ ((v : ℕ) × (e : SymbolCharsError) × IsNumber limit symbols v × (error ≡ Some e) × (why ≡ custom_text (chars_error_text e)))

-- a result, by the call that made its error
abbrev pub by_cause : {V E : Type 0} → (E → Cause) → Result V E → Result V Cause
by_cause cause (Ok v) = Ok v
by_cause cause (Err e) = Err (cause e)

-- the result of parsing a token
pub record ScannedNumber {E : Type 0} (cause : E → Cause) (limit : ℕ) (token : Token) (r : Result ℕ E) : Type 0 where
  pub symbols : List Symbol
  pub error : Option SymbolCharsError
  pub read : SymbolsOf token symbols error
  pub reads : ReadsNumber limit symbols error (by_cause cause r)

-- another digit, as the private `add_digit` adds it, which alone cites this: ten times the value and the digit; or the error, and the old value
abbrev pub AddsDigit : {E : Type 0} → (E → Cause) → ℕ → ℕ → Symbol → Result (Unit {0}) E → ℕ → Type 0
AddsDigit cause limit v x r w =
    MatchResult r (λ _. (d : ℕ) × (plain_digit_of x ≡ Some d) × (w ≡ v * 10 + d) × (w ≤ limit))
    (λ e. (w ≡ v) × (cause e ≡ refusal_at limit v x) × ((d : ℕ) → plain_digit_of x ≡ Some d → limit < v * 10 + d))

-- what a token is read as is the number that its symbols are plain digits of, and the token has nothing else
abbrev pub OnlyNumber : ℕ → Token → Result ℕ Cause → Type 0
OnlyNumber limit token r = (symbols : List Symbol) (error : Option SymbolCharsError) → SymbolsOf token symbols error → IfOk r (λ v. IsNumber limit symbols v × (error ≡ None))

-- a call that parses a token as a number
abbrev pub ScansNumber : {S E : Type 0} → (S → Option Token → S → Type 0) → (E → Cause) → ℕ → S → Result ℕ E → S → Type 0
ScansNumber next cause limit = ScansToken next cause (ScannedNumber cause limit)
