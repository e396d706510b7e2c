-- The result of parsing the text of a number.
use Rattle.std.specs.Prelude.{ℕ, List, ◌≡◌, ◌≤◌, None, Result, Err, IfErr, IfOk, IsOkAnd}
use Rattle.std.specs.Fmt.{decimal}
use Rattle.dns_symbol.specs.Cause.{Cause}
use Rattle.dns_symbol.specs.Text.{SymbolsOf}
use Rattle.dns_symbol.specs.declared.symbol.Symbol.{Symbol}
use Rattle.dns_scan.specs.Numbers.{IsNumber}
use Rattle.dns_scan.specs.Reads.{NumberReads}
use Rattle.dns_scan.specs.Tokens.{Token}

-- the token is plain digits of that value, which is within the limit, and nothing else
pub record HasNumber (limit : ℕ) (token : Token) (v : ℕ) : Type 0 where
  pub symbols : List Symbol
  pub read : SymbolsOf token symbols None
  pub number : IsNumber limit symbols v

-- r is the result of parsing a token that is a number within the limit: just this number
pub record NumberBack {N E : Type 0} (limit : ℕ) (number : N → ℕ) (cause : E → Cause) (token : Token) (r : Result N E) : Type 0 where
  -- of the text that a number is printed as
  pub printed : (v : ℕ) → v ≤ limit → token ≡ decimal v → IsOkAnd r (λ n. number n ≡ v)
  -- of any plain digits, also with zeros before them
  pub whole : (v : ℕ) → HasNumber limit token v → IsOkAnd r (λ n. number n ≡ v)
  -- no other token is accepted
  pub only : IfOk r (λ n. HasNumber limit token (number n))
  -- but rejected, as the token is parsed
  pub refused : IfErr r (λ e. NumberReads limit token (Err (cause e)))
