-- A token that is a number parses as that number.
use Rattle.std.proofs.Common.{ℕ, ◌≡◌, ◌<◌, ◌≤◌, ◌^◌, List, ◌∷◌, subst, arith, None, Result, Ok, Err}
use Rattle.std.specs.Prelude.{IfErr, IfOk, IsOkAnd}
use Rattle.std.specs.Fmt.{decimal}
use Rattle.dns_symbol.specs.Cause.{Cause}
use Rattle.dns_symbol.specs.Text.{SymbolsOf}
use Rattle.dns_scan.specs.Numbers.{greatest}
use Rattle.dns_scan.specs.Reads.{NumberReads, ReadsFirstToken}
use Rattle.dns_scan.specs.Tokens.{Token}
use Rattle.dns_scan.proofs.Decimal.{decimal_read}
use Rattle.dns_scan.proofs.Once.{numbers_once}
use Rattle.dns_laws.specs.Numbers.{HasNumber, NumberBack}

module _ (limit : ℕ) (token : Token) where
  -- the decimal text of a number is its plain digits
  printed_number : (v : ℕ) → limit < 10 ^ 64 → v ≤ limit → token ≡ decimal v → HasNumber limit token v
  printed_number v low small at =
      let is = decimal_read limit v (omega (arith, low, small)) small in
      rw at (record { symbols = is.0; read = is.1; number = is.2 })

  -- plain digits are parsed as their value alone
  has_number : (v : ℕ) (r : Result ℕ Cause) → HasNumber limit token v → NumberReads limit token r → r ≡ Ok v
  has_number v r has reads = numbers_once limit token r (Ok v) reads (record { symbols = has.symbols; error = None; read = has.read; reads = (has.number, λ i. None) })

  value_of_ok : (v : ℕ) (r : Result ℕ Cause) → r ≡ Ok v → IsOkAnd r (λ n. n ≡ v)
  value_of_ok v (Ok n) e = cc
  value_of_ok v (Err why) e = cc

  -- the result of parsing a token
  number_read : limit < 10 ^ 64 → (r : Result ℕ Cause) → NumberReads limit token r → NumberBack limit (λ n. n) (λ why. why) token r
  number_read low r reads = record {
    printed = λ v small at. value_of_ok v r (has_number v r (printed_number v low small at) reads);
    whole = λ v has. value_of_ok v r (has_number v r has reads);
    only = by_only r reads;
    refused = by_refused r reads;
  }
    where
      by_only : (r : Result ℕ Cause) → NumberReads limit token r → IfOk r (λ n. HasNumber limit token n)
      by_only (Ok v) h = record { symbols = h.symbols; read = subst (λ e. SymbolsOf token h.symbols e) h.reads.1 h.read; number = h.reads.0 }
      by_only (Err why) h = tt

      by_refused : (r : Result ℕ Cause) → NumberReads limit token r → IfErr r (λ why. NumberReads limit token (Err why))
      by_refused (Ok v) h = tt
      by_refused (Err why) h = h

-- of a type of a number of bits
pub read_of : (bits : ℕ) (low : greatest bits < 10 ^ 64) (token : Token) (others rest : List Token) (r : Result ℕ Cause) → ReadsFirstToken (NumberReads (greatest bits)) (token ∷ others) r rest
    → NumberBack (greatest bits) (λ n. n) (λ why. why) token r × (rest ≡ others)
read_of bits low token others rest r reads = (number_read (greatest bits) token low r reads.0, reads.1)
