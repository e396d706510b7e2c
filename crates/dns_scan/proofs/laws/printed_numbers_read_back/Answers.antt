use Rattle.std.proofs.Common.{ℕ, ◌≡◌, arith, Option, None, Result, Ok, Err, List}
use Rattle.std.specs.Prelude.{IfOk}
use Rattle.dns_symbol.specs.declared.symbol.Symbol.{Symbol}
use Rattle.dns_symbol.specs.declared.error.SymbolCharsError.{SymbolCharsError}
use Rattle.dns_symbol.specs.Cause.{Cause}
use Rattle.dns_scan.specs.Numbers.{IsNumber, ReadsNumber}
use Rattle.dns_scan.proofs.Decimal.{decimal_read}
use Rattle.dns_scan.proofs.Once.{numbers_once, reads_of}
use Rattle.dns_scan.proofs.laws.printed_numbers_read_back.Goals as goal

pub returns-clause-back : goal.returns-clause-back
returns-clause-back c = λ limit v others small fits r rest reads.
    let is = decimal_read limit v (omega (arith, fits)) small in
    (numbers_once limit _ r (Ok v) reads.0 (record { symbols = is.0; error = None; read = is.1; reads = (is.2, λ i. None) }), reads.1)

pub returns-clause-one : goal.returns-clause-one
returns-clause-one c = λ limit token q r h k. numbers_once limit token q r h k

is_number : (limit : ℕ) (symbols : List Symbol) (error : Option SymbolCharsError) (r : Result ℕ Cause) → ReadsNumber limit symbols error r → IfOk r (λ v. IsNumber limit symbols v × (error ≡ None))
is_number limit symbols error (Ok v) h = h
is_number limit symbols error (Err why) h = tt

pub returns-clause-only : goal.returns-clause-only
returns-clause-only c = λ limit token r h symbols error read. is_number limit symbols error r (reads_of limit token r h symbols error read)
