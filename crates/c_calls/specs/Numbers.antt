-- The result of parsing a number.
use Rattle.std.specs.Prelude.{◌≡◌, ◌⊎◌, ℕ, ◌+◌, ◌*◌, ◌<◌, ◌≤◌, true, if◌then◌else◌, nat_lt, is_some, List, ◌++◌, length, drop, Some, Result, Ok, Err}
use Rattle.std.specs.List.{flat_map, list_all}
use Rattle.dns_symbol.specs.Symbol.{bytes, is_readable}
use Rattle.dns_symbol.specs.Index.{ReadsAt}
use Rattle.dns_symbol.specs.declared.symbol.Symbol.{Symbol}
use Rattle.dns_symbol.specs.declared.error.SymbolOctetsError.{SymbolOctetsError}
use Rattle.dns_scan.specs.Numbers.{plain_digit_of, IsNumber}
use Rattle.dns_scan.specs.Reads.{NumberReads}
use Rattle.c_calls.specs.Strings.{refusal_of}
use Rattle.c_calls.specs.Reports.{ReportsFault}
use Rattle.c_calls.specs.declared.outcome.Outcome.{Outcome}
use Rattle.c_calls.specs.declared.outcome.Fault.{Fault}
use Rattle.c_calls.specs.declared.outcome.Refusal.{Refusal}
use Rattle.c_calls.specs.declared.outcome.Refusal.TheVariants.{NoDigit, TooGreat}

-- why a symbol can't follow a number of that value: ten times the value is too great, or the symbol is not a digit, or their sum is too great
abbrev pub digit_refusal : ℕ → ℕ → Symbol → Refusal
digit_refusal most v x = if nat_lt most (v * 10) then TooGreat else (if is_some (plain_digit_of x) then TooGreat else NoDigit)

-- one more digit: ten times the value and the digit; or an error, and no digit is small enough
abbrev pub AppendsDigit : ℕ → ℕ → Symbol → Result ℕ Refusal → Type 0
AppendsDigit most v x (Ok w) = (d : ℕ) × (plain_digit_of x ≡ Some d) × (w ≡ v * 10 + d) × (w ≤ most)
AppendsDigit most v x (Err why) = (why ≡ digit_refusal most v x) × ((d : ℕ) → plain_digit_of x ≡ Some d → most < v * 10 + d)

-- the symbols of a text before an offset
pub record HasSymbolsBefore (text : List ℕ) (symbols : List Symbol) (place : ℕ) : Type 0 where
  pub readable : list_all is_readable symbols ≡ true
  pub spelled : text ≡ flat_map bytes symbols ++ drop place text
  pub place_is : place ≡ length (flat_map bytes symbols)

-- the symbols before an offset are a number
pub record HasNumberBefore (most : ℕ) (text : List ℕ) (v place : ℕ) : Type 0 where
  pub symbols : List Symbol
  pub before : HasSymbolsBefore text symbols place
  pub number : IsNumber most symbols v

-- why parsing stops after a number: the next symbol can't follow it, or no symbol follows
abbrev pub NumberStops : ℕ → List ℕ → ℕ → ℕ → Refusal → Type 0
NumberStops most text v place why =
    ((p : Symbol × ℕ) × ReadsAt text place (Ok (Some p)) × AppendsDigit most v p.0 (Err why)) ⊎ ((e : SymbolOctetsError) × ReadsAt text place (Err e) × (why ≡ refusal_of e))

-- the result of parsing a text: the number that it is as a token; or the first error, after a number
abbrev pub ReadsTextAsNumber : ℕ → List ℕ → Result ℕ Fault → Type 0
ReadsTextAsNumber most text (Ok v) = NumberReads most text (Ok v)
ReadsTextAsNumber most text (Err fault) = (v : ℕ) × HasNumberBefore most text v fault.place × NumberStops most text v fault.place fault.refusal

-- the number is returned; or the error is reported, and the number is unchanged. The length is 0
abbrev pub ReturnsNumber : Result ℕ Fault → ℕ → ℕ → ℕ → Outcome → Type 0
ReturnsNumber (Ok v) old status new outcome = (status ≡ 0) × (outcome ≡ record { length = 0; place = 0 }) × (new ≡ v)
ReturnsNumber (Err fault) old status new outcome = ReportsFault fault status outcome × (new ≡ old)

-- a text is read as a number, and the result is reported
abbrev pub ReportsNumber : ℕ → List ℕ → ℕ → ℕ → ℕ → Outcome → Type 0
ReportsNumber most text old status new outcome = (answer : Result ℕ Fault) × ReadsTextAsNumber most text answer × ReturnsNumber answer old status new outcome
