-- The result of a call: its status, its length and its place, and the caller's memory after it.
use Rattle.std.specs.Prelude.{◌≡◌, ℕ, ◌<◌, ◌≤◌, List, length, take, drop, min, Result, Ok, Err}
use Rattle.c_calls.specs.declared.outcome.Outcome.{Outcome}
use Rattle.c_calls.specs.declared.outcome.Fault.{Fault}
use Rattle.c_calls.specs.declared.outcome.Refusal.{Refusal}
use Rattle.c_calls.specs.declared.outcome.Refusal.TheVariants.{NoRoom, BadEscape, ShortInput, BadUtf8, BadSymbol, TooLong, BadEncoding, Closing, OpenParenthesis, OpenQuote}
use Rattle.c_calls.specs.declared.outcome.Refusal.TheVariants.{LoneReturn, BadCursor, EmptyLabel, LongLabel, BinaryLabel, BadLabel, Pointer, TrailingOctets, NoDigit, TooGreat}
use Rattle.c_calls.specs.declared.outcome.Refusal.TheVariants.{BadPlace, BadTtl, UnknownType, UnknownClass}
use Rattle.c_calls.specs.declared.outcome.Refusal.TheVariants.{BadHead, NotSupported, BadName, NoOrigin, NoOwner, RefusedOwner, BadData, NoTtl, RelativeName, BadGenerate}

-- the status of each error, as in the header
abbrev pub number_of : Refusal → ℕ
number_of NoRoom = 2
number_of BadEscape = 3
number_of ShortInput = 4
number_of BadUtf8 = 5
number_of BadSymbol = 6
number_of TooLong = 7
number_of BadEncoding = 8
number_of Closing = 9
number_of OpenParenthesis = 10
number_of OpenQuote = 11
number_of LoneReturn = 12
number_of BadCursor = 13
number_of EmptyLabel = 14
number_of LongLabel = 15
number_of BinaryLabel = 16
number_of BadLabel = 17
number_of Pointer = 18
number_of TrailingOctets = 19
number_of NoDigit = 20
number_of TooGreat = 21
number_of BadPlace = 22
number_of BadTtl = 23
number_of UnknownType = 24
number_of UnknownClass = 25
number_of BadHead = 27
number_of NotSupported = 28
number_of BadName = 29
number_of NoOrigin = 30
number_of NoOwner = 31
number_of RefusedOwner = 32
number_of BadData = 33
number_of NoTtl = 34
number_of RelativeName = 35
number_of BadGenerate = 37

-- the octets fit and are at the start of the buffer, and those after them are unchanged; or they don't fit and nothing was written. The length is their number
pub record CopiesWhole (octets old : List ℕ) (status : ℕ) (new : List ℕ) (outcome : Outcome) : Type 0 where
  pub told : outcome ≡ record { length = length octets; place = 0 }
  pub fits : length octets ≤ length old → (status ≡ 0) × (take (length octets) new ≡ octets) × (drop (length octets) new ≡ drop (length octets) old)
  pub lacks : length old < length octets → (status ≡ number_of NoRoom) × (new ≡ old)

-- the octets, cut to the buffer's length, are at its start, and those after them are unchanged
pub record WritesPrefix (octets old new : List ℕ) (count : ℕ) : Type 0 where
  pub count_is : count ≡ min (length octets) (length old)
  pub put : take count new ≡ take count octets
  pub rest : drop count new ≡ drop count old

-- an error of the whole input, with offset 0
abbrev pub at_start : Refusal → Fault
at_start refusal = record { refusal = refusal; place = 0 }

-- success, with this length
abbrev pub ReportsLength : ℕ → ℕ → Outcome → Type 0
ReportsLength n status outcome = (status ≡ 0) × (outcome ≡ record { length = n; place = 0 })

-- the status and the offset are the error's
abbrev pub ReportsFault : Fault → ℕ → Outcome → Type 0
ReportsFault fault status outcome = (status ≡ number_of fault.refusal) × (outcome ≡ record { length = 0; place = fault.place })

-- the octets are returned; or the error is reported, and nothing was written
abbrev pub IsReported : Result (List ℕ) Fault → List ℕ → ℕ → List ℕ → Outcome → Type 0
IsReported (Ok octets) old status new outcome = CopiesWhole octets old status new outcome
IsReported (Err fault) old status new outcome = ReportsFault fault status outcome × (new ≡ old)
