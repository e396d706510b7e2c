-- The entries of `$GENERATE` directives, one at a call.
use Rattle.std.specs.Prelude.{ℕ, ◌≡◌, ◌-◌, ◌<◌, ◌≤◌, ◌^◌, List, drop, length, Option, Some, None, Result, Ok, Err}
use Rattle.dns_lexer.specs.EntryTokens.{TokenSeen}
use Rattle.zone_generate.specs.Directives.{Generating, entry_text, generate_of}
use Rattle.zone_generate.specs.ErrorTexts.{generate_error_text}
use Rattle.zone_generate.specs.Ranges.{number_at}
use Rattle.zone_generate.specs.Tokens.{FindsDirective, directive_end}
use Rattle.zone_generate.specs.declared.error.GenerateError.{GenerateError}
use Rattle.c_calls.specs.Reports.{CopiesWhole, ReportsFault, WritesPrefix, at_start, number_of}
use Rattle.c_calls.specs.declared.outcome.Outcome.{Outcome}
use Rattle.c_calls.specs.declared.outcome.Refusal.TheVariants.{BadGenerate, TooLong}

-- a call: the caller's number and buffer before and after it, its status and its outcome
pub record EntryCall : Type 0 where
  pub old_number : ℕ
  pub number : ℕ
  pub old : List ℕ
  pub text : List ℕ
  pub status : ℕ
  pub outcome : Outcome

-- nothing was written
abbrev pub WritesNothing : EntryCall → Type 0
WritesNothing call = (call.number ≡ call.old_number) × (call.text ≡ call.old)

-- an error: its token's offset, and its text, cut to the buffer's length
abbrev pub ReportsRefusal : GenerateError → EntryCall → Type 0
ReportsRefusal e call = (call.status ≡ number_of BadGenerate) × (call.outcome.place ≡ e.at)
    × WritesPrefix (generate_error_text e.kind) call.old call.text call.outcome.length × (call.number ≡ call.old_number)

-- the text is copied whole, and the number is stored; or the text doesn't fit, and nothing was written
pub record CopiesEntry (n : ℕ) (entry : List ℕ) (call : EntryCall) : Type 0 where
  pub copies : CopiesWhole entry call.old call.status call.text call.outcome
  pub stored : length entry ≤ length call.old → call.number ≡ n
  pub stays : length call.old < length entry → call.number ≡ call.old_number

-- the entry of a number, unless it has more than 65,535 octets
pub record WritesNumber (n : ℕ) (g : Generating) (call : EntryCall) : Type 0 where
  pub short : length (entry_text n g) ≤ 65535 → CopiesEntry n (entry_text n g) call
  pub long : 65535 < length (entry_text n g) → ReportsFault (at_start TooLong) call.status call.outcome × WritesNothing call

-- that of an index, if there is one
abbrev pub WritesNumberIf : Option ℕ → Generating → EntryCall → Type 0
WritesNumberIf (Some n) g call = WritesNumber n g call
WritesNumberIf None g call = (call.status ≡ 1) × (call.outcome ≡ record { length = 0; place = 0 }) × WritesNothing call

-- and of a directive, unless it is rejected
abbrev pub WritesIndex : Result Generating GenerateError → ℕ → EntryCall → Type 0
WritesIndex (Ok g) index call = WritesNumberIf (number_at g.range index) g call
WritesIndex (Err e) index call = ReportsRefusal e call

-- the directive of tokens, with any number of entries
abbrev pub found_directive : Result (List TokenSeen) GenerateError → Result Generating GenerateError
found_directive (Ok tokens) = generate_of (2 ^ 64 - 1) (directive_end 0 tokens) (drop 1 tokens)
found_directive (Err e) = Err e

-- the entry of an index of the directive that some octets are
abbrev pub GeneratesEntry : List ℕ → ℕ → EntryCall → Type 0
GeneratesEntry octets index call = (found : Result (List TokenSeen) GenerateError) × FindsDirective octets found × WritesIndex (found_directive found) index call
