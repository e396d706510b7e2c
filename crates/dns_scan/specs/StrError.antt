-- The texts of a scanner's errors, and the calls that made them.
use Rattle.std.specs.Prelude.{ℕ, List, codes}
use Rattle.dns_symbol.specs.Cause.{Cause, custom_text, end_of_entry, short_buf, trailing_tokens}
use Rattle.dns_scan.specs.declared.error.StrError.{StrError}
use Rattle.dns_scan.specs.declared.error.StrError.TheVariants.{Custom, EndOfEntry, ShortBuf, TrailingTokens}

-- the call that made an error
abbrev pub str_cause : StrError → Cause
str_cause (Custom text) = custom_text text.now
str_cause EndOfEntry = end_of_entry
str_cause ShortBuf = short_buf
str_cause TrailingTokens = trailing_tokens

-- an error's text
abbrev pub str_text : StrError → List ℕ
str_text (Custom text) = text.now
str_text EndOfEntry = codes "unexpected end of entry"
str_text ShortBuf = codes "short buffer"
str_text TrailingTokens = codes "trailing data"

-- the error of a buffer that is too small, or of a failed allocation
abbrev pub of_short_buf : StrError
of_short_buf = ShortBuf
